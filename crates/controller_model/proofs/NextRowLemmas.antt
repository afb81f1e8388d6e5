-- The rows that are left, and how one of them is made
use Rattle.controller_model.proofs.Words.{Rings, arith, ℕ, Follows, FollowsScene, Kept, Row, row_made, Scene, row_next, step_made, with_left, with_world, ◌≡◌, ◌≢◌, ◌∷◌, List, [], slice_get, Option, Some, None, Err, Result, option_map, ap, refl, Step, NextRow, World, stepped, Seen, StepFault, IsStep}

pub nothing_left : {X : Type 0} (xs : List X) → slice_get xs 0 ≡ None → xs ≡ []
nothing_left [] e = refl
nothing_left (x ∷ xs) e = absurd (cc)

pub first_left : {X : Type 0} (xs : List X) (x : X) → slice_get xs 0 ≡ Some x → (rest : List X) × (xs ≡ x ∷ rest)
first_left [] x e = absurd (cc)
first_left (y ∷ ys) x e = (ys, cc)

-- what a row does in the world alone leaves the rings that are there, and the rows
pub follows_made : {rings : Rings} {rows : List Row} {words new : ℕ → ℕ} {k made : Kept} {x : Scene} {w : World} → FollowsScene rings rows words k x →
    Follows rings.declared new made w → FollowsScene rings rows new made (record x { header = rings.declared; world = w })
follows_made f follows = record { header = refl; live = f.live; lists = f.lists; left = f.left; follows = follows }

-- a step leads to more than a world
pub step_mapped : {X Y : Type 0} (r : Result Seen StepFault) (o : Option X) (g : X → Y) (shown : Seen) (P : X → Type 0) (Q : Y → Type 0) → ((x : X) → P x → Q (g x)) →
    IsStep r o shown P → IsStep r (option_map g o) shown Q
step_mapped r o g shown P Q more step = grind arith

-- where a step failed nothing is said of what comes of it
pub step_failed : {X Y : Type 0} (fault : StepFault) (o : Option X) (g : X → Y) (shown : Seen) (P : X → Type 0) (Q : Y → Type 0) →
    IsStep (Err fault) o shown P → IsStep (Err fault) (option_map g o) shown Q
step_failed fault o g shown P Q step = grind arith

pub row_next_is : (x : Scene) (row : Row) (rest : List Row) → x.rows ≡ row ∷ rest → row_next x x.rows ≡ option_map (with_left rest) (row_made x row)
row_next_is x row rest left = ap (λ rows. row_next x rows) left

pub step_made_is : (x : Scene) (s : Step) → s ≢ NextRow → step_made x s ≡ option_map (with_world x) (stepped x.header x.live x.world s)
unfolding stepped
step_made_is x s other = grind arith
