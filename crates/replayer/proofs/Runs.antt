-- What a replay answers from a world on
use Rattle.replayer.proofs.Words.{◌≡◌, ◌+◌, ◌<◌, ◌++◌, ◌∷◌, ℕ, List, append-nil, drop, get_or, length, Option, Some, None, Ok, Err, arith, common_steps, Step, Harm, harm_of, Seen, NotPossible, judged, Scene, scene_ending_from, scene_seen_from, HarmfulAt, IsStep}

-- what a step that was made tells, and one that wasn't possible
pub step_goes : {X : Type 0} (o : Option X) (seen shown : Seen) (P : X → Type 0) → IsStep (Ok seen) o shown P → (v : X) × (o ≡ Some v) × (seen ≡ shown) × P v
step_goes o seen shown P made = grind arith

pub step_sticks : {X : Type 0} (o : Option X) (shown : Seen) (P : X → Type 0) → IsStep (Err NotPossible) o shown P → o ≡ None
step_sticks o shown P made = grind arith

-- the steps from one on
pub from_here : {X : Type 0} (xs : List X) (i : ℕ) (x : X) → i < length xs → x ≡ get_or xs i x → drop i xs ≡ x ∷ drop (i + 1) xs
from_here xs i x inside at = grind (arith, common_steps, inside, at)

-- harm ends the replay, whatever steps are left
pub harmful : (x : Scene) (n : ℕ) (k : Harm) (items : List Seen) (rest : List Step) → harm_of x.header x.world ≡ Some k →
    (items ≡ items ++ scene_seen_from (Some x) rest) × (scene_ending_from n (Some x) rest ≡ HarmfulAt n k)
unfolding scene_seen_from scene_ending_from judged
harmful x n k items rest e = grind (arith, append-nil)
