-- Tests over lists that are put together or filtered
use Rattle.trace_record.proofs.BaseWords.{rules, arith, common_steps, ◌≡◌, ◌∷◌, ◌++◌, ◌∙◌, ◌||◌, ◌&&◌, List, [], Bool, true, false, refl, ap, not, map, filter, list_any, flat_map}

-- what isn't true is false
pub false_unless : (b : Bool) → (b ≡ true → ⊥) → b ≡ false
false_unless b h1 = search rules

pub and_left : (x y : Bool) → (x && y) ≡ true → x ≡ true
and_left x y h1 = search rules

pub and_right : (x y : Bool) → (x && y) ≡ true → y ≡ true
and_right x y h1 = search rules

pub or_false : (b : Bool) → (b || false) ≡ b
or_false b = search rules

pub and_false : (b : Bool) → (b && false) ≡ false
and_false b = search rules

pub any_append : {X : Type 0} (f : X → Bool) (xs ys : List X) → list_any f (xs ++ ys) ≡ (list_any f xs || list_any f ys)
any_append f xs ys = grind (arith, common_steps, list_any)

pub any_map : {X Y : Type 0} (f : Y → Bool) (g : X → Y) (xs : List X) → list_any f (map g xs) ≡ list_any (λ x. f (g x)) xs
any_map f g [] = refl
any_map f g (x ∷ xs) = ap (λ b. f (g x) || b) (any_map f g xs)

pub any_flat_map : {X Y : Type 0} (f : Y → Bool) (g : X → List Y) (xs : List X) → list_any f (flat_map g xs) ≡ list_any (λ x. list_any f (g x)) xs
any_flat_map f g [] = refl
any_flat_map f g (x ∷ xs) = any_append f (g x) (flat_map g xs) ∙ ap (λ b. list_any f (g x) || b) (any_flat_map f g xs)

-- what passes for none
pub any_nowhere : {X : Type 0} (f : X → Bool) → ((x : X) → f x ≡ false) → (xs : List X) → list_any f xs ≡ false
any_nowhere f none [] = refl
any_nowhere f none (x ∷ xs) = rw (none x) (any_nowhere f none xs)

pub any_filter : {X : Type 0} (f g : X → Bool) (xs : List X) → list_any f (filter g xs) ≡ list_any (λ x. g x && f x) xs
any_filter f g [] = refl
any_filter f g (x ∷ xs) = search (rules, any_filter f g xs)

pub filter_nothing : {X : Type 0} (f : X → Bool) → ((x : X) → f x ≡ false) → (xs : List X) → filter f xs ≡ []
filter_nothing f none [] = refl
filter_nothing f none (x ∷ xs) = rw (none x) (filter_nothing f none xs)

pub filter_append : {X : Type 0} (f : X → Bool) (xs ys : List X) → filter f (xs ++ ys) ≡ filter f xs ++ filter f ys
filter_append f xs ys = grind (arith, common_steps)

pub filter_flat_map : {X Y : Type 0} (f : Y → Bool) (g : X → List Y) (xs : List X) → filter f (flat_map g xs) ≡ flat_map (λ x. filter f (g x)) xs
filter_flat_map f g [] = refl
filter_flat_map f g (x ∷ xs) = filter_append f (g x) (flat_map g xs) ∙ ap (λ zs. filter f (g x) ++ zs) (filter_flat_map f g xs)

pub from_not : (b d : Bool) → not b ≡ d → b ≡ not d
from_not b d h1 = search (rules, not)
