-- Tests of the elements of lists
use Rattle.driver_rows.proofs.Words.{rules, ◌≡◌, ◌||◌, Bool, true, false, List, [], ◌∷◌, map, refl, ap, ◌∙◌, ◌&&◌, list_any}

pub or_true : (a : Bool) → (a || true) ≡ true
or_true a = search rules

pub and_true : (a : Bool) → (a && true) ≡ a
and_true a = search rules

pub or_none : (a : Bool) → (a || false) ≡ a
or_none a = search rules

pub crossed : (b c d : Bool) → (b || (c || d)) ≡ (c || (b || d))
crossed b c d = search (rules, or_true)

-- one of two tests passes
pub any_or : {X : Type 0} (f g : X → Bool) (xs : List X) → list_any (λ x. f x || g x) xs ≡ (list_any f xs || list_any g xs)
any_or f g [] = refl
any_or f g (x ∷ xs) = ap (λ r. (f x || g x) || r) (any_or f g xs) ∙ (search (rules, crossed))

pub map_twice : {X Y Z : Type 0} (g : Y → Z) (f : X → Y) (xs : List X) → map g (map f xs) ≡ map (λ x. g (f x)) xs
map_twice g f [] = refl
map_twice g f (x ∷ xs) = ap (λ r. g (f x) ∷ r) (map_twice g f xs)

pub or_assoc : (a b c : Bool) → ((a || b) || c) ≡ (a || (b || c))
or_assoc a b c = search rules
