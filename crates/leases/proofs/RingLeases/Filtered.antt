-- Lists of what passes a test
use Rattle.leases.proofs.BaseWords.{arith, ◌≡◌, ◌&&◌, ◌∷◌, Bool, List, [], filter, map, refl, inl, inr, cases_Bool, IsIn}

pub filter_alike : {X : Type 0} (p q : X → Bool) (xs : List X) → ((x : X) → IsIn x xs → p x ≡ q x) → filter p xs ≡ filter q xs
filter_alike p q [] same = refl
filter_alike p q (x ∷ xs) same = rw (same x (inl refl), filter_alike p q xs (λ y at. same y (inr at))) refl

pub filter_twice : {X : Type 0} (p q : X → Bool) (xs : List X) → filter p (filter q xs) ≡ filter (λ x. q x && p x) xs
filter_twice p q [] = refl
filter_twice p q (x ∷ xs) = grind (arith, cases_Bool, filter_twice p q xs)

pub filter_mapped : {X Y : Type 0} (p : Y → Bool) (f : X → Y) (xs : List X) → filter p (map f xs) ≡ map f (filter (λ x. p (f x)) xs)
filter_mapped p f [] = refl
filter_mapped p f (x ∷ xs) = grind (arith, cases_Bool, filter_mapped p f xs)
