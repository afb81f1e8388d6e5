-- What stands in a list that is made of others, and which leases are open on a ring
use Rattle.leases.proofs.BaseWords.{◌≡◌, ◌+◌, ◌<◌, ◌≤◌, ◌==◌, ◌&&◌, ◌∷◌, ◌++◌, ◌⊎◌, ℕ, true, List, [], map, zero, suc, arith, sym, ap, refl, inl, inr, subst, eqb-true, eq-eqb, flat_map, range_with_len, cases_Bool, is_crossing, place_count, RingView, is_handed_over, due_crossings, due_positions, floor_number, leased_crossings, leased_positions, Header, Ring, Known, Leased, Block, Link, open_on, IsIn, from_filter, in_filter, rules}

pub in_left : {X : Type 0} (x : X) (xs ys : List X) → IsIn x xs → IsIn x (xs ++ ys)
in_left x [] ys at = absurd at
in_left x (z ∷ xs) ys at = search (rules, in_left x xs ys)

pub in_right : {X : Type 0} (x : X) (xs ys : List X) → IsIn x ys → IsIn x (xs ++ ys)
in_right x [] ys at = at
in_right x (z ∷ xs) ys at = inr (in_right x xs ys at)

pub in_either : {X : Type 0} (x : X) (xs ys : List X) → IsIn x (xs ++ ys) → IsIn x xs ⊎ IsIn x ys
in_either x [] ys at = inr at
in_either x (z ∷ xs) ys at = grind (arith, in_either x xs ys)

-- what holds of a list holds of one that is made of it and others
pub either_into : {X : Type 0} (P : List X → Type 0) → ((xs ys : List X) → P xs → P (xs ++ ys)) → ((xs ys : List X) → P ys → P (xs ++ ys)) →
    (x : X) (xs ys us vs : List X) → (IsIn x xs → P us) → (IsIn x ys → P vs) → IsIn x (xs ++ ys) → P (us ++ vs)
either_into P left right x xs ys us vs f g at = elim (in_either x xs ys at) [ inl here ↦ left us vs (f here) | inr there ↦ right us vs (g there) ]

pub five_into : {X : Type 0} (P : List X → Type 0) → ((xs ys : List X) → P xs → P (xs ++ ys)) → ((xs ys : List X) → P ys → P (xs ++ ys)) →
    (x : X) (a b c d e a' b' c' d' e' : List X) → (IsIn x a → P a') → (IsIn x b → P b') → (IsIn x c → P c') → (IsIn x d → P d') → (IsIn x e → P e') →
    IsIn x (a ++ b ++ c ++ d ++ e) → P (a' ++ b' ++ c' ++ d' ++ e')
five_into P left right x a b c d e a' b' c' d' e' f g h i j = search (rules, either_into P left right)

pub in_map : {X Y : Type 0} (f : X → Y) (xs : List X) (x : X) → IsIn x xs → IsIn (f x) (map f xs)
in_map f [] x at = absurd at
in_map f (y ∷ ys) x at = elim at [ inl here ↦ inl (ap f here) | inr later ↦ inr (in_map f ys x later) ]

pub from_map : {X Y : Type 0} (f : X → Y) (xs : List X) (y : Y) → IsIn y (map f xs) → (x : X) × IsIn x xs × (y ≡ f x)
from_map f [] y at = absurd at
from_map f (x ∷ xs) y at = elim at [ inl here ↦ (x, inl refl, here) | inr later ↦ let found = from_map f xs y later in (found.0, inr found.1, found.2) ]

pub in_flat_map : {X Y : Type 0} (f : X → List Y) (xs : List X) (x : X) (y : Y) → IsIn x xs → IsIn y (f x) → IsIn y (flat_map f xs)
in_flat_map f [] x y at there = absurd at
in_flat_map f (z ∷ zs) x y at there = search (rules, in_left, in_right, in_flat_map f zs x y)

pub from_flat_map : {X Y : Type 0} (f : X → List Y) (xs : List X) (y : Y) → IsIn y (flat_map f xs) → (x : X) × IsIn x xs × IsIn y (f x)
from_flat_map f [] y at = absurd at
from_flat_map f (x ∷ xs) y at = grind (arith, in_either y (f x) (flat_map f xs), from_flat_map f xs y)

pub in_range : (from n p : ℕ) → from ≤ p → p < from + n → IsIn p (range_with_len from n)
in_range from zero p low high = absurd (omega arith)
in_range from (suc n) p low high = grind (arith, eqb-true, eq-eqb, cases_Bool (p == from), in_range (from + 1) n p)

pub from_range : (from n p : ℕ) → IsIn p (range_with_len from n) → (from ≤ p) × (p < from + n)
from_range from zero p at = absurd at
from_range from (suc n) p at = grind (arith, from_range (from + 1) n p)

-- a lease that is open on a ring
pub data InOn (q : Ring) (v : RingView) : Leased → Type 0 where
  block : (p : ℕ) → floor_number v ≤ p → p < floor_number v + place_count q.shape → is_handed_over v p ≡ true → InOn q v (Block q.id p)
  link : (c : ℕ) → floor_number v ≤ c → c < floor_number v + (place_count q.shape + 1) → (is_crossing q.shape c && v.crossed c) ≡ true → InOn q v (Link q.id c)

pub in_on : (h : Header) (k : Known) (q : Ring) (l : Leased) → IsIn l (open_on h k q) → InOn q (k.ring q.id) l
unfolding open_on leased_positions leased_crossings due_positions due_crossings
in_on h k q l at = elim (in_either l (map (Block q.id) (leased_positions q.shape (k.ring q.id))) (map (Link q.id) (leased_crossings q.shape (k.ring q.id))) at) [
  | inl left ↦
      let found = from_map (Block q.id) (leased_positions q.shape (k.ring q.id)) l left in
      let passed = from_filter (is_handed_over (k.ring q.id)) (range_with_len (floor_number (k.ring q.id)) (place_count q.shape)) found.0 found.1 in
      subst (InOn q (k.ring q.id)) (sym found.2) (block found.0 (search (rules, from_range)) (search (rules, from_range)) passed.1)
  | inr right ↦
      let found = from_map (Link q.id) (leased_crossings q.shape (k.ring q.id)) l right in
      let passed = from_filter (λ c. is_crossing q.shape c && (k.ring q.id).crossed c) (range_with_len (floor_number (k.ring q.id)) (place_count q.shape + 1)) found.0 found.1 in
      subst (InOn q (k.ring q.id)) (sym found.2) (link found.0 (search (rules, from_range)) (search (rules, from_range)) passed.1)
]

pub on_in : (h : Header) (k : Known) (q : Ring) (l : Leased) → InOn q (k.ring q.id) l → IsIn l (open_on h k q)
unfolding open_on leased_positions leased_crossings due_positions due_crossings
on_in h k q _ (block p low high lent) = search (rules, in_left, in_map (Block q.id), in_filter, in_range)
on_in h k q _ (link c low high crossed) = search (rules, in_right, in_map (Link q.id), in_filter, in_range)
