-- The rings of a header lie apart: no two have the same ID or a byte in common
use Rattle.trace_record.proofs.BaseWords.{rules, ◌≡◌, ◌≢◌, ◌<◌, ◌∷◌, ◌==◌, ◌⊎◌, ℕ, List, [], Bool, true, false, Some, refl, ap, arith, length, get_or, zero, suc, inl, inr, subst, not, slice_get, get_or_from_slice_get, slice_get_within, list_any, or_parts, and_parts, false≢true, nat_tests, is_inside, rings_apart, Ring, clash, may_stand_together, is_command_kind, is_event_kind}

pub same_number : (n : ℕ) → (n == n) ≡ true
same_number n = grind (arith, nat_tests)

pub other_number : (m n : ℕ) → m ≢ n → (m == n) ≡ false
other_number m n h = grind (arith, nat_tests, h)

-- the ring stands in the list
abbrev pub IsAmong : Ring → List Ring → Type 0
IsAmong r [] = ⊥
IsAmong r (q ∷ rest) = (q ≡ r) ⊎ IsAmong r rest

pub among_get : (rs : List Ring) (i : ℕ) (d : Ring) → i < length rs → IsAmong (get_or rs i d) rs
among_get [] i d h = absurd (omega arith)
among_get (r ∷ rest) zero d h = inl refl
among_get (r ∷ rest) (suc i) d h = inr (among_get rest i d (omega arith))

pub among_at : (rs : List Ring) (i : ℕ) (r : Ring) → slice_get rs i ≡ Some r → IsAmong r rs
among_at rs i r e = subst (λ (x : Ring). IsAmong x rs) (get_or_from_slice_get rs i r r e) (among_get rs i r (slice_get_within rs i r e))

-- what fails at each number fails for each ring
pub each_among : (f : Ring → Bool) (rs : List Ring) → ((i : ℕ) (d : Ring) → i < length rs → f (get_or rs i d) ≡ false) → (q : Ring) → IsAmong q rs → f q ≡ false
each_among f [] fails q among = absurd among
each_among f (r ∷ rest) fails q among = search (rules, fails 0 r, each_among f rest (λ i d h. fails (suc i) d (omega arith)) q)

-- two rings that may stand together
pub record Apart (r q : Ring) : Type 0 where
  pub ids : r.id ≢ q.id
  pub memory : (a : ℕ) → is_inside r.shape a ≡ true → is_inside q.shape a ≡ true → ⊥
  pub one_command : is_command_kind r.shape.kind ≡ true → is_command_kind q.shape.kind ≡ true → ⊥
  pub one_event : is_event_kind r.shape.kind ≡ true → is_event_kind q.shape.kind ≡ true → ⊥

pub apart_back : (r q : Ring) → Apart r q → Apart q r
apart_back r q x = search rules

each_apart : (r : Ring) (rest : List Ring) → list_any (clash r) rest ≡ false → (q : Ring) → IsAmong q rest → Apart r q
each_apart r [] e q among = absurd among
each_apart r (x ∷ rest) e q (inl same) = subst (λ (y : Ring). Apart r y) same (search (rules, or_parts, is_command_kind, is_event_kind, rings_apart, false≢true))
each_apart r (x ∷ rest) e q (inr later) = each_apart r rest (or_parts (clash r x) (list_any (clash r) rest) e).1 q later

pub first_apart : (r : Ring) (rest : List Ring) → may_stand_together (r ∷ rest) ≡ true → (q : Ring) → IsAmong q rest → Apart r q
first_apart r rest together q among = search (rules, each_apart r rest, and_parts, clash)

pub rest_together : (r : Ring) (rest : List Ring) → may_stand_together (r ∷ rest) ≡ true → may_stand_together rest ≡ true
rest_together r rest together = (and_parts (not (list_any (clash r) rest)) (may_stand_together rest) together).1

-- two rings are one, or apart
pub same_or_apart : (rs : List Ring) → may_stand_together rs ≡ true → (r q : Ring) → IsAmong r rs → IsAmong q rs → (q ≡ r) ⊎ Apart r q
same_or_apart [] together r q a b = absurd a
same_or_apart (x ∷ rest) together r q a b = search (rules, first_apart x rest together, apart_back, same_or_apart rest (rest_together x rest together) r q)

-- rings of two numbers are apart
pub numbers_apart : (rs : List Ring) → may_stand_together rs ≡ true → (i n : ℕ) (q r : Ring) → slice_get rs i ≡ Some q → slice_get rs n ≡ Some r → i ≢ n → Apart q r
numbers_apart [] together i n q r e f other = search rules
numbers_apart (x ∷ rest) together zero n q r e f other = search (rules, first_apart x rest together r, among_at rest)
numbers_apart (x ∷ rest) together (suc i) zero q r e f other = search (rules, apart_back, first_apart x rest together q (among_at rest i q e))
numbers_apart (x ∷ rest) together (suc i) (suc n) q r e f other = numbers_apart rest (rest_together x rest together) i n q r e f (λ same. other (ap suc same))
