-- What begins at a row that restores a ring and begins leases of its own, told in two steps: what is open before it (K), behind it (L), where the
-- ring alone is restored (R), and where the row's own step alone is made (S)
use Rattle.leases.proofs.UpperLaws.{◌≡◌, ◌<◌, ◌&&◌, ◌++◌, ◌∷◌, ◌∙◌, ℕ, Bool, true, false, not, List, [], filter, refl, sym, ap, inl, inr, and_parts, and_from, false≢true, IsIn, from_filter, in_among, in_filter, Leased, is_among, without_end, AllUnended, Lent, in_turn, newly_open, passed_on, precedes, with_begun, with_leased, rules, none_over, IsOpen, from_turn, passed_by, passed_open, filter_alike, filter_twice, begun_twice, arith}
use Rattle.leases.proofs.RingLeases.OpenBehind.{among_filtered}

-- ---- lists in turn

-- one that precedes all of the second list stands among the first
pub with_first : (l : Leased) (xs ys : List Leased) → ((m : Leased) → IsIn m ys → precedes l m ≡ true) → with_leased l (xs ++ ys) ≡ with_leased l xs ++ ys
unfolding with_leased
with_first l [] [] all = refl
with_first l [] (y ∷ ys) all = rw (all y (inl refl)) refl
with_first l (x ∷ xs) ys all = search (rules, with_first l xs ys all)

-- one that precedes none of the first list stands among the second
with_later : (l : Leased) (xs ys : List Leased) → ((m : Leased) → IsIn m xs → precedes l m ≡ false) → with_leased l (xs ++ ys) ≡ xs ++ with_leased l ys
unfolding with_leased
with_later l [] ys none = refl
with_later l (x ∷ xs) ys none = rw (none x (inl refl)) (ap (λ zs. x ∷ zs) (with_later l xs ys (λ m at. none m (inr at))))

-- the one stands before the other, whichever comes first
abbrev pub IsBefore : Leased → Leased → Type 0
IsBefore l m = (precedes l m ≡ true) × (precedes m l ≡ false)

-- where those that pass a test stand before those that don't
pub turn_parted : (P : Leased → Bool) (ls : List Leased) → ((l m : Leased) → IsIn l ls → P l ≡ true → IsIn m ls → P m ≡ false → IsBefore l m) →
    in_turn ls ≡ in_turn (filter P ls) ++ in_turn (filter (λ l. not (P l)) ls)
unfolding in_turn
turn_parted P [] before = refl
turn_parted P (l ∷ ls) before = search (rules, in_turn, filter, not, with_leased, with_first, from_filter, from_turn, with_later, false≢true, turn_parted P ls (λ a b at p bt q. before a b (inr at) p (inr bt) q))

-- where nothing ends
pub only_begins : (before after : List Leased) (n : ℕ) (ts : List Lent) → AllUnended (λ i l. IsOpen before l) 0 ts → ((l : Leased) → IsOpen before l → IsOpen after l) →
    passed_on before after n ts ≡ with_begun n ts (in_turn (newly_open before after))
only_begins before after n ts opened stays = search (rules, passed_by before after n ts opened (λ l. false), none_over)

pub either_way : (a b c : Bool) → a ≡ (b && not c) → b ≡ true → not a ≡ c
either_way a b c e f = grind (arith, false≢true)

gone_by : (a b : Bool) → b ≡ true → (a && not b) ≡ false
gone_by a b e = search rules

other_way : (a b c : Bool) → a ≡ (b && not c) → (not a && c) ≡ c
other_way a b c e = search rules

swap : (a b : Bool) → (a && b) ≡ (b && a)
swap a b = search rules

mid : (a b : Bool) → b ≡ false → (not (a && not b) && not b) ≡ not a
mid a b e = search rules

twice : (b : Bool) → not b ≡ false → b ≡ true
twice b e = search rules

-- R tells what is restored
module _ (R : Leased → Bool) (K L S U : List Leased)
    (alone : K ≡ filter (λ l. not (R l)) L) (with_step : S ≡ filter (λ l. not (R l)) U) (same : filter R L ≡ filter R U)
    (stays : (l : Leased) → IsOpen K l → IsOpen S l) where
  abbrev other : Leased → Bool
  other l = not (R l)

  in_K : (l : Leased) → is_among K l ≡ (is_among L l && not (R l))
  in_K l = ap (λ xs. is_among xs l) alone ∙ among_filtered other L l

  in_S : (l : Leased) → is_among S l ≡ (is_among U l && not (R l))
  in_S l = ap (λ xs. is_among xs l) with_step ∙ among_filtered other U l

  -- what is restored is there either way
  restored_there : (l : Leased) → R l ≡ true → is_among L l ≡ is_among U l
  restored_there l holds = grind (arith, among_filtered R L l, among_filtered R U l, same)

  K_in_L : (l : Leased) → IsOpen K l → IsOpen L l
  K_in_L l at = (and_parts (is_among L l) (not (R l)) (sym (in_K l) ∙ at)).0

  S_in_U : (l : Leased) → IsOpen S l → IsOpen U l
  S_in_U l at = (and_parts (is_among U l) (not (R l)) (sym (in_S l) ∙ at)).0

  pub L_in_U : (l : Leased) → IsOpen L l → IsOpen U l
  L_in_U l at = search (rules, restored_there, S_in_U, in_K, and_from, is_among, not)

  abbrev N : List Leased
  N = newly_open K U

  newly_restored : newly_open K L ≡ newly_open S U
  newly_restored = search (rules, filter_alike, not, is_among, either_way, in_K, in_among, in_S)

  restored_part : filter R N ≡ newly_open S U
  restored_part = filter_twice R (λ l. not (is_among K l)) U ∙ filter_alike (λ l. not (is_among K l) && R l) (λ l. not (is_among S l)) U
      (search (rules, other_way, in_K, either_way, in_S, in_among))

  own_part : filter other N ≡ newly_open K S
  own_part = search (rules, filter_twice, swap, with_step)

  -- what the row's own step begins is the same behind the restoring
  pub newly_own : newly_open L U ≡ newly_open K S
  newly_own = filter_alike (λ l. not (is_among L l)) (λ l. not (is_among K l) && other l) U (search (rules, restored_there, in_K, in_among, gone_by, mid))
      ∙ sym (filter_twice other (λ l. not (is_among K l)) U) ∙ own_part

  module _ (n : ℕ) (early : n < without_end) (ts : List Lent) (opened : AllUnended (λ i l. IsOpen K l) 0 ts) where
    K_in_U : (l : Leased) → IsOpen K l → IsOpen U l
    K_in_U l at = S_in_U l (stays l at)

    -- the ring is restored first, where what is restored stands before what the row's own step begins
    pub restored_first : ((l m : Leased) → R l ≡ true → IsIn m (newly_open K S) → IsBefore l m) → passed_on L U n (passed_on K L n ts) ≡ passed_on K U n ts
    restored_first before = search (rules, only_begins, passed_on, passed_open, L_in_U, with_begun, in_turn, newly_open, K_in_L, begun_twice, K_in_U, turn_parted, own_part, in_filter, restored_part, newly_restored, newly_own)

    -- the row's own step is made first, where what it begins stands before what is restored
    pub restored_last : ((l m : Leased) → R l ≡ true → IsIn m (newly_open K S) → IsBefore m l) → passed_on S U n (passed_on K S n ts) ≡ passed_on K U n ts
    restored_last after = search (rules, only_begins, passed_on, passed_open, S_in_U, with_begun, in_turn, newly_open, stays, begun_twice, K_in_U, turn_parted other N, own_part, in_filter, restored_part, twice, either_way, filter_alike (λ l. not (other l)) R N)
