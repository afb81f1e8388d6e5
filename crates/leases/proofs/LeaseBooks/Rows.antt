-- What is lent after one more row, by which leases are open after it
use Rattle.leases.proofs.BaseWords.{◌≡◌, ◌+◌, ◌<◌, ◌&&◌, ◌∷◌, ◌++◌, ◌∙◌, ℕ, Bool, true, false, not, List, [], map, filter, sym, refl, inl, inr, cond, append-nil, false≢true, and_parts, nat_tests, Header, Row, Known, learned_or_reset, Leased, is_among, open_leases, without_end, IsIn, from_filter, in_among, Lent, is_unended, begun_at, with_leased, in_turn, ended_where, with_begun, grown, newly_open, passed_on, AllUnended, AreOpen, rules}
use Rattle.leases.proofs.LeaseBooks.Passing.{and_true, ended_alike, none_over}

-- what stands in order stood there before
pub from_with : (l : Leased) (ls : List Leased) (m : Leased) → IsIn m (with_leased l ls) → IsIn m (l ∷ ls)
unfolding with_leased
from_with l [] m at = at
from_with l (x ∷ rest) m at = search (rules, from_with l rest m)

pub from_turn : (ls : List Leased) (m : Leased) → IsIn m (in_turn ls) → IsIn m ls
unfolding in_turn
from_turn [] m at = at
from_turn (l ∷ rest) m at = search (rules, from_with, from_turn rest m)

module _ (P : Leased → Type 0) where
  abbrev F : ℕ → Leased → Type 0
  F i l = P l

  pub all_new : (n i : ℕ) (ls : List Leased) → ((l : Leased) → IsIn l ls → P l) → AllUnended F i (map (begun_at n) ls)
  unfolding begun_at
  all_new n i [] f = tt
  all_new n i (l ∷ ls) f = (λ u. f l (inl refl), all_new n (i + 1) ls (λ m at. f m (inr at)))

  all_joined : (i : ℕ) (xs ys : List Lent) → AllUnended F i xs → ((j : ℕ) → AllUnended F j ys) → AllUnended F i (xs ++ ys)
  all_joined i [] ys f g = g i
  all_joined i (x ∷ xs) ys f g = (f.0, all_joined (i + 1) xs ys f.1 g)

-- what isn't over behind a row is what the row ends not
all_left : (over : Leased → Bool) (n i : ℕ) (ts : List Lent) → n < without_end → AllUnended (λ j l. over l ≡ false) i (map (ended_where over n) ts)
unfolding ended_where is_unended
all_left over n i [] early = tt
all_left over n i (t ∷ ts) early = search (rules, is_unended, without_end, nat_tests, cond, false≢true, all_left over n (i + 1) ts early)

-- what was there before isn't new
pub none_new : (xs ys : List Leased) → ((l : Leased) → IsIn l ys → is_among xs l ≡ true) → filter (λ l. not (is_among xs l)) ys ≡ []
none_new xs [] there = refl
none_new xs (y ∷ ys) there = rw (there y (inl refl)) (none_new xs ys (λ l at. there l (inr at)))

-- it is among these, which are open
abbrev pub IsOpen : List Leased → Leased → Type 0
IsOpen open_now l = is_among open_now l ≡ true

not_over : (b : Bool) → not b ≡ false → b ≡ true
not_over b e = search rules

weaker : (G H : Leased → Type 0) (i : ℕ) (ts : List Lent) → ((l : Leased) → G l → H l) → AllUnended (λ j l. G l) i ts → AllUnended (λ j l. H l) i ts
weaker G H i [] f all = tt
weaker G H i (t ∷ ts) f all = (λ u. f t.leased (all.0 u), weaker G H (i + 1) ts f all.1)

-- what is open at first begins
pub first_open : (now : List Leased) (n : ℕ) → AllUnended (λ i l. IsOpen now l) 0 (with_begun n [] (in_turn now))
unfolding with_begun
first_open now n = all_new (IsOpen now) n 0 (in_turn now) (λ l at. in_among now l (from_turn now l at))

module _ (before after : List Leased) (n : ℕ) (ts : List Lent) where
  -- what is lent and not over behind a row is open
  pub passed_open : n < without_end → AllUnended (λ i l. IsOpen after l) 0 (passed_on before after n ts)
  unfolding passed_on with_begun
  passed_open early = all_joined (IsOpen after) 0 (map (ended_where (λ l. not (is_among after l)) n) ts) (map (begun_at n) (in_turn (newly_open before after)))
      (search (rules, weaker (λ l. not (is_among after l) ≡ false) (IsOpen after), not_over, all_left)) (search (rules, all_new, in_among, from_filter, from_turn))

  module _ (opened : AllUnended (λ i l. IsOpen before l) 0 ts) where
    -- the row ends the leases of which the test holds, and begins these
    pub passed_by : (over : Leased → Bool) (new : List Leased) → ((l : Leased) → IsOpen before l → is_among after l ≡ not (over l)) → in_turn (newly_open before after) ≡ new →
        passed_on before after n ts ≡ with_begun n (map (ended_where over n) ts) new
    unfolding passed_on
    passed_by over new left e = search (rules, ended_alike)

    -- nothing begins
    pub only_passed : (over : Leased → Bool) → ((l : Leased) → is_among after l ≡ (is_among before l && not (over l))) → passed_on before after n ts ≡ map (ended_where over n) ts
    unfolding in_turn with_begun
    only_passed over narrows = search (rules, passed_by over [], none_new, and_parts, in_among, append-nil)

    -- nothing begins or ends
    pub nothing_passed : ((l : Leased) → is_among after l ≡ is_among before l) → passed_on before after n ts ≡ ts
    nothing_passed same = only_passed (λ l. false) (λ l. same l ∙ sym (and_true (is_among before l))) ∙ none_over (λ l. false) n ts (λ l. refl)

module _ (h : Header) where
  -- what is open when this is known
  abbrev open_at : Known → List Leased
  open_at k = open_leases h k

  module _ (k : Known) (ts : List Lent) (still : AreOpen h k ts) (row : Row) (n : ℕ) where
    abbrev was : List Leased
    was = open_at k

    abbrev is : List Leased
    is = open_at (learned_or_reset h k row)

    pub grown_by : (over : Leased → Bool) (new : List Leased) → ((l : Leased) → IsOpen was l → is_among is l ≡ not (over l)) → in_turn (filter (λ l. not (is_among was l)) is) ≡ new →
        grown h k row n ts ≡ with_begun n (map (ended_where over n) ts) new
    unfolding grown
    grown_by over new left e = passed_by was is n ts still over new left e

    pub only_ended : (over : Leased → Bool) → ((l : Leased) → is_among is l ≡ (is_among was l && not (over l))) →
        grown h k row n ts ≡ map (ended_where over n) ts
    unfolding grown
    only_ended over narrows = only_passed was is n ts still over narrows

    pub nothing_new : ((l : Leased) → is_among is l ≡ is_among was l) → grown h k row n ts ≡ ts
    unfolding grown
    nothing_new same = nothing_passed was is n ts still same

    -- nothing ends
    pub only_begun : (new : List Leased) → ((l : Leased) → IsOpen was l → IsOpen is l) → in_turn (filter (λ l. not (is_among was l)) is) ≡ new →
        grown h k row n ts ≡ with_begun n ts new
    only_begun new kept e = search (rules, grown_by (λ l. false), none_over)
