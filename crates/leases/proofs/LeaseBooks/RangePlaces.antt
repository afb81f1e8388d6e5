-- The indexes find each range that is under lease, when one begins and when some end
use Rattle.leases.proofs.BaseWords.{not-true, and_false, ◌≡◌, ◌≢◌, ◌==◌, ◌&&◌, ◌∷◌, ◌∙◌, ℕ, Bool, true, false, List, [], length, map, OnOk, Result, arith, sym, refl, subst, eq-eqb, list_any, false≢true, Header, Leased, Range, Use, InputContext, SegmentTable, SlotEntry, DeviceContext, Indexes, RangeIndexes, index_in, Lent, is_unended, ended_where, with_begun, FindsRanges, IsRangeFound, IsUseFound, StandsAt, command_place, is_use_free, share_a_use, shares_use}
use Rattle.leases.proofs.LeaseBooks.Unended.{all_anew, all_begun, all_ended}

-- the ranges for other uses are found as before
abbrev pub IsKept : Header → Use → RangeIndexes → RangeIndexes → Type 0
IsKept h e x y = (i n a : ℕ) (f : Use) → share_a_use h e f ≡ false → IsUseFound h x i n a f → IsUseFound h y i n a f

module _ (h : Header) (x y : RangeIndexes) (e : Use) (kept : IsKept h e x y) where
  step : (i : ℕ) (m : Leased) → shares_use h e m ≡ false → IsRangeFound h x i m → IsRangeFound h y i m
  step i m apart was = grind arith

  pub range_begins : (row n a : ℕ) (ts : List Lent) → IsUseFound h y (length ts) n a e → FindsRanges h ts x → is_use_free h ts e ≡ true → FindsRanges h (with_begun row ts (Range n a e ∷ [])) y
  unfolding is_use_free
  range_begins row n a ts here all free =
      all_begun (IsRangeFound h x) (IsRangeFound h y) (shares_use h e) row (Range n a e) 0 ts step (subst (λ (i : ℕ). IsUseFound h y i n a e) (omega arith) here) (not-true _ free) all

other : (m n : ℕ) → (m == n) ≡ false → n ≢ m
other m n apart e = false≢true (sym apart ∙ eq-eqb m n (sym e))

module _ (h : Header) (x : RangeIndexes) (t : Indexes) where
  pub context_put : (p place : ℕ) → place ≡ command_place h p → ((m : ℕ) → m ≢ place → index_in t m ≡ index_in x.contexts m) → IsKept h (InputContext p) x (record x { contexts = t })
  context_put p place at others i n a f apart was = grind (arith, command_place, other)

  pub entry_put : (slot number : ℕ) → number ≡ slot → ((m : ℕ) → m ≢ number → index_in t m ≡ index_in x.entries m) → IsKept h (SlotEntry slot) x (record x { entries = t })
  entry_put slot number at others i n a f apart was = grind (arith, other)

  pub device_put : (slot number : ℕ) → number ≡ slot → ((m : ℕ) → m ≢ number → index_in t m ≡ index_in x.devices m) → IsKept h (DeviceContext slot) x (record x { devices = t })
  device_put slot number at others i n a f apart was = grind (arith, other)

pub table_put : (h : Header) (x : RangeIndexes) (at : ℕ) → IsKept h SegmentTable x (record x { table = at })
table_put h x at i n a f apart was = grind arith

-- where the range for a use is found it stands
pub stands : (h : Header) (x : RangeIndexes) (ts : List Lent) (n a index : ℕ) (e : Use) → ((i : ℕ) → IsUseFound h x i n a e → i ≡ index) → FindsRanges h ts x → StandsAt ts (Range n a e) index
stands h x ts n a index e at all = all_anew (IsRangeFound h x) (λ j m. m ≡ Range n a e → j ≡ index) 0 ts (λ i m found same. at i (subst (IsRangeFound h x i) same found)) all

-- what isn't found by its use begins
abbrev pub IsNoUse : Leased → Type 0
IsNoUse l = (h : Header) (x : RangeIndexes) (i : ℕ) → IsRangeFound h x i l

none_shared : (us : List Lent) → list_any (λ t. is_unended t && false) us ≡ false
none_shared [] = refl
none_shared (u ∷ us) = rw (and_false (is_unended u)) (none_shared us)

pub others_begin : (h : Header) (x : RangeIndexes) (row : ℕ) (l : Leased) (ts : List Lent) → IsNoUse l → FindsRanges h ts x → FindsRanges h (with_begun row ts (l ∷ [])) x
others_begin h x row l ts none all = all_begun (IsRangeFound h x) (IsRangeFound h x) (λ m. false) row l 0 ts (λ i m apart was. was) (none h x _) (none_shared ts) all

-- leases end
pub some_end : (h : Header) (x : RangeIndexes) (over : Leased → Bool) (row : ℕ) (ts : List Lent) → FindsRanges h ts x → FindsRanges h (map (ended_where over row) ts) x
some_end h x over row ts all = all_ended (IsRangeFound h x) over row 0 ts all

-- what holds, holds of each answer
pub always_ok : {T E P : Type 0} (r : Result T E) → P → OnOk r P
always_ok r p = grind arith
