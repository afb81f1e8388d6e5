-- What a row says that breaks no rule; where no descriptor was withdrawn nothing is free; and what breaks no rule of the trace's version breaks no
-- lenient one
use Rattle.ownership_checker.proofs.Words.{reset, resets, cond_both, gone, given_up, held_at_given, learned_or_reset, id_of, is_ring, ◌≡◌, ◌∷◌, ◌++◌, ◌∙◌, ◌==◌, ℕ, Bool, true, false, if◌then◌else◌, List, [], Some, filter, refl, sym, ap, subst, inl, inr, cases_Bool, false≢true, Header, Known, Ring, learned, command_ring, nothing, shape_of, flips_passed, is_not_restored, unrestored, due_positions, Reg, Row, FreeRow, NopRow, RingView, broken_of, first_of, broken, Refusal, AfterStop, NotRestored, WriteToOwned, lenient_row, forgotten, AreKept, IsKept, header_now, known_now, is_left, restored, restored_on, ring_restored, some_flips, restored_same, AreClean, NothingFree, broken_restored, row_broken, list_any, no_flips, free_same, rules, arith, is_ring_row, header_after, known_after, RingRow}

-- ---- a row

abbrev chosen : Bool → Bool → List Refusal → List Refusal → List Refusal
chosen stopped left cs ds = if stopped then AfterStop ∷ [] else if left then cs ++ NotRestored ∷ [] else ds

not_none : (cs : List Refusal) (c : Refusal) → cs ++ c ∷ [] ≡ [] → ⊥
not_none [] c e = cc e
not_none (d ∷ ds) c e = cc e

none_chosen : (stopped left flips : Bool) (cs ds : List Refusal) → chosen stopped left cs (broken_of ((WriteToOwned, flips) ∷ []) ++ ds) ≡ [] →
    (stopped ≡ false) × (left ≡ false) × (flips ≡ false) × (ds ≡ [])
none_chosen stopped left flips cs ds e = grind (arith, not_none cs NotRestored)

least_of_both : (cs : List Refusal) (c d : Refusal) → first_of cs ≡ Some c → first_of (cs ++ d ∷ []) ≡ Some c
least_of_both [] c d e = absurd (cc)
least_of_both (x ∷ xs) c d e = e

module _ (h : Header) (k : Known) (row : Row) where
  -- it comes before the stop, what it starts or moves stands as declared, and behind that it breaks no rule
  pub record BreaksNoRule : Type 0 where
    pub on : k.stopped ≡ false
    pub stands : is_left h k (ring_restored h k row) ≡ false
    pub flips : some_flips h (restored h k row) row ≡ false
    pub clean : broken h (restored h k row) row ≡ []

  pub breaks_no_rule : row_broken h k row ≡ [] → BreaksNoRule
  breaks_no_rule clean = search (rules, none_chosen k.stopped (is_left h k (ring_restored h k row)) (some_flips h (restored h k row) row) (broken h k row) (broken h (restored h k row) row) clean)

  pub no_rule_broken : BreaksNoRule → row_broken h k row ≡ []
  no_rule_broken c = search rules

  pub row_kept : row_broken h k row ≡ [] → IsKept h k row
  row_kept clean = let c = breaks_no_rule clean in (lenient_row h (restored h k row) row c.clean, c.stands, c.flips)

  -- ---- the least rule that it breaks

  pub least_off : k.stopped ≡ true → first_of (row_broken h k row) ≡ Some AfterStop
  least_off off = rw off refl

  module _ (on : k.stopped ≡ false) where
    pub left_broken : is_left h k (ring_restored h k row) ≡ true → row_broken h k row ≡ broken h k row ++ NotRestored ∷ []
    left_broken left = grind arith

    pub restored_broken : is_left h k (ring_restored h k row) ≡ false → row_broken h k row ≡ broken_restored h (restored h k row) row
    restored_broken stands = grind arith

    pub least_left : (c : Refusal) → is_left h k (ring_restored h k row) ≡ true → first_of (broken h k row) ≡ Some c → first_of (row_broken h k row) ≡ Some c
    least_left c left least = ap first_of (left_broken left) ∙ least_of_both (broken h k row) c NotRestored least

    pub only_left : is_left h k (ring_restored h k row) ≡ true → broken h k row ≡ [] → first_of (row_broken h k row) ≡ Some NotRestored
    only_left left none = ap first_of (left_broken left) ∙ ap (λ cs. first_of (cs ++ NotRestored ∷ [])) none

    pub least_restored : (c : Refusal) → is_left h k (ring_restored h k row) ≡ false → first_of (broken_restored h (restored h k row) row) ≡ Some c → first_of (row_broken h k row) ≡ Some c
    least_restored c stands least = ap first_of (restored_broken stands) ∙ least

module _ (h : Header) (k : Known) (row : Row) where
  pub least_flips : some_flips h k row ≡ true → first_of (broken_restored h k row) ≡ Some WriteToOwned
  least_flips flips = rw flips refl

  pub unflipped : some_flips h k row ≡ false → broken_restored h k row ≡ broken h k row
  unflipped none = rw none refl

  pub least_unflipped : some_flips h k row ≡ false → (c : Refusal) → first_of (broken h k row) ≡ Some c → first_of (broken_restored h k row) ≡ Some c
  least_unflipped none c least = ap first_of (unflipped none) ∙ least

-- ---- nothing is free

forgotten_free : (k : Known) (id : ℕ) → NothingFree k → NothingFree (forgotten k id)
unfolding forgotten
forgotten_free k id none r = grind (arith, cases_Bool (r == id))

gone_free : (h : Header) (k : Known) (id : ℕ) → NothingFree k → NothingFree (gone h k id)
unfolding gone
gone_free h k id none = forgotten_free k id none

-- a reset leaves what is free
reset_free : (h : Header) (k : Known) → NothingFree k → NothingFree (reset h k)
unfolding reset given_up held_at_given
reset_free h k none r p = cond_both (is_ring r (id_of (command_ring h))) _ _ (λ (v : RingView). v.free p ≡ false) (λ _. none r p) (λ _. none r p)

learned_free : (h : Header) (k : Known) (row : Row) → NothingFree k → NothingFree (learned h k row)
learned_free h k row none r p = search (rules, free_same, none)

free_behind : (h : Header) (k : Known) (row : Row) → NothingFree k → NothingFree (learned_or_reset h k row)
free_behind h k (Reg r v) none = cond_both (resets k r v) _ _ NothingFree (λ _. reset_free h k none) (λ _. learned_free h k (Reg r v) none)
free_behind h k row none = learned_free h k row none

none_in : (f P : ℕ → Bool) (xs : List ℕ) → ((p : ℕ) → f p ≡ false) → list_any P (filter f xs) ≡ false
none_in f P [] none = refl
none_in f P (x ∷ xs) none = rw (none x) (none_in f P xs none)

module _ (h : Header) (k : Known) (none : NothingFree k) where
  stands : (r : ℕ) → is_not_restored (shape_of h r) (k.ring r) k.memory ≡ false
  unfolding is_not_restored unrestored
  stands r = none_in (k.ring r).free _ (due_positions (shape_of h r) (k.ring r)) (none r)

  flips_none : (a w : ℕ) (rs : List Ring) → list_any (λ r. flips_passed r.shape (k.ring r.id) a w) rs ≡ false
  flips_none a w [] = refl
  flips_none a w (r ∷ rs) = rw (no_flips r.shape (k.ring r.id) a w (none r.id)) (flips_none a w rs)

  -- what a row starts or moves stands as declared, and it flips nothing
  pub stands_where_restored : (row : Row) → is_left h k (ring_restored h k row) ≡ false
  unfolding is_left
  stands_where_restored row = grind (arith, stands)

  pub flips_none_restored : (row : Row) → some_flips h (restored h k row) row ≡ false
  unfolding some_flips
  flips_none_restored row = subst (λ x. some_flips h x row ≡ false) (sym (restored_same h k row none)) (search (rules, flips_none))

  -- what it breaks is what it breaks where nothing was withdrawn
  pub driver_same : (row : Row) → row_broken h k row ≡ broken h k row
  unfolding broken
  driver_same row = elim (cases_Bool k.stopped) [
    | inl off ↦ rw off refl
    | inr on ↦ restored_broken h k row on (stands_where_restored row) ∙ unflipped h (restored h k row) row (flips_none_restored row)
        ∙ ap (λ x. broken h x row) (restored_same h k row none)
  ]

-- ---- behind rows

-- by a row of the driver no ring comes or goes, and no descriptor is withdrawn
pub header_driven : (h : Header) (row : Row) → is_ring_row row ≡ false → header_after h row ≡ h
header_driven h row driven = grind arith

pub driven_after : (h : Header) (k : Known) (row : Row) → is_ring_row row ≡ false → known_after h k row ≡ learned_or_reset h (restored h k row) row
unfolding restored_on ring_restored
driven_after h k (RingRow ring) driven = absurd (false≢true (sym driven))
driven_after h k (FreeRow id) driven = absurd (false≢true (sym driven))
driven_after h k (NopRow r p) driven = absurd (false≢true (sym driven))
driven_after h k row driven = refl

module _ (h : Header) (past : List Row) (none : NothingFree (known_now h past)) where
  pub known_driven : (row : Row) → is_ring_row row ≡ false → known_now h (row ∷ past) ≡ learned_or_reset (header_now h past) (known_now h past) row
  known_driven row driven =
      driven_after (header_now h past) (known_now h past) row driven ∙ ap (λ k. learned_or_reset (header_now h past) k row) (restored_same (header_now h past) (known_now h past) row none)

  pub driven_free : (row : Row) → is_ring_row row ≡ false → NothingFree (known_now h (row ∷ past))
  driven_free row driven = rw (known_driven row driven) (free_behind (header_now h past) (known_now h past) row none)

  pub comes_free : (ring : Ring) → NothingFree (known_now h (RingRow ring ∷ past))
  comes_free ring = forgotten_free (known_now h past) ring.id none

  pub goes_free : (id : ℕ) → NothingFree (known_now h (FreeRow id ∷ past))
  goes_free id = gone_free (header_now h past) (known_now h past) id none

pub nothing_free : NothingFree nothing
unfolding nothing
nothing_free r p = refl

pub kept_now : (h : Header) (past : List Row) → AreClean h past → AreKept h past
kept_now h [] clean = tt
kept_now h (row ∷ past) clean = (kept_now h past clean.0, row_kept (header_now h past) (known_now h past) row clean.1)
