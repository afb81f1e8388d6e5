-- What the log of a pass keeps behind one row more
use Rattle.ownership_checker.proofs.LowerLaws.{forgotten, gone, IsKept, learned_or_reset, ◌≡◌, ◌+◌, ◌<◌, ◌≤◌, ◌∷◌, ℕ, true, false, Some, List, [], length, arith, sym, subst, Header, Known, Ring, Write, none-some, on_ring, open_leases, RingKind, lenient, clean_tests, Row, RingRow, FreeRow, is_driver_kind, is_transfer_kind, without_end, AreOpen, IsInStep, Lent, grown, lents, passed_on, RangeIndexes, HoldsAll, IsNextRow, with_ring, without_ring, header_now, known_now, in_step_now, lent_open, IsRingPassed, RingPass, ring_restored, Restores, rung_now, is_ring_row, header_after, header_driven, restored_on}

pub transfer_drives : (n : RingKind) → is_transfer_kind n ≡ true → is_driver_kind n ≡ true
transfer_drives n e = grind arith

-- by a ring that comes or goes none is restored
pub comes_clean : (h : Header) (k : Known) (ring : Ring) → IsKept h k (RingRow ring) → lenient h k (RingRow ring) ≡ []
unfolding ring_restored restored_on
comes_clean h k ring kept = kept.0

pub goes_clean : (h : Header) (k : Known) (id : ℕ) → IsKept h k (FreeRow id) → lenient h k (FreeRow id) ≡ []
unfolding ring_restored restored_on
goes_clean h k id kept = kept.0

module _ {B M : Type 0} (words : M → ℕ → ℕ) (Holds : Header → List Lent → B → Type 0)
    (h : Header) (first : ℕ) (past : List Row) (before : RingPass B M) (p : IsRingPassed words h past before) (room : first + length past < without_end) where
  abbrev g : Header
  g = header_now h past

  abbrev k : Known
  k = known_now h past

  abbrev ts : List Lent
  ts = lents h first past

  low : first + length past ≤ without_end
  low = omega (arith, room)

  -- the row is the next of what is known and lent
  pub next_row : (row : Row) → lenient before.header k row ≡ [] → IsNextRow before.header k ts row before.record (words before.memory)
  next_row row clean = assumption (p.tracked.keeps (clean_tests before.header k row clean).0, subst (λ (x : Header). IsInStep x k ts) (sym p.header) (in_step_now h first past low))

  -- by the rings of the pass
  pub held_before : (log : B) (x : RangeIndexes) → HoldsAll Holds g ts log x → HoldsAll Holds before.header ts log x
  held_before log x held = subst (λ (y : Header). HoldsAll Holds y ts log x) (sym p.header) held

  pub opened_before : AreOpen before.header k ts
  opened_before = subst (λ (y : Header). AreOpen y k ts) (sym p.header) (lent_open h first past low)

  -- the log keeps what is lent behind a row
  abbrev pub IsLogged : Row → B → RangeIndexes → Type 0
  IsLogged row log x = HoldsAll Holds (header_now h (row ∷ past)) (lents h first (row ∷ past)) log x

  -- what is lent behind a row, as the log is told of it by the rings of the pass
  pub behind_logged : (row : Row) → header_after g row ≡ g → (later : Header → Known) → lents h first (row ∷ past) ≡ passed_on (open_leases g k) (open_leases g (later g)) (first + length past) ts → (number : ℕ) → number ≡ first + length past → (log : B) (x : RangeIndexes) →
      HoldsAll Holds before.header (passed_on (open_leases before.header k) (open_leases before.header (later before.header)) number ts) log x → IsLogged row log x
  behind_logged row same later is number numbered log x held = rw same (grind arith)

  -- a row of the driver that restores no ring
  pub driven_logged : (row : Row) → is_ring_row row ≡ false → known_now h (row ∷ past) ≡ learned_or_reset g k row → (number : ℕ) → number ≡ first + length past → (log : B) (x : RangeIndexes) →
      HoldsAll Holds before.header (grown before.header k row number ts) log x → IsLogged row log x
  unfolding lents grown
  driven_logged row driven is number numbered log x held = grind (arith, header_driven, behind_logged)

  pub comes_logged : (ring : Ring) (number : ℕ) → number ≡ first + length past → (log : B) (x : RangeIndexes) →
      HoldsAll Holds (with_ring before.header ring) (passed_on (open_leases before.header k) (open_leases (with_ring before.header ring) (forgotten k ring.id)) number ts) log x → IsLogged (RingRow ring) log x
  unfolding lents
  comes_logged ring number numbered log x held = rw (p.header, numbered) at held

  pub goes_logged : (id number : ℕ) → number ≡ first + length past → (log : B) (x : RangeIndexes) →
      HoldsAll Holds (without_ring before.header id) (passed_on (open_leases before.header k) (open_leases (without_ring before.header id) (gone before.header k id)) number ts) log x → IsLogged (FreeRow id) log x
  unfolding lents
  goes_logged id number numbered log x held = rw (p.header, numbered) at held

  -- the doorbell of an endpoint that has a ring
  pub rung_lents : (row : Row) (id : ℕ) → ((a w : ℕ) → row ≡ Write a w → ⊥) → ring_restored g k row ≡ Some id →
      lents h first (row ∷ past) ≡ passed_on (open_leases g k) (open_leases g (on_ring g k id Restores)) (first + length past) ts
  unfolding ring_restored
  rung_lents row id other has = grind (arith, rung_now, none-some)
