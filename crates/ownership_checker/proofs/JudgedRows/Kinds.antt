-- What is said of a row by its kind, and of any row after the stop
use Rattle.ownership_checker.proofs.LowerLaws.{◌≡◌, ℕ, Bool, true, false, arith, Result, Ok, Err, refl, sym, subst, IfErr, IfOk, OnOk, Row, Header, IsHeader, Known, broken, AfterStop, DriverKeeps, TraceRecord, StepFault, FollowsTrace, IsSetUp, IfRefused, IsLeast, IsRowStep, IsOwnedSo, IsPlaced, RowPlace, IsTracked, IsStepFrom, IsLeastFrom, Refused, Memory, set_up, RingRow, FreeRow, NopRow, Ring, is_ring_row}

-- any row after the stop
pub stopped_refused : (h : Header) (k : Known) (row : Row) → k.stopped ≡ true → IsLeast h k row AfterStop
unfolding broken
stopped_refused h k row off = rw off refl

module _ (h : Header) (kept : TraceRecord) (memory : ℕ → ℕ) (on : (k : Known) → FollowsTrace h k kept memory → k.stopped ≡ false) (row other : Row) (is : row ≡ other) (place : RowPlace) where
  -- what is said of a row before the stop, by its place, is said of it as it stands in the trace
  pub placed_ok : {X : Type 0} (after : TraceRecord) (o : ℕ → ℕ) (result : Result X StepFault) →
      OnOk result ((k : Known) → FollowsTrace h k kept memory → DriverKeeps h k → k.stopped ≡ false → IsPlaced h k other place → IsRowStep h k other after o) →
      OnOk result ((k : Known) → IsTracked h k kept memory → IsPlaced h k row place → IsRowStep h k row after o)
  placed_ok after o result said = grind arith

  placed_fault : (e : StepFault) →
      IfRefused e (λ c. (k : Known) → FollowsTrace h k kept memory → DriverKeeps h k → k.stopped ≡ false → IsPlaced h k other place → IsLeast h k other c) →
      IfRefused e (λ c. (k : Known) → IsTracked h k kept memory → IsPlaced h k row place → IsLeast h k row c)
  placed_fault e said = grind arith

  pub placed_bad : {X : Type 0} (result : Result X StepFault) →
      IfErr result (λ e. IfRefused e (λ c. (k : Known) → FollowsTrace h k kept memory → DriverKeeps h k → k.stopped ≡ false → IsPlaced h k other place → IsLeast h k other c)) →
      IfErr result (λ e. IfRefused e (λ c. (k : Known) → IsTracked h k kept memory → IsPlaced h k row place → IsLeast h k row c))
  placed_bad result said = grind (arith, placed_fault)

  -- the same of a write of which it is known whether it is to what the controller owns
  module _ (owned : Bool) (owns : (k : Known) → FollowsTrace h k kept memory → IsPlaced h k row place → IsOwnedSo h k row owned) where
    owns_other : (k : Known) → FollowsTrace h k kept memory → IsPlaced h k other place → IsOwnedSo h k other owned
    owns_other k f placed = subst (λ (w : Row). IsOwnedSo h k w owned) is (owns k f (subst (λ (w : Row). IsPlaced h k w place) (sym is) placed))

    pub word_ok : {X : Type 0} (after : TraceRecord) (o : ℕ → ℕ) (result : Result X StepFault) →
        OnOk result ((k : Known) → FollowsTrace h k kept memory → DriverKeeps h k → k.stopped ≡ false → IsPlaced h k other place → IsOwnedSo h k other owned → IsRowStep h k other after o) →
        OnOk result ((k : Known) → IsTracked h k kept memory → IsPlaced h k row place → IsRowStep h k row after o)
    word_ok after o result said = grind (arith, placed_ok, Ok, owns_other)

    pub word_bad : {X : Type 0} (result : Result X StepFault) →
        IfErr result (λ e. IfRefused e (λ c. (k : Known) → FollowsTrace h k kept memory → DriverKeeps h k → k.stopped ≡ false → IsPlaced h k other place → IsOwnedSo h k other owned → IsLeast h k other c)) →
        IfErr result (λ e. IfRefused e (λ c. (k : Known) → IsTracked h k kept memory → IsPlaced h k row place → IsLeast h k row c))
    word_bad result said = grind (arith, placed_fault, owns_other)

  -- what is said of another row
  pub row_ok : {X : Type 0} (after : TraceRecord) (o : ℕ → ℕ) (result : Result X StepFault) → OnOk result (IsStepFrom h kept memory other after o) →
      OnOk result ((k : Known) → IsTracked h k kept memory → IsPlaced h k row place → IsRowStep h k row after o)
  row_ok after o result said = grind (arith, placed_ok, Ok)

  pub row_bad : {X : Type 0} (result : Result X StepFault) → IfErr result (λ e. IfRefused e (IsLeastFrom h kept memory other)) →
      IfErr result (λ e. IfRefused e (λ c. (k : Known) → IsTracked h k kept memory → IsPlaced h k row place → IsLeast h k row c))
  row_bad result said = grind (arith, placed_fault)

-- a declaration is judged whatever memory holds
pub declared_ok : {X : Type 0} (h : Header) (kept after : TraceRecord) (memory : ℕ → ℕ) (row : Row) (result : Result X StepFault) →
    OnOk result ((k : Known) (m : ℕ → ℕ) → FollowsTrace h k kept m → DriverKeeps h k → k.stopped ≡ false → IsRowStep h k row after m) → OnOk result (IsStepFrom h kept memory row after memory)
declared_ok h kept after memory row (Ok x) said = λ k f keeps runs. said k memory f keeps runs
declared_ok h kept after memory row (Err e) said = said

pub declared_bad : {X : Type 0} (h : Header) (kept : TraceRecord) (memory : ℕ → ℕ) (row : Row) (result : Result X StepFault) →
    IfErr result (λ e. IfRefused e (λ c. (k : Known) (m : ℕ → ℕ) → FollowsTrace h k kept m → k.stopped ≡ false → IsLeast h k row c)) →
    IfErr result (λ e. IfRefused e (IsLeastFrom h kept memory row))
declared_bad h kept memory row (Ok x) said = said
declared_bad h kept memory row (Err (Refused c)) said = λ k f keeps runs. said k memory f runs
declared_bad h kept memory row (Err Memory) said = said

-- a register's write rests on the set-up
module _ (h : Header) (headed : IsHeader h) (kept : TraceRecord) (memory : ℕ → ℕ) (row : Row) where
  pub register_ok : {X : Type 0} (after : TraceRecord) (result : Result X StepFault) →
      IfOk result (λ u. (k : Known) → FollowsTrace h k kept memory → DriverKeeps h k → IsSetUp h k → k.stopped ≡ false → IsRowStep h k row after memory) → OnOk result (IsStepFrom h kept memory row after memory)
  register_ok after result said = grind (arith, set_up)

  pub register_bad : {X : Type 0} (result : Result X StepFault) →
      IfErr result (λ e. IfRefused e (λ c. (k : Known) → FollowsTrace h k kept memory → DriverKeeps h k → IsSetUp h k → k.stopped ≡ false → IsLeast h k row c)) →
      IfErr result (λ e. IfRefused e (IsLeastFrom h kept memory row))
  register_bad result said = grind (arith, set_up)

-- a register that is read is judged by any rings, whatever memory holds
module _ (h : Header) (kept : TraceRecord) (memory : ℕ → ℕ) (row : Row) where
  pub register_read_ok : {X : Type 0} (after : TraceRecord) (result : Result X StepFault) →
      OnOk result ((g : Header) (k : Known) (m : ℕ → ℕ) → FollowsTrace g k kept m → k.stopped ≡ false → IsRowStep g k row after m) → OnOk result (IsStepFrom h kept memory row after memory)
  register_read_ok after (Ok x) said = λ k f keeps runs. said h k memory f runs
  register_read_ok after (Err e) said = said

  pub register_read_bad : {X : Type 0} (result : Result X StepFault) →
      IfErr result (λ e. IfRefused e (λ c. (g : Header) (k : Known) (m : ℕ → ℕ) → FollowsTrace g k kept m → k.stopped ≡ false → IsLeast g k row c)) →
      IfErr result (λ e. IfRefused e (IsLeastFrom h kept memory row))
  register_read_bad (Ok x) said = said
  register_read_bad (Err (Refused c)) said = λ k f keeps runs. said h k memory f runs
  register_read_bad (Err Memory) said = said

-- a row that is of none of these kinds
pub driven_by : (row : Row) → ((ring : Ring) → row ≡ RingRow ring → ⊥) → ((id : ℕ) → row ≡ FreeRow id → ⊥) → ((id position : ℕ) → row ≡ NopRow id position → ⊥) → is_ring_row row ≡ false
driven_by (RingRow ring) comes goes withdraws = absurd (comes ring refl)
driven_by (FreeRow id) comes goes withdraws = absurd (goes id refl)
driven_by (NopRow id position) comes goes withdraws = absurd (withdraws id position refl)
driven_by row comes goes withdraws = refl
