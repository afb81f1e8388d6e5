-- The rule of a descriptor that is withdrawn, from its parts
use Rattle.driver_rows.proofs.LowerLaws.{rules, ◌≡◌, ◌∙◌, ◌⊎◌, ◌||◌, ◌≤◌, ℕ, true, false, ap, refl, Result, IfErr, OnOk, ceiling, RingView, floor_number, Shape, Header, shape_of, Known, has_stopped, is_bad_withdraw, StepFault, IfRefused, Refusal, is_passed, list_any, range_with_len, is_some, length, List, sym, subst, inl, inr, and_from, lt-ltb, cases_lt, withdraws_badly, or_true, ◌+◌, ◌-◌, ◌<◌, Bool, arith, max, nat_le, nat_lt, nat_tests, if◌then◌else◌, has_runs, is_lenient, descriptor_length, IsNotPassed}
use Rattle.std.proofs.Common.{MatchBool, le-leb, min}
use Rattle.std.proofs.lemmas.List.FromFn.{get_or-range_with_len, length-range_with_len}
use Rattle.std.specs.List.{AllWithin, HoldsAt}
use Rattle.segments.specs.Ceiling.{data_at}
use Rattle.ring_knowledge.proofs.Ranges.{any_at, any_none}
use Rattle.ownership_rules.specs.Withdrawals.{may_be_told}
use Rattle.ownership_rules.specs.Withdrawals.{is_unfit}

ahead_of : (runs lenient : Bool) (p n floor ceiling : ℕ) → floor ≤ ceiling → (if runs then nat_le (p + n) floor else nat_lt p (if lenient then floor else ceiling)) ≡ false → floor < p + max n 1
ahead_of true lenient p n floor ceiling low ahead = grind (arith, nat_tests)
ahead_of false true p n floor ceiling low ahead = grind (arith, nat_tests)
ahead_of false false p n floor ceiling low ahead = grind (arith, nat_tests)

-- what the version lets withdraw the floor hasn't passed whole
pub not_passed : (h : Header) (shape : Shape) (v : RingView) (p : ℕ) → floor_number v ≤ ceiling shape v → is_passed h shape v p ≡ false → IsNotPassed v p
unfolding is_passed
not_passed h shape v p low ahead = ahead_of (has_runs h.version) (is_lenient h.version) p (descriptor_length v p) (floor_number v) (ceiling shape v) low ahead

-- ---- the value of a block that is withdrawn

module _ (shape : Shape) (v : RingView) (p n from end : ℕ) (begins : from ≡ max p (floor_number v)) (ends : end ≡ min (p + n) (ceiling shape v)) where
  -- an event may tell it
  pub told_at : (q : ℕ) → from ≤ q → q < end → is_some (data_at v.queue q) ≡ true → list_any (may_be_told shape v) (range_with_len p n) ≡ true
  unfolding may_be_told
  told_at q low high holds = any_at (may_be_told shape v) p n q (omega arith) (omega arith)
      (and_from _ (is_some (data_at v.queue q)) (and_from (nat_le (floor_number v) q) (nat_lt q (ceiling shape v)) (le-leb (floor_number v) q (omega arith)) (lt-ltb q (ceiling shape v) (omega arith))) holds)

  -- none may
  pub told_none : ((q : ℕ) → from ≤ q → q < end → is_some (data_at v.queue q) ≡ false) → list_any (may_be_told shape v) (range_with_len p n) ≡ false
  unfolding may_be_told
  told_none none = any_none (may_be_told shape v) p n (λ q low high. elim (cases_lt q (floor_number v)) [
    | inl below ↦ grind (arith, nat_tests)
    | inr from_ ↦ elim (cases_lt q (ceiling shape v)) [
      | inl under ↦ grind (arith, none q (omega arith) (omega arith))
      | inr over ↦ grind (arith, nat_tests)
    ]
  ])

  abbrev count : ℕ
  count = end - from

  abbrev numbers : List ℕ
  numbers = range_with_len from count

  -- as a look at one after the other tells
  pub told_so : (b : Bool) → MatchBool b ((k : ℕ) × (k < length numbers) × HoldsAt (λ q. from ≤ q → is_some (data_at v.queue q) ≡ true) numbers k)
      (AllWithin (λ q. from ≤ q → is_some (data_at v.queue q) ≡ false) numbers 0 (length numbers)) → b ≡ list_any (may_be_told shape v) (range_with_len p n)
  told_so true at =
      let here : at.0 < count = omega (arith, at.1, length-range_with_len from count) in
      sym (told_at (from + at.0) (omega arith) (omega arith) (subst (λ q. from ≤ q → is_some (data_at v.queue q) ≡ true) (get_or-range_with_len from count at.0 0 here) (at.2 0) (omega arith)))
  told_so false none = sym (told_none (λ q low high.
      let there = get_or-range_with_len from count (q - from) 0 (omega arith) ∙ omega arith in
      subst (λ m. from ≤ m → is_some (data_at v.queue m) ≡ false) there (none (q - from) 0 (omega arith) (omega (arith, length-range_with_len from count))) low))

module _ (h : Header) (k : Known) (r p : ℕ) where
  module _ (stopped : has_stopped h k r ≡ true) where
    is_bad : is_bad_withdraw h k r p ≡ is_unfit (shape_of h r) (k.ring r) p
    unfolding is_bad_withdraw
    is_bad = rw stopped refl

    pub may : is_unfit (shape_of h r) (k.ring r) p ≡ false → is_bad_withdraw h k r p ≡ false
    may begins = is_bad ∙ begins

    pub may_now : is_unfit (shape_of h r) (k.ring r) p ≡ false → is_passed h (shape_of h r) (k.ring r) p ≡ false → withdraws_badly h k r p ≡ false
    unfolding withdraws_badly
    may_now begins ahead = ap (λ b. b || is_bad_withdraw h k r p) ahead ∙ may begins

    pub may_not : (is_passed h (shape_of h r) (k.ring r) p ≡ true) ⊎ (is_unfit (shape_of h r) (k.ring r) p ≡ true) → withdraws_badly h k r p ≡ true
    unfolding withdraws_badly
    may_not e = search (rules, or_true, is_bad)

-- what a success says, and a refusal
pub if_ok : {X : Type 0} {P Q : Type 0} (result : Result X StepFault) → (P → Q) → OnOk result P → OnOk result Q
if_ok result e f = search rules

pub if_refused : {X : Type 0} {P Q : Refusal → Type 0} (result : Result X StepFault) → ((c : Refusal) → P c → Q c) → IfErr result (λ e. IfRefused e P) → IfErr result (λ e. IfRefused e Q)
if_refused result e f = search rules

pub if_both : {X : Type 0} {P Q R : Type 0} (result : Result X StepFault) → (P → Q → R) → OnOk result P → OnOk result Q → OnOk result R
if_both result e f g = search rules
