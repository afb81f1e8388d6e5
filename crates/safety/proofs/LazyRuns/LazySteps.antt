-- The lazy schedule of a clean trace names rings and blocks that there are
use Rattle.safety.proofs.UpperLaws.{rules, ◌≡◌, ℕ, ◌+◌, ◌<◌, List, [], ◌∷◌, Some, arith, ◌==◌, reverse, nat_lt, All, and_parts, cond_both, eqb-true, ltb-true, length-reverse, All-cons, All-head, All-nil, All-tail, Block, BlockKind, CommandCompletion, TransferEvent, IsBlock, Spot, number, Header, Row, Read, Step, Look, IsHeader, command_id, shape_of, IsRow, IsStep, Known, RingSpot, lenient, DriverKeeps, IsDriverRing, event_facts, header_parts, transfer_driver, command_is_ring, AreKept, IsKept, header_now, known_now, command_taken, goals, lazy_run, lazy_steps, looks_to, open_goals, pointers_at, post_of, report_goals, spots_before, steps_before, steps_for, stop_goal, stopped_goals, taken_up_to, flat_map, All-append, found_allowed, found_passes, get_or-reverse, All-map, AreSteps, next_command, ceiling, TransferFacts, transfer_facts, stopping_taken, slot, endpoint, kind, is_transfer_event, is_command_completion, completion_says, code_told, is_stopping, need, learned, refl, RegRead, Halt, is_first_halt, if◌then◌else◌, Bool, ap, subst, sym, inl, inr, named_if_taken, may_be_taken, MayBegin}
use Rattle.safety.proofs.RingChanges.LiveHeadline.{Keeps, now_keeps, kept_on}
use Rattle.safety.proofs.RingChanges.Restored.{row_keeps}

all_reverse : {X : Type 0} (P : X → Type 0) (xs : List X) → All P xs → All P (reverse xs)
all_reverse P xs are = grind (arith, length-reverse, get_or-reverse)

abbrev IsLow : RingSpot → Type 0
IsLow goal = goal.ring < 256

module _ (h : Header) (headed : IsHeader h) where
  low : (r : ℕ) → IsDriverRing h r → r < 256
  low r is = grind (arith, eqb-true, found_passes, found_allowed, nat_lt, header_parts, ltb-true, and_parts)

  looks_are : (p : ℕ → Spot) (goal : RingSpot) → IsLow goal → AreSteps (looks_to h p goal)
  unfolding looks_to
  looks_are p goal is_low = All-map IsStep (λ (t : Spot). Look goal.ring) (spots_before (shape_of h goal.ring) (p goal.ring) goal.spot) (λ k d inside. is_low)

  all_looks : (p : ℕ → Spot) (list : List RingSpot) → All IsLow list → AreSteps (flat_map (looks_to h p) list)
  all_looks p [] are = All-nil IsStep
  all_looks p (goal ∷ rest) are = search (rules, All-append, looks_are, All-head, All-tail, all_looks p rest (All-tail IsLow goal rest are))

  post_is : (k : BlockKind) (b : Block) → IsBlock b → IsStep (post_of h k b)
  unfolding post_of
  post_is k b is = grind arith

  one : (goal : RingSpot) → IsLow goal → All IsLow (goal ∷ [])
  one goal is_low = All-cons IsLow goal [] is_low (All-nil IsLow)

  stop_low : (at : RingSpot) (n : ℕ) → IsLow at → IsLow (stop_goal h at n)
  unfolding stop_goal taken_up_to
  stop_low at n is_low = cond_both (n == number at.spot + 1) (taken_up_to h at.ring n) at IsLow (λ _. is_low) (λ _. is_low)

  module _ (k : Known) (d : DriverKeeps h k) (b : Block) (clean : lenient h k (Read b) ≡ []) (later : List Row) where
    command_goal_low : next_command h k < ceiling (shape_of h (command_id h)) (k.ring (command_id h)) → IsLow (command_taken h k)
    unfolding command_taken taken_up_to
    command_goal_low taken = low (command_id h) (command_is_ring h k d (named_if_taken h k d (event_facts h k b clean).started taken))

    bound_low : (s i r : ℕ) → k.ring_of s i ≡ Some r → r < 256
    bound_low s i r bound = low r (transfer_driver h r (d.states.transfer s i r bound))

    module _ (f : TransferFacts h k b) where
      abbrev at : RingSpot
      at = record { ring = f.ring; spot = f.spot }

      ring_low : f.ring < 256
      ring_low = bound_low (slot b) (endpoint b) f.ring f.bound

      report_low : All IsLow (report_goals h k later b (Some at))
      unfolding report_goals taken_up_to may_be_taken
      report_low =
          let stops : RingSpot = stop_goal h at (need h (learned h k (Read b)) f.ring later) in
          cond_both (is_stopping (code_told h k b)) (command_taken h k ∷ stops ∷ []) (taken_up_to h f.ring (number f.spot + 1) ∷ []) (All IsLow)
          (λ stopping.
          let taken = ltb-true (next_command h k) (ceiling (shape_of h (command_id h)) (k.ring (command_id h))) (stopping_taken h k b f stopping) in
          All-cons IsLow (command_taken h k) (stops ∷ []) (command_goal_low taken) (one stops (stop_low at (need h (learned h k (Read b)) f.ring later) ring_low)))
          (λ goes_on. one (taken_up_to h f.ring (number f.spot + 1)) ring_low)

    kind_low : (n : BlockKind) → kind b ≡ n → All IsLow (goals h k later n b)
    unfolding goals report_goals stopped_goals open_goals taken_up_to
    kind_low TransferEvent is_kind =
        elim (transfer_facts h k b clean (ap is_transfer_event is_kind)) [
          | inl f ↦ subst (λ o. All IsLow (report_goals h k later b o)) (sym f.at) (report_low f)
          | inr s ↦ subst (λ o. All IsLow (report_goals h k later b o)) (sym s.none) (All-nil IsLow)
        ]
    kind_low CommandCompletion is_kind =
        let first = command_goal_low (completion_says h k b (ap is_command_completion is_kind) clean).below in
        (grind (arith, All-cons, All-nil, cond_both, bound_low))
    kind_low _ is_kind = All-nil IsLow

  -- of a register that is read the controller's halt
  halts_are : (b : Bool) → AreSteps (if b then Halt ∷ [] else [])
  halts_are b = cond_both b (Halt ∷ []) [] AreSteps (λ _. All-cons IsStep Halt [] tt (All-nil IsStep)) (λ _. All-nil IsStep)

  row_steps_are : (k : Known) (p : ℕ → Spot) (row : Row) (later : List Row) → DriverKeeps h k → IsRow row → lenient h k row ≡ [] → AreSteps (steps_before h k p row later)
  unfolding steps_before
  row_steps_are k p (Read b) later d is clean =
      All-append IsStep (flat_map (looks_to h p) (goals h k later (kind b) b)) (post_of h (kind b) b ∷ []) (all_looks p (goals h k later (kind b) b) (kind_low k d b clean later (kind b) refl))
      (All-cons IsStep (post_of h (kind b) b) [] (post_is (kind b) b is) (All-nil IsStep))
  row_steps_are k p (RegRead r v) later d is clean = halts_are (is_first_halt h k r v)
  row_steps_are k p _ later d is clean = All-nil IsStep

module _ (h : Header) (headed : MayBegin h) where
  for_row : (past later : List Row) (row : Row) (p : ℕ → Spot) → Keeps h headed past → IsRow row → IsKept (header_now h past) (known_now h past) row →
      AreSteps (steps_for (header_now h past) (known_now h past) p row later)
  unfolding steps_for
  for_row past later row p keeps is kept = search (rules, row_steps_are, row_keeps)

  pub run_is : (past later : List Row) → All IsRow past → AreKept h past → AreSteps (lazy_run h past later)
  unfolding lazy_run
  run_is [] later are kept = All-nil IsStep
  run_is (row ∷ past) later are kept =
      let g : Header = header_now h past in
      let k : Known = known_now h past in
      let made : All IsRow past = All-tail IsRow row past are in
      let keeps : Keeps h headed past = now_keeps h headed past made kept.0 (kept_on g k row kept.1) in
      let p : ℕ → Spot = pointers_at h past (row ∷ later) in
      let before : List Step = steps_for g k p row later in
      search (rules, All-cons, All-append, all_reverse, for_row, All-head, run_is past (row ∷ later) made kept.0)

  pub lazy_steps_are : (rows : List Row) → All IsRow rows → AreKept h (reverse rows) → AreSteps (lazy_steps h rows)
  unfolding lazy_steps
  lazy_steps_are rows are kept = all_reverse IsStep (lazy_run h (reverse rows) []) (run_is (reverse rows) [] (all_reverse IsRow rows are) kept)
