-- What the rules keep of each ring is kept by each row: of a command that succeeds holds still what was tested when it was given
use Rattle.safety.proofs.MiddleLaws.{[], ◌≡◌, ◌<◌, ◌∙◌, ℕ, true, false, Some, arith, sym, ap, ltb-true, rules, or_parts, not-false, Block, kind, is_command_completion, ceiling, RingKeeps, Command, Header, Row, Read, IsHeader, shape_of, command_id, Known, command_at, next_command, may_be_taken, can_finish, is_impossible_completion, is_impossible_by_kind, lenient, IsDriverRing, IsUnfinished, CommandKeeps, DriverKeeps, KeptByRestoring, StillReads, StillHolds, RingsKeep, ring_shape, content_good, are_free, ceiling_given, AtFloor, at_floor, command_is_ring, completion_kind, still_reads, driver_test, rings_of, endpoints_of, EventFacts, event_facts, named_if_taken}
use Rattle.safety.proofs.RingsKeep.Histories.{row_keeps}

-- what an event that finishes a command says
pub record CompletionFacts (h : Header) (k : Known) (b : Block) : Type 0 where
  pub below : next_command h k < ceiling (shape_of h (command_id h)) (k.ring (command_id h))
  pub finishes : can_finish k b (command_at h k (next_command h k)) ≡ true

module _ (h : Header) where
  pub by_completion : (k : Known) (b : Block) → is_impossible_completion h k b ≡ false → CompletionFacts h k b
  unfolding is_impossible_completion may_be_taken
  by_completion k b possible = search (rules, or_parts, ltb-true, not-false)

  pub completion_facts : (k : Known) (b : Block) → is_command_completion (kind b) ≡ true → is_impossible_by_kind h k (kind b) b ≡ false → CompletionFacts h k b
  unfolding is_impossible_by_kind
  completion_facts k b completion possible = by_completion k b (ap (λ n. is_impossible_by_kind h k n b) (sym (completion_kind (kind b) completion)) ∙ possible)

  module _ (is : IsHeader h) (k : Known) (d : DriverKeeps h k) where
    -- the next command is given and unfinished
    pub next_at_floor : k.started ≡ true → next_command h k < ceiling (shape_of h (command_id h)) (k.ring (command_id h)) → AtFloor h k
    next_at_floor started below =
        let ring : IsDriverRing h (command_id h) = command_is_ring h k d (named_if_taken h k d started below) in
        let low = ceiling_given (shape_of h (command_id h)) (ring_shape h is (command_id h) ring).is k.memory (k.ring (command_id h)) (d.rings (command_id h) ring) in
        at_floor h is k d ring (omega arith)

    pub next_unfinished : k.started ≡ true → next_command h k < ceiling (shape_of h (command_id h)) (k.ring (command_id h)) → (c : Command) → command_at h k (next_command h k) ≡ Some c →
        IsUnfinished h k (next_command h k) c
    next_unfinished started below c at = let floor = next_at_floor started below in record { due = floor.due; given = floor.given; command = at }

  -- so what was tested of an unfinished command holds still
  pub command_holds : (k : Known) (p : ℕ) (c : Command) → CommandKeeps h k p c → StillHolds h k c
  command_holds k p c keeps = search (rules, are_free, content_good)

  pub still_of : IsHeader h → (k : Known) (row : Row) → DriverKeeps h k → lenient h k row ≡ [] → StillReads h k row
  still_of is k (Read b) d clean = λ completion c at success.
      let facts : EventFacts h k b = event_facts h k b clean in
      command_holds k (next_command h k) c (d.unfinished (next_command h k) c (next_unfinished is k d facts.started (completion_facts k b completion facts.possible).below c at))
  still_of is k _ d clean = tt

  -- the next row keeps the rings
  pub kept_rings : KeptByRestoring h (λ k. (r : ℕ) → IsDriverRing h r → RingKeeps (shape_of h r) k.memory (k.ring r))
  kept_rings is k row d may on r ring =
      let rings : RingsKeep h k = rings_of h k d in
      row_keeps h is k row rings (endpoints_of h k d.states) d.commands_stay may (still_reads h is k row rings (endpoints_of h k d.states) (still_of is k row d may.0)) r (driver_test h r ring)
