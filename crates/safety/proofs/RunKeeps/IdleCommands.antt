-- Where no command can have been taken an event leaves the command ring as it is
use Rattle.safety.proofs.MiddleLaws.{◌≡◌, false, [], refl, ap, false≢true, Block, BlockKind, TransferEvent, CommandCompletion, is_command_completion, kind, Header, Read, IsHeader, command_id, Known, event_read, learned, lenient, is_impossible_by_kind, may_be_taken, DriverKeeps, event_facts, endpoints_of, lt-ltb, sym, ◌∙◌, shape_of, next_command, ceiling, RingView, nat_lt, floor_number, transfer_command}
use Rattle.safety.proofs.RingsKeep.KeptRings.{completion_facts}

module _ (h : Header) (is : IsHeader h) (k : Known) (d : DriverKeeps h k) (e : Block) (may : lenient h k (Read e) ≡ []) (none : may_be_taken h k ≡ false) where
  ring_kind : (n : BlockKind) → kind e ≡ n → is_impossible_by_kind h k n e ≡ false → (event_read h k n e).ring (command_id h) ≡ k.ring (command_id h)
  unfolding event_read is_impossible_by_kind may_be_taken
  ring_kind TransferEvent at possible = transfer_command h is k (endpoints_of h k d.states) e
  ring_kind CommandCompletion at possible =
      absurd (false≢true (sym none ∙ lt-ltb (next_command h k) (ceiling (shape_of h (command_id h)) (k.ring (command_id h))) (completion_facts h k e (ap is_command_completion at) (event_facts h k e may).possible).below))
  ring_kind _ at possible = refl

  pub ring_still : (learned h k (Read e)).ring (command_id h) ≡ k.ring (command_id h)
  unfolding learned
  ring_still = ring_kind (kind e) refl (event_facts h k e may).possible

  pub taken_still : may_be_taken h (learned h k (Read e)) ≡ false
  unfolding may_be_taken next_command
  taken_still = ap (λ (v : RingView). nat_lt (floor_number v) (ceiling (shape_of h (command_id h)) v)) ring_still ∙ none
