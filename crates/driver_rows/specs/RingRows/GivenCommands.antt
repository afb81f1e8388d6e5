-- A write that gives a command: xHCI 4.6
use Rattle.std.specs.Prelude.{◌≡◌, ℕ, true, [], ◌∷◌, Some, slice_get}
use Rattle.segments.specs.RingView.{positions_given}
use Rattle.traces.specs.declared.header.Header.{Header}
use Rattle.traces.specs.declared.ring.Ring.{Ring}
use Rattle.traces.specs.Header.{is_command_kind}
use Rattle.ring_knowledge.specs.Known.{Known}

-- the write of w at a gives this position of the command ring, which has this number in the header
pub record GivesCommandAt (h : Header) (k : Known) (a w number position : ℕ) : Type 0 where
  pub ring : Ring
  pub at : slice_get h.rings number ≡ Some ring
  pub command : is_command_kind ring.shape.kind ≡ true
  pub gives : positions_given ring.shape (k.ring ring.id) a w ≡ position ∷ []
