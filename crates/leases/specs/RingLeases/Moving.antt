-- A write that gives a Set TR Dequeue: xHCI 4.6.10
use Rattle.std.specs.Prelude.{◌≡◌, ℕ, true, List, [], ◌∷◌, Some}
use Rattle.segments.specs.Givings.{unrestored}
use Rattle.segments.specs.RingView.{positions_given}
use Rattle.traces.specs.declared.header.Header.{Header}
use Rattle.traces.specs.declared.ring.Ring.{Ring}
use Rattle.traces.specs.declared.row.Row.TheVariants.{Write}
use Rattle.traces.specs.Header.{command_id, is_driver_kind, is_transfer_kind, ring_with, shape_of}
use Rattle.traces.specs.AllowedHeaders.{IsHeader}
use Rattle.ring_knowledge.specs.Known.{Known}
use Rattle.leases.specs.LeaseBooks.InStep.{AreOpen, FreeWasGiven}
use Rattle.leases.specs.LeaseBooks.Lents.{Lent}
use Rattle.ring_knowledge.specs.Histories.{ring_restored}

-- the write of w at a gives position p of the command ring, and moves ring q, of which the blocks at these positions aren't restored yet
pub record MovesRing (h : Header) (k : Known) (ts : List Lent) (command : Ring) (p : ℕ) (q : Ring) (ps : List ℕ) (a w : ℕ) : Type 0 where
  pub headed : IsHeader h
  pub freed : FreeWasGiven h k
  pub opened : AreOpen h k ts
  pub commands : ring_with h command.id ≡ Some command
  pub is_command : command.id ≡ command_id h
  pub drives : is_driver_kind command.shape.kind ≡ true
  pub gives : positions_given (shape_of h (command_id h)) (k.ring (command_id h)) a w ≡ p ∷ []
  pub found : ring_with h q.id ≡ Some q
  pub transfer : is_transfer_kind q.shape.kind ≡ true
  pub moves : ring_restored h k (Write a w) ≡ Some q.id
  pub positions : ps ≡ unrestored q.shape (k.ring q.id)
