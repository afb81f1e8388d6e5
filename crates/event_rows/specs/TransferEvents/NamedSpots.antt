-- The spot that a Transfer Event names, by the number of its ring
use Rattle.std.specs.Prelude.{◌≡◌, true, Option, Some, None, slice_get}
use Rattle.trb.specs.declared.block.Block.{Block}
use Rattle.traces.specs.declared.ring.Ring.{Ring}
use Rattle.traces.specs.declared.header.Header.{Header}
use Rattle.traces.specs.Header.{is_transfer_kind}
use Rattle.ring_knowledge.specs.Known.{Known}
use Rattle.ring_knowledge.specs.Rings.{event_at}
use Rattle.event_rows.specs.declared.transfers.spots.NamedSpot.{NamedSpot}

-- the event names this spot of a transfer ring
pub record IsNamedAt (h : Header) (k : Known) (b : Block) (at : NamedSpot) : Type 0 where
  pub ring : Ring
  pub here : slice_get h.rings at.number ≡ Some ring
  pub transfer : is_transfer_kind ring.shape.kind ≡ true
  pub names : event_at h k b ≡ Some (record { ring = ring.id; spot = at.spot })

-- or it names none
abbrev pub IsNamedBy : Header → Known → Block → Option NamedSpot → Type 0
IsNamedBy h k b None = event_at h k b ≡ None
IsNamedBy h k b (Some at) = IsNamedAt h k b at
