-- What a ring carries: xHCI 4.9
use Rattle.std.specs.Prelude.{ℕ, List, codes}
use Rattle.trb.specs.declared.ring_kind.RingKind.{RingKind}
use Rattle.trb.specs.declared.ring_kind.RingKind.TheVariants.{Cmd, Evt, Xfer}

-- the word for it in a trace
abbrev pub ring_name : RingKind → List ℕ
ring_name Cmd = codes "cmd"
ring_name Evt = codes "evt"
ring_name Xfer = codes "xfer"
