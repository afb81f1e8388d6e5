-- The numbers of rings in a header, and the spots that events name on them
use Rattle.std.specs.Prelude.{ℕ, ◌==◌, if◌then◌else◌, List, Option, Some, None, position}
use Rattle.traces.specs.declared.ring.Ring.{Ring}
use Rattle.traces.specs.declared.header.Header.{Header}
use Rattle.traces.specs.Header.{is_command_kind}
use Rattle.ring_knowledge.specs.Known.{Known}

-- the number of the ring with this ID
abbrev pub number_of : List Ring → Option ℕ → Option ℕ
number_of rings None = None
number_of rings (Some r) = position (λ ring. ring.id == r) rings

-- the number of the ring that a doorbell opens
abbrev pub number_rung : Header → Known → ℕ → ℕ → Option ℕ
number_rung h k s t = if s == 0 then position (λ ring. is_command_kind ring.shape.kind) h.rings else number_of h.rings (k.ring_of s t)
