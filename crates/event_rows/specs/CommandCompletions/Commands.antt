-- The next command on one ring, and which completion of it is impossible
use Rattle.std.specs.Prelude.{◌==◌, ◌||◌, Bool, not, nat_lt}
use Rattle.trb.specs.declared.block.Block.{Block}
use Rattle.trb.specs.Block.{code, pointer}
use Rattle.segments.specs.ShapeValue.{Shape}
use Rattle.segments.specs.Places.{address_of}
use Rattle.segments.specs.RingView.{RingView, floor_number}
use Rattle.segments.specs.Ceiling.{ceiling}
use Rattle.ring_knowledge.specs.Known.{Known}
use Rattle.trace_record.specs.RingCommands.{command_in}
use Rattle.ownership_rules.specs.Events.{can_finish}

-- of a completion: the controller can't have come to the next command, or another address is named, or there is no code, or
-- the command can't have been finished so
abbrev pub is_no_completion : Known → Shape → RingView → Block → Bool
is_no_completion k shape v b =
    not (nat_lt (floor_number v) (ceiling shape v)) || not (pointer b == address_of shape (floor_number v)) || code b == 0
    || not (can_finish k b (command_in v.queue (floor_number v)))
