-- What each row of an access or an event adds, and what is known after such rows
use Rattle.std.specs.Prelude.{◌+◌}
use Rattle.trb.specs.declared.block.Block.{Block}
use Rattle.trb.specs.declared.kind.BlockKind.{BlockKind}
use Rattle.trb.specs.declared.kind.BlockKind.TheVariants.{TransferEvent, CommandCompletion}
use Rattle.trb.specs.Block.{kind}
use Rattle.segments.specs.RingView.{Declares}
use Rattle.traces.specs.declared.header.Header.{Header}
use Rattle.traces.specs.declared.row.Row.{Row}
use Rattle.traces.specs.declared.row.Row.TheVariants.{Sub, Write, Reg, Bell, Read, RegRead}
use Rattle.ring_knowledge.specs.Known.{Known}
use Rattle.ring_knowledge.specs.Rings.{on_ring}
use Rattle.ring_knowledge.specs.Writes as writes
use Rattle.ring_knowledge.specs.Registers as registers
use Rattle.ring_knowledge.specs.Transfers as transfers
use Rattle.ring_knowledge.specs.Completions as completions

module _ (h : Header) where
  unfoldable pub event_read : Known → BlockKind → Block → Known
  event_read k TransferEvent b = transfers.transfer_read h k b
  event_read k CommandCompletion b = completions.completed h k b
  event_read k _ b = k

  -- what is known after one more row, by which no ring comes or goes, no descriptor is withdrawn, and the controller isn't reset
  unfoldable pub learned : Known → Row → Known
  learned k (Sub r blocks) = on_ring h k r (Declares blocks)
  learned k (Write a word) = writes.written h k a word
  learned k (Reg r v) = registers.register_written h k r v
  learned k (Bell s t) = registers.rung h k s t
  learned k (Read b) = record (event_read k (kind b) b) { reads = k.reads + 1 }
  learned k (RegRead r v) = registers.register_read k r v
  learned k row = k
