-- What a Transfer Event reports, as it is known
use Rattle.std.specs.Prelude.{◌≡◌}
use Rattle.trb.specs.declared.block.Block.{Block}
use Rattle.trb.specs.Block.{slot as slot_of, endpoint as endpoint_of}
use Rattle.traces.specs.declared.header.Header.{Header}
use Rattle.ring_knowledge.specs.Known.{Known}
use Rattle.ring_knowledge.specs.Rings.{code_told}
use Rattle.event_rows.specs.declared.transfers.reporting.Report.{Report}

-- its endpoint, and how its code counts
pub record IsReportOf (h : Header) (k : Known) (b : Block) (x : Report) : Type 0 where
  pub slot : x.slot ≡ slot_of b
  pub endpoint : x.index ≡ endpoint_of b
  pub code : x.code ≡ code_told h k b
