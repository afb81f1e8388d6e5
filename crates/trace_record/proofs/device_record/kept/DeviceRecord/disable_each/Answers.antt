use Rattle.trace_record.proofs.Laws.{◌==◌, ◌&&◌, arith, named_by, nat_lt, disabled_none, disabled_twice, disabled_all, all_below}
use Rattle.trace_record.proofs.DeviceSlots.TurnedOff.{one_more, none_below}
use Rattle.trace_record.proofs.device_record.kept.DeviceRecord.disable_each.Goals as goal

pub loop-index-init : goal.loop-index-init
loop-index-init c = disabled_none c.args.self.now c.args.slot _ (none_below (named_by c.args.named))

pub loop-index-preserved : goal.loop-index-preserved
loop-index-preserved c =
    disabled_twice c.args.self.now c.loop-index.self c.disable_named.new.self c.args.slot (λ i. named_by c.args.named i && nat_lt i c.loop-index.index)
    (λ i. named_by c.args.named i && i == c.loop-index.index) _ c.loop-index.invariant c.disable_named.ensures (one_more (named_by c.args.named) c.loop-index.index)

pub returns : goal.returns
returns c = grind (arith, disabled_all, named_by, all_below)
