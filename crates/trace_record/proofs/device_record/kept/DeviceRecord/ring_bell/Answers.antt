use Rattle.trace_record.proofs.Laws.{◌∙◌, ap, rung_endpoint, follows_beyond, follows_rung}
use Rattle.trace_record.proofs.DeviceSlots.Bells.{follows_first}
use Rattle.trace_record.proofs.device_record.kept.DeviceRecord.ring_bell.Goals as goal

pub returns-then-slot-eq0 : goal.returns-then-slot-eq0
returns-then-slot-eq0 c = λ h k f. follows_first h k c.args.slot c.args.index c.args.self.now f c.if-slot-eq0.true

pub returns-then-index-ge32 : goal.returns-then-index-ge32
returns-then-index-ge32 c = λ h k f. follows_beyond h k c.args.slot c.args.index c.args.self.now f c.if-slot-eq0.false c.if-index-ge32.true

pub returns : goal.returns
returns c = λ h k f.
    follows_rung h k c.args.slot c.args.index c.args.self.now c.set_endpoint.new.self f c.rung_endpoint.result c.set_endpoint.ensures c.if-slot-eq0.false
    (c.rung_endpoint.ensures ∙ ap rung_endpoint c.endpoint-kept.ensures)
