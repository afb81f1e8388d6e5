use Rattle.trace_record.proofs.Laws.{◌∙◌, ap, transferred_endpoint, follows_transferred}
use Rattle.trace_record.proofs.device_record.kept.DeviceRecord.read_transfer.Goals as goal

pub returns : goal.returns
returns c = λ h k r t f.
    follows_transferred h k c.args.slot c.args.index c.args.self.now c.set_endpoint.new.self f c.transferred_endpoint.result c.set_endpoint.ensures r t c.args.code
    (c.transferred_endpoint.ensures ∙ ap (transferred_endpoint c.args.code) c.endpoint-kept.ensures)
