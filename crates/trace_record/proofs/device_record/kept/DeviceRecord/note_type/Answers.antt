use Rattle.trace_record.proofs.Laws.{ap, typed, Endpoint, follows_type}
use Rattle.trace_record.proofs.device_record.kept.DeviceRecord.note_type.Goals as goal

pub returns : goal.returns
unfolding typed
returns c = λ h k f.
    follows_type k c.args.self.now c.set_endpoint.new.self f c.args.slot c.args.index _ c.args.isochronous c.set_endpoint.ensures
    (ap (λ (e : Endpoint). record e { isochronous = c.args.isochronous }) c.endpoint-kept.ensures)
