use Rattle.trace_record.proofs.Laws.{false, ap, stop_ended, Endpoint, follows_stop_seen}
use Rattle.trace_record.proofs.device_record.kept.DeviceRecord.end_stop.Goals as goal

pub returns : goal.returns
unfolding stop_ended
returns c = λ h k f.
    follows_stop_seen k c.args.self.now c.set_endpoint.new.self f c.args.slot c.args.index _ false c.set_endpoint.ensures
    (ap (λ (e : Endpoint). record e { stop_seen = false }) c.endpoint-kept.ensures)
