use Rattle.trace_record.proofs.Laws.{ap, in_state, Endpoint, follows_state}
use Rattle.trace_record.proofs.device_record.kept.DeviceRecord.set_state.Goals as goal

pub returns : goal.returns
unfolding in_state
returns c = λ h k f.
    follows_state k c.args.self.now c.set_endpoint.new.self f c.args.slot c.args.index _ c.args.state c.set_endpoint.ensures
    (ap (λ (e : Endpoint). record e { state = c.args.state }) c.endpoint-kept.ensures)
