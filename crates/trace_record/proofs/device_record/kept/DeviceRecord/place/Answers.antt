use Rattle.trace_record.proofs.Laws.{◌≡◌, ◌∙◌, ap, sym, subst, EndpointState, changed_by, Endpoint, placed_endpoint, ring_got, IsWithBound, endpoint_at, follows_place}
use Rattle.trace_record.proofs.device_record.kept.DeviceRecord.place.Goals as goal

pub returns : goal.returns
unfolding changed_by
returns c = λ h command k p cycle named f.
    let old = c.args.self.now in
    let mid = c.note_bound.new.self in
    let state : c.endpoint-kept.result.state ≡ k.endpoint_state c.args.slot c.args.index =
    ap (λ (e : Endpoint). e.state) c.endpoint-kept.ensures ∙ sym (f.endpoint_state c.args.slot c.args.index) in
    let gets : c.ring_got-gets.result ≡ ring_got (k.endpoint_state c.args.slot c.args.index) c.args.ring =
    c.ring_got-gets.ensures ∙ ap (λ (s : EndpointState). ring_got s c.args.ring) state in
    let was : c.endpoint-kept.result ≡ endpoint_at mid.endpoints.items c.args.slot c.args.index =
    c.endpoint-kept.ensures ∙ sym (ap (λ xs. endpoint_at xs c.args.slot c.args.index) c.note_bound.ensures.endpoints) in
    follows_place h k c.args.slot c.args.index p cycle c.args.state old mid c.set_endpoint.new.self f c.placed_endpoint.result c.endpoint-kept.result c.set_endpoint.ensures was
    c.args.ring named (subst (λ o. IsWithBound old mid o) gets c.note_bound.ensures)
    (c.placed_endpoint.ensures ∙ ap (λ o. placed_endpoint c.endpoint-kept.result o c.args.state) gets)
