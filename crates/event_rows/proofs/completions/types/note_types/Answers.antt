use Rattle.event_rows.proofs.Laws.{◌≡◌, ◌&&◌, arith, subst, nat_lt, none_below, input_add_flag, has_isochronous, changed_by, typed, FollowsDevices, typed_all, typed_next, typed_none, no_endpoint_above}
use Rattle.event_rows.proofs.completions.types.note_types.Goals as goal

pub loop-index-init : goal.loop-index-init
loop-index-init g c = λ h k f.
    let flags = input_add_flag (g.M.WordMemory.words c.args.memory.now) c.args.named.context in
    typed_none h k c.args.named.slot flags _ c.args.devices.now _ (none_below flags) f

pub loop-index-preserved : goal.loop-index-preserved
loop-index-preserved g c = λ h k f.
    let flags = input_add_flag (g.M.WordMemory.words c.args.memory.now) c.args.named.context in
    typed_next h k c.args.named.slot flags _ c.note_type.new.devices c.loop-index.index (c.note_type.ensures h _ (c.loop-index.invariant h k f))

pub returns : goal.returns
unfolding changed_by
returns g c = λ h d k f.
    let words = g.M.WordMemory.words c.args.memory.now in
    let added = input_add_flag words c.args.named.context in
    let isochronous = has_isochronous c.args.size words c.args.named.context in
    let end : c.loop-index.index ≡ 32 = omega (arith, c.loop-index.auto.index-end, c.loop-index-test.false) in
    typed_all h k c.args.named.slot added isochronous c.loop-index.devices (no_endpoint_above c.args.size words c.args.named.context)
    (subst (λ n. FollowsDevices (typed h k c.args.named.slot (λ i. added i && nat_lt i n) isochronous) c.loop-index.devices) end (c.loop-index.invariant h k f))
