use Rattle.event_rows.proofs.Laws.{subst, Stopped, Known, held_at_ceiling, in_state, FollowsRings, changed_by, refl, rings_same}
use Rattle.event_rows.proofs.completions.success.stop.Goals as goal

pub returns : goal.returns
unfolding changed_by in_state
returns c = λ d k f.
    let h = c.args.header.now in
    let s = c.args.slot in
    let i = c.args.endpoint in
    let stopped : Known = in_state h k s i Stopped in
    let held = c.hold_ring.ensures stopped (rings_same h k stopped c.args.rings.now.items f.rings refl) in
    record {
      rings = subst (λ o. FollowsRings h (held_at_ceiling h stopped o) c.hold_ring.new.rings.items) (c.ring_of-ring.ensures k f.devices) held;
      devices = c.stop.ensures h d k f.devices;
    }
