use Rattle.event_rows.proofs.Laws.{◌≡◌, ◌∙◌, ap, sym, subst, ring_having, moved, ring_placed, MayMoveTo, pointed, rings_same, may_move, placed_rings, pointed_ring}
use Rattle.event_rows.proofs.completions.placing.place.Goals as goal

pub returns : goal.returns
returns c = λ d k f may.
    let h = c.args.header.now in
    let x = c.args.placing in
    let ring : c.ring_placed-ring.result ≡ ring_placed k x.slot x.index (ring_having h x.pointer) =
    c.ring_placed-ring.ensures k f.devices ∙ ap (ring_placed k x.slot x.index) c.ring_having-having.ensures in
    let may_there : MayMoveTo h k c.ring_placed-ring.result x.pointer x.cycle =
    subst (λ o. MayMoveTo h k o x.pointer x.cycle) (sym ring) (may_move h k x.slot x.index x.pointer x.cycle may) in
    let rings = rings_same h (moved h k c.ring_placed-ring.result x.pointer x.cycle) (pointed h k x.slot x.index x.pointer x.cycle) c.move_ring.new.rings.items
    (c.move_ring.ensures k f.rings may_there)
    (pointed_ring h k x.slot x.index x.pointer x.cycle ∙ sym (ap (λ o. (moved h k o x.pointer x.cycle).ring) ring)) in
    record {
      rings = placed_rings h k x.slot x.index x.pointer x.cycle d x.state c.move_ring.new.rings.items rings;
      devices = c.place.ensures h d k x.pointer x.cycle (λ off. sym c.ring_having-having.ensures) f.devices;
    }
