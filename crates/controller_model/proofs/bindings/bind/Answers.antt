use Rattle.controller_model.proofs.Laws.{IsSome, ring_with, ◌≡◌, ◌<◌, ◌+◌, ◌*◌, ℕ, Some, refl, arith, is_ring, ring_changed, with_endpoints, with_rings, endpoints_set, holder_taken, none_else, bound_here, bound_other}
use Rattle.controller_model.proofs.bindings.bind.Goals as goal

pub returns-clause-change : goal.returns-clause-change
returns-clause-change c = λ h words w same has free f.
    let place : c.from-2.result * 32 + c.from-3.result ≡ c.args.slot * 32 + c.args.index = omega (arith, c.from-2.ensures, c.from-3.ensures) in
    let taken =
    holder_taken (λ t j. is_ring c.args.ring (w.ring_of t j)) c.args.slot c.args.index (omega (arith, c.ranges.slot)) c.requires.index
    (none_else w c.args.slot c.args.index c.args.ring free) in
    let is_ours : (r : ℕ) → Some c.args.ring ≡ Some r → r < 256 = λ r e.
    let it : c.args.ring ≡ r = cc in
    omega (arith, it, c.ranges.ring) in
    with_rings (ring_changed c.from.ensures (omega (arith, c.ranges.ring)) c.args.kept.now.rings_many c.index_mut-bound.ensures.value (λ q apart. refl) f.rings
    (λ q apart. bound_other w c.args.slot c.args.index c.args.ring c.args.pointer c.args.cycle c.args.state q has apart)
    (bound_here w c.args.slot c.args.index c.args.ring c.args.pointer c.args.cycle c.args.state) (λ old.
    let harms = λ (there : IsSome (ring_with h c.args.ring)). rw same at (c.in_ok-place.ensures.harms (w.events c.args.ring) (rw (← same) at (old.harms there))) in
    assumption (harms, rw (← c.holder_of-bound.ensures) at taken, rw same at (c.in_ok-place.ensures.keeps (w.events c.args.ring) (w.reported c.args.ring) (rw (← same) at old.history)))))
    (λ rings. with_endpoints (endpoints_set c.args.kept.now.endpoints.items w.endpoint_state w.ring_of w.isochronous (c.from-2.result * 32 + c.from-3.result) c.args.slot c.args.index place
    c.requires.index f.endpoints (omega (arith, c.ranges.slot)) c.args.kept.now.endpoints_many c.index_mut-endpoint.result.now _ c.index_mut-endpoint.ensures.value refl is_ours) (assumption))
