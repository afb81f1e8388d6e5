use Rattle.controller_model.proofs.Laws.{◌≡◌, ◌<◌, ◌+◌, ◌*◌, ◌∙◌, ℕ, true, None, Some, length, refl, ap, arith, eq-eqb, is_ring, Endpoint, read_at, ring_changed, with_rings, endpoints_set, holder_left, put_pair_id, released_here, released_other}
use Rattle.controller_model.proofs.bindings.release.Goals as goal

none_some : (r : ℕ) → None ≡ Some r → ⊥
none_some r e = absurd (cc)

pub returns-clause-change : goal.returns-clause-change
returns-clause-change c = λ h words w has f.
    let place : c.from-2.result * 32 + c.from-3.result ≡ c.args.slot * 32 + c.args.index = omega (arith, c.from-2.ensures, c.from-3.ensures) in
    let within : c.args.slot * 32 + c.args.index < length c.args.kept.now.endpoints.items = omega (arith, c.args.kept.now.endpoints_many, c.ranges.slot, c.requires) in
    let was = f.endpoints.each c.args.slot c.args.index c.index_mut-endpoint.result.now c.requires
    (read_at c.args.kept.now.endpoints.items (c.from-2.result * 32 + c.from-3.result) (c.args.slot * 32 + c.args.index) c.index_mut-endpoint.result.now place within c.index_mut-endpoint.ensures.value) in
    let has_it : is_ring c.args.ring (w.ring_of c.args.slot c.args.index) ≡ true = ap (is_ring c.args.ring) has ∙ eq-eqb c.args.ring c.args.ring refl in
    let new : Endpoint = record {
      state = c.index_mut-endpoint.result.now.state;
      ring = None;
      is_isochronous = c.index_mut-endpoint.result.now.is_isochronous;
    } in
    with_rings (ring_changed c.from.ensures (omega (arith, c.ranges.ring)) c.args.kept.now.rings_many c.index_mut-state.ensures.value (λ q apart. refl) f.rings
    (λ q apart. released_other w c.args.slot c.args.index c.args.ring q has apart) (released_here w c.args.slot c.args.index c.args.ring)
    (λ old. assumption (rw (← c.left_by-state.ensures) at
    (holder_left (λ t j. is_ring c.args.ring (w.ring_of t j)) c.index_mut-state.result.now.holder c.args.slot c.args.index (omega (arith, c.ranges.slot)) c.requires has_it old.holder))))
    (assumption (rw (put_pair_id w.endpoint_state c.args.slot c.args.index c.index_mut-endpoint.result.now.state was.0) at
    (endpoints_set c.args.kept.now.endpoints.items w.endpoint_state w.ring_of w.isochronous (c.from-2.result * 32 + c.from-3.result) c.args.slot c.args.index place c.requires
    f.endpoints (omega (arith, c.ranges.slot)) c.args.kept.now.endpoints_many c.index_mut-endpoint.result.now new c.index_mut-endpoint.ensures.value refl
    (λ r e. absurd (none_some r e)))))
