use Rattle.controller_model.proofs.Laws.{◌≡◌, ◌+◌, ◌*◌, refl, arith, typed, with_endpoints, endpoints_type}
use Rattle.controller_model.proofs.endpoints.set_type.Goals as goal

pub returns-clause-change : goal.returns-clause-change
unfolding typed
returns-clause-change c = λ h words w f.
    let place : c.from.result * 32 + c.from-2.result ≡ c.args.slot * 32 + c.args.index = omega (arith, c.from.ensures, c.from-2.ensures) in
    with_endpoints (endpoints_type c.args.kept.now.endpoints.items w.endpoint_state w.ring_of w.isochronous (c.from.result * 32 + c.from-2.result) c.args.slot c.args.index
    place c.requires f.endpoints (omega (arith, c.ranges.slot)) c.args.kept.now.endpoints_many c.index_mut-endpoint.result.now _ c.index_mut-endpoint.ensures.value refl refl) (assumption)
