use Rattle.controller_model.proofs.Laws.{◌≡◌, ◌<◌, ◌+◌, ◌*◌, length, arith, read_at}
use Rattle.controller_model.proofs.endpoints.endpoint_of.Goals as goal

pub returns : goal.returns
returns c = λ h words w f.
    let place : c.from.result * 32 + c.from-2.result ≡ c.args.slot * 32 + c.args.index = omega (arith, c.from.ensures, c.from-2.ensures) in
    let inside : c.args.slot * 32 + c.args.index < length c.args.kept.now.endpoints.items = omega (arith, c.args.kept.now.endpoints_many, c.ranges.slot, c.requires) in
    f.endpoints.each c.args.slot c.args.index c.index.result.now c.requires
    (read_at c.args.kept.now.endpoints.items (c.from.result * 32 + c.from-2.result) (c.args.slot * 32 + c.args.index) c.index.result.now place inside c.index.ensures)
