use Rattle.controller_model.proofs.Laws.{◌<◌, refl, ap, arith, is_ring, freed, freed_has, disabled_first, disabled_later}
use Rattle.controller_model.proofs.disabling.disable_one.Goals as goal

pub returns-then-index-eq0-clause-change : goal.returns-then-index-eq0-clause-change
returns-then-index-eq0-clause-change c = λ h words w f.
    rw (disabled_first w c.args.slot c.args.index c.if-index-eq0.true) (c.turn_off.ensures.change h words w (λ r one. absurd (omega (arith, one.some_index, c.if-index-eq0.true))) f)

pub returns-clause-change : goal.returns-clause-change
returns-clause-change c = λ h words w f.
    let some : 0 < c.args.index = omega (arith, c.if-index-eq0.false) in
    let o = w.ring_of c.args.slot c.args.index in
    let u = freed w c.args.slot c.args.index o in
    let now = c.free.ensures.change h words w f in
    rw (disabled_later w c.args.slot c.args.index o refl some c.requires)
    (c.turn_off-2.ensures.change h words u (λ r one. ap (is_ring r) (freed_has w c.args.slot c.args.index o refl)) now)
