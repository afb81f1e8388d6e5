use Rattle.controller_model.proofs.Laws.{refl, arith, crossed, ring_held, ring_changed, with_rings, crossed_here, crossed_other}
use Rattle.controller_model.proofs.looks.cross_on.Goals as goal

pub returns : goal.returns
unfolding crossed
returns c = λ h words w f.
    with_rings (ring_changed c.from.ensures (omega (arith, c.ranges.ring)) c.args.kept.now.rings_many c.index_mut-state.ensures.value (λ q apart. refl) f.rings
    (crossed_other h w c.args.ring c.args.link.now) (crossed_here h w c.args.ring c.args.link.now) (c.cross.ensures h c.args.ring (ring_held w c.args.ring))) (assumption)
