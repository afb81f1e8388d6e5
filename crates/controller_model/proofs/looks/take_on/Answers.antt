use Rattle.controller_model.proofs.Laws.{refl, arith, taken_on, ring_held, ring_changed, with_rings, taken_here, taken_other}
use Rattle.controller_model.proofs.looks.take_on.Goals as goal

pub returns : goal.returns
unfolding taken_on
returns c = λ h words w same f.
    with_rings (ring_changed c.from.ensures (omega (arith, c.ranges.ring)) c.args.kept.now.rings_many c.index_mut-state.ensures.value (λ q apart. refl) f.rings
    (taken_other h w c.args.ring c.args.block.now) (taken_here h w c.args.ring c.args.block.now) (c.in_ok-take.ensures h c.args.ring (ring_held w c.args.ring) same)) (assumption)
