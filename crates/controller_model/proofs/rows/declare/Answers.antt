use Rattle.controller_model.proofs.Laws.{refl, arith, declared, ring_changed, with_rings, declared_here, declared_other}
use Rattle.controller_model.proofs.rows.declare.Goals as goal

pub returns : goal.returns
unfolding declared
returns c = λ h words w f.
    with_rings (ring_changed c.from.ensures (omega (arith, c.ranges.ring)) c.args.kept.now.rings_many c.index_mut-state.ensures.value (λ q apart. refl) f.rings
    (declared_other h w c.args.ring c.args.blocks.now) (declared_here h w c.args.ring c.args.blocks.now)
    (λ old. assumption (c.in_ok-declare.ensures (w.queue c.args.ring) (w.lengths c.args.ring) old.declared))) (assumption)
