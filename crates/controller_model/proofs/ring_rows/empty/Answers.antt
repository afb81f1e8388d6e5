use Rattle.controller_model.proofs.Laws.{resting, arith, shape_of, ring_changed, with_rings, resting_here, resting_other}
unfoldable use Rattle.controller_model.proofs.Words.{emptied}
use Rattle.controller_model.proofs.ring_rows.empty.Goals as goal

pub returns : goal.returns
unfolding resting emptied
returns c = λ h g words w alike f.
    with_rings (ring_changed c.from.ensures (omega (arith, c.ranges.id)) c.args.kept.now.rings_many c.index_mut-state.ensures.value alike f.rings
    (resting_other w c.args.id) (resting_here w c.args.id) (assumption (c.clear.ensures, c.clear-2.ensures.keeps (shape_of g c.args.id), c.clear-2.ensures.harms (shape_of g c.args.id))))
    (assumption)
