use Rattle.replayer.proofs.MiddleLaws.{ap, sym, ◌∙◌, Ring, no_ring, one_ring}
use Rattle.replayer.proofs.lazy_steps.goal.ring_shape.Goals as goal

pub returns-in-None : goal.returns-in-None
returns-in-None c = no_ring c.args.header.now c.args.ring (sym (c.ring_named.ensures c.args.header.now.rings c.requires.found) ∙ c.in-None.is)

pub returns-in-Some : goal.returns-in-Some
returns-in-Some c =
    sym (ap (λ (r : Ring). r.shape) c.index-rings-number.is)
    ∙ one_ring c.args.header.now c.args.ring c.in-Some.number c.as_slice-rings.result.now c.index-rings-number.result
    (sym (c.ring_named.ensures c.args.header.now.rings c.requires.found) ∙ c.in-Some.is) c.as_slice-rings.ensures c.index-rings-number.is
