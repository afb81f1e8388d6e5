use Rattle.replayer.proofs.Words.{◌≡◌, ◌∙◌, ◌∷◌, ◌++◌, [], true, ap, subst, sym, may_stand_together, IsFinder, header_parts, with_ring}
use Rattle.replayer.proofs.lazy_steps.there.add_ring.Goals as goal

pub returns-clause-header : goal.returns-clause-header
unfolding with_ring
returns-clause-header c =
    let h = c.args.header.now in
    ap (λ rs. record h { rings = rs }) (c.in_ok-push.ensures.ok ∙ ap (λ r. h.rings ++ r ∷ []) c.in_ok-copy.ensures)

pub returns-clause-found : goal.returns-clause-found
unfolding with_ring
returns-clause-found c =
    let h = c.args.header.now in
    subst (λ rs. IsFinder rs c.add.new.self) (sym c.in_ok-push.ensures.ok)
    (c.in_ok-add.ensures (subst (λ r. may_stand_together (h.rings ++ r ∷ []) ≡ true) (sym c.in_ok-copy.ensures) (header_parts (with_ring h c.args.ring.now) c.requires.then_headed).1))
