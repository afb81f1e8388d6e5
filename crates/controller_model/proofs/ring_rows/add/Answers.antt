use Rattle.controller_model.proofs.Words.{◌≡◌, ◌++◌, ◌∷◌, ◌∙◌, [], ap, with_ring}
use Rattle.controller_model.proofs.ring_rows.add.Goals as goal

pub returns : goal.returns
unfolding with_ring
returns c =
    let h = c.args.header.now in
    let r = c.args.ring.now in
    let same : c.push.new.self ≡ h.rings ++ r ∷ [] = c.in_ok-push.ensures.ok ∙ ap (λ q. h.rings ++ q ∷ []) c.in_ok-copy.ensures in
    (λ i. record h { rings = same i })
