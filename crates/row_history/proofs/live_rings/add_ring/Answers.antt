use Rattle.row_history.proofs.BaseWords.{◌++◌, ◌∷◌, [], rules, sym, subst, IsHeader}
use Rattle.row_history.proofs.RingsNow.{one_more}
use Rattle.row_history.proofs.live_rings.add_ring.Goals as goal

pub new-requires : goal.new-requires
new-requires c =
    let h = c.args.header.now in
    subst (λ rs. IsHeader (record h { rings = rs })) (sym c.in_ok-push.ensures.ok)
    (subst (λ r. IsHeader (record h { rings = h.rings ++ r ∷ [] })) (sym c.in_ok-ring.ensures) (one_more h c.args.ring.now c.requires.headed (search rules) c.places-places.ensures.allowed c.requires.clear))

pub returns-clause-headed : goal.returns-clause-headed
returns-clause-headed c =
    let h = c.args.header.now in
    subst (λ rs. IsHeader (record h { rings = rs })) (sym c.in_ok-push.ensures.ok)
    (subst (λ r. IsHeader (record h { rings = h.rings ++ r ∷ [] })) (sym c.in_ok-ring.ensures) (one_more h c.args.ring.now c.requires.headed (search rules) c.places-places.ensures.allowed c.requires.clear))
