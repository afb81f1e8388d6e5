use Rattle.row_history.proofs.BaseWords.{sym, subst, IsHeader}
use Rattle.row_history.proofs.RingsNow.{one_less}
use Rattle.row_history.proofs.live_rings.remove_ring.Goals as goal

pub new-requires : goal.new-requires
new-requires c =
    let h = c.args.header.now in
    subst (λ rs. IsHeader (record h { rings = rs })) (sym c.remove.ensures) (one_less h c.args.number c.requires.headed)

pub returns-clause-headed : goal.returns-clause-headed
returns-clause-headed c =
    let h = c.args.header.now in
    subst (λ rs. IsHeader (record h { rings = rs })) (sym c.remove.ensures) (one_less h c.args.number c.requires.headed)
