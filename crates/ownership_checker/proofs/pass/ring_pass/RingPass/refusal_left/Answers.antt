use Rattle.ownership_checker.proofs.Laws.{◌≡◌, [], subst, Header, broken, IsLeast, header_now, known_now, least_left, only_left, told_of}
use Rattle.ownership_checker.proofs.pass.ring_pass.RingPass.refusal_left.Goals as goal

pub returns-in-Ok : goal.returns-in-Ok
returns-in-Ok g c = λ h past p placed on left.
    let k = known_now h past in
    let step = c.in-Ok.ensures.ok k p.tracked placed in
    only_left (header_now h past) k c.args.row.now on left (subst (λ (x : Header). broken x k c.args.row.now ≡ []) p.header step.clean)

pub returns-in-Err : goal.returns-in-Err
returns-in-Err g c = told_of c.in-Err.fault _ _ (λ r least h past p placed on left.
    let k = known_now h past in
    least_left (header_now h past) k c.args.row.now on r left
    (subst (λ (x : Header). IsLeast x k c.args.row.now r) p.header (least k p.tracked placed))) c.in-Err.ensures.refused
