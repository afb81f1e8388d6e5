use Rattle.ownership_checker.proofs.Laws.{◌≡◌, ◌∙◌, false, length, refl, sym, subst, err_from_is_err_and, IsWithin, Header, on_ring, header_now, known_now, is_bad_withdraw, lents, NopRow, WithdrawsAt, contexts_fit, withdrawn_now, withdrawn_transfer, behind_logged, held_before, opened_before, same_still, withdrawn_behind, withdrawn_refused, least_off, kept_withdrawing}
use Rattle.ownership_checker.proofs.pass.ring_pass.RingPass.descriptor_withdrawn.Goals as goal

pub returns-then-is_stopped-clause-refused : goal.returns-then-is_stopped-clause-refused
returns-then-is_stopped-clause-refused g c = λ h past p.
    let k = known_now h past in
    least_off (header_now h past) k (NopRow c.args.id c.args.position) (sym (c.is_stopped.ensures k p.tracked.follows.registers) ∙ c.if-is_stopped.true)

pub returns-in_err-check_withdrawing-clause-refused : goal.returns-in_err-check_withdrawing-clause-refused
returns-in_err-check_withdrawing-clause-refused g c =
    let words = g.M.WordMemory.words in
    let e = err_from_is_err_and c.from_residual.result c.from_residual.ensures.1 in
    rw (e.1, e.2)
    (withdrawn_refused words c.args.self.now c.end_withdrawn.new.self c.args.id c.args.position
    (λ h past p. (
      same_still words h past c.args.self.now p c.end_withdrawn.new.self c.end_withdrawn.ensures.header c.end_withdrawn.ensures.finder c.end_withdrawn.ensures.record c.end_withdrawn.ensures.memory c.end_withdrawn.ensures.withdrawn,
      sym (c.is_stopped.ensures (known_now h past) p.tracked.follows.registers) ∙ c.if-is_stopped.false,
    ))
    c.in_err-check_withdrawing.field-0.0 c.in_err-check_withdrawing.ensures.refused)

pub returns-clause-passed : goal.returns-clause-passed
returns-clause-passed g c = λ h past p.
    let words = g.M.WordMemory.words in
    let k = known_now h past in
    let before = c.end_withdrawn.new.self in
    let q = same_still words h past c.args.self.now p before c.end_withdrawn.ensures.header c.end_withdrawn.ensures.finder c.end_withdrawn.ensures.record c.end_withdrawn.ensures.memory c.end_withdrawn.ensures.withdrawn in
    withdrawn_behind words h past before q c.args.id c.args.position c.check_withdrawing.new.kept
    (λ keeps on. c.in_ok-check_withdrawing.ensures.ok k q.tracked.follows keeps (contexts_fit before.header k keeps) on)
    (λ keeps. c.in_ok-check_withdrawing.ensures.version k q.tracked.follows keeps (contexts_fit before.header k keeps))
    (sym (c.is_stopped.ensures k p.tracked.follows.registers) ∙ c.if-is_stopped.false)
    (subst (λ e. IsWithin e (length past)) (sym c.in_ok-check_withdrawing.ensures.events) q.few_reads) _ refl refl refl refl refl

pub returns-clause-logged : goal.returns-clause-logged
returns-clause-logged g c = λ list h first past p numbered room held.
    let words = g.M.WordMemory.words in
    let Holds = g.B.LeaseLog.holds list in
    let k = known_now h past in
    let before = c.args.self.now in
    let later = c.end_withdrawn.new.self in
    let id = c.args.id in
    let at = c.args.position in
    let on = sym (c.is_stopped.ensures k p.tracked.follows.registers) ∙ c.if-is_stopped.false in
    let q = same_still words h past before p later c.end_withdrawn.ensures.header c.end_withdrawn.ensures.finder c.end_withdrawn.ensures.record c.end_withdrawn.ensures.memory c.end_withdrawn.ensures.withdrawn in
    let keeps = q.tracked.keeps on in
    let step = c.in_ok-check_withdrawing.ensures.ok k q.tracked.follows keeps (contexts_fit later.header k keeps) on in
    let from = c.in_ok-check_withdrawing.ensures.from k q.tracked.follows keeps (contexts_fit later.header k keeps) in
    let good = subst (λ (x : Header). is_bad_withdraw x k id at ≡ false) c.end_withdrawn.ensures.header (kept_withdrawing later.header k id at step.kept).1 in
    behind_logged words Holds h first past before p room (NopRow id at) refl (λ y. on_ring y k id (WithdrawsAt at)) (withdrawn_now h first past id at) c.args.number numbered later.log later.ranges
    (c.end_withdrawn.ensures.ended list k (words before.memory) (lents h first past) p.tracked.follows from (withdrawn_transfer before.header k (p.tracked.keeps on) id at good)
    (opened_before words Holds h first past before p room) (held_before words Holds h first past before p room before.log before.ranges held))
