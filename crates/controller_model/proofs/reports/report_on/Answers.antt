use Rattle.controller_model.proofs.Words.{◌≡◌, ◌&&◌, ◌∙◌, None, Some, ap, sym, cond-false, cond-true, code, endpoint, slot, code_posted, report_code, told, has_isoch, counted_code}
use Rattle.controller_model.proofs.reports.report_on.Goals as goal

pub returns-in-None-clause-change : goal.returns-in-None-clause-change
returns-in-None-clause-change c = λ words w f.
    let is = c.endpoint_of-endpoint.ensures c.args.header.now words w f in
    let none : w.ring_of (slot c.args.block.now) (endpoint c.args.block.now) ≡ None =
    (λ k. w.ring_of (sym c.slot-slot.ensures k) (sym c.endpoint-index.ensures k)) ∙ is.1 ∙ c.in-None.is in
    rw (ap (λ o. told c.args.header.now w c.args.block.now o) none) tt

pub returns-in-Some-clause-change : goal.returns-in-Some-clause-change
returns-in-Some-clause-change c = λ words w f.
    let is = c.endpoint_of-endpoint.ensures c.args.header.now words w f in
    let some = (λ k. w.ring_of (sym c.slot-slot.ensures k) (sym c.endpoint-index.ensures k)) ∙ is.1 ∙ c.in-Some.is in
    rw (ap (λ o. told c.args.header.now w c.args.block.now o) some ∙ cond-true _ _ _ (sym c.tells_of_service.ensures ∙ c.if-tells_of_service.true)) f

pub returns-in-Some-2-clause-change : goal.returns-in-Some-2-clause-change
unfolding code_posted
returns-in-Some-2-clause-change c = λ words w f.
    let h = c.args.header.now in
    let is = c.endpoint_of-endpoint.ensures h words w f in
    let some : w.ring_of (slot c.args.block.now) (endpoint c.args.block.now) ≡ Some c.in-Some-2.ring =
    (λ k. w.ring_of (sym c.slot-slot.ensures k) (sym c.endpoint-index.ensures k)) ∙ is.1 ∙ c.in-Some-2.is in
    let flag : w.isochronous (slot c.args.block.now) (endpoint c.args.block.now) ≡ c.endpoint_of-endpoint.result.is_isochronous =
    (λ k. w.isochronous (sym c.slot-slot.ensures k) (sym c.endpoint-index.ensures k)) ∙ is.2 in
    let counts : code_posted h w c.args.block.now ≡ c.code_at-code.result =
    ap (λ b. counted_code (has_isoch h.version && b) (code c.args.block.now)) flag ∙ sym c.code_at-code.ensures in
    rw (ap (λ o. told h w c.args.block.now o) some ∙ cond-false _ _ _ (sym c.tells_of_service.ensures ∙ c.if-tells_of_service.false)
    ∙ (λ k. report_code h w (counts k) (sym c.slot-slot.ensures k) (sym c.endpoint-index.ensures k) c.in-Some-2.ring c.args.block.now))
    (c.report_code.ensures.change h words w f)
