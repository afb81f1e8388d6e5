use Rattle.verifier.proofs.Laws.{false, subst, err_from_is_err_and, lents, FollowsCertificate, is_refused, is_whole, opened_bad, unverified, verified}
use Rattle.verifier.proofs.stream.verify_stream.Goals as goal

pub returns-in_err-reader-clause-line : goal.returns-in_err-reader-clause-line
returns-in_err-reader-clause-line g c =
    let p = err_from_is_err_and c.from_residual.result c.from_residual.ensures.1 in
    rw (p.1, p.2) (opened_bad false (g.S.Source.held c.args.source.now) (g.S.Source.held c.open.new.source) c.in_err-reader.field-0.0 c.in_err-reader.ensures.opened)

pub returns-in-Whole-clause-verdict : goal.returns-in-Whole-clause-verdict
returns-in-Whole-clause-verdict g c =
    let held = g.S.Source.held c.args.source.now in
    let leases = c.args.leases.now in
    let begun = subst (λ h. (first : _) → FollowsCertificate leases h (lents h first _) c.in_ok-log.log) c.header.ensures.said c.in_ok-log.ensures in
    let so = is_whole _ c.in_ok-log-2.field-0 c.in-Whole.log c.in-Whole.is c.in_ok-log-2.ensures.whole false held leases c.in_ok-reader.ensures.opened begun in
    (so.0, so.1, verified so.0 leases c.in-Whole.log c.is_whole.result c.is_whole.ensures.yes c.is_whole.ensures.no so.2)

pub returns-in-Refused-clause-verdict : goal.returns-in-Refused-clause-verdict
returns-in-Refused-clause-verdict g c =
    let held = g.S.Source.held c.args.source.now in
    let so = is_refused _ c.in_ok-log-2.field-0 c.in-Refused.row c.in-Refused.refusal c.in-Refused.is c.in_ok-log-2.ensures.refused false held c.in_ok-reader.ensures.opened in
    (so.0, so.1, unverified so.0 c.args.leases.now c.in-Refused.row c.in-Refused.refusal so.2)
