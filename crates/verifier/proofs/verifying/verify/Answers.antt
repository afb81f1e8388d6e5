use Rattle.verifier.proofs.Laws.{FollowsCertificate, kept_whole, verified}
use Rattle.trace_reader.specs.Entries.{text_of}
use Rattle.verifier.proofs.verifying.verify.Goals as goal

pub returns-in-Whole : goal.returns-in-Whole
returns-in-Whole c =
    let text = text_of c.args.trace.now in
    let leases = c.args.leases.now in
    let whole = rw (c.in_ok-header.ensures, c.as_slice-rows.ensures) at (rw c.in-Whole.is at c.in_ok-pass.ensures.whole) in
    let begins = rw c.in_ok-header.ensures at c.in_ok-log.ensures in
    let so = kept_whole _ FollowsCertificate text c.in_ok-log.log c.in-Whole.pass whole leases (begins text.first) c.into_log.result c.into_log.ensures.logged in
    record { verdict = verified text leases c.into_log.result c.is_whole.result c.is_whole.ensures.yes c.is_whole.ensures.no so }
