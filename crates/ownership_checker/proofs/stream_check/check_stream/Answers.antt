use Rattle.ownership_checker.proofs.Laws.{arith, ℕ, [], subst, reverse, err_from_is_err_and, Header, FollowsLeases, HoldsLents, header_now, lents, opened_bad, sound_so}
use Rattle.ownership_checker.proofs.stream_check.check_stream.Goals as goal

pub returns-in_err-reader-clause-line : goal.returns-in_err-reader-clause-line
returns-in_err-reader-clause-line g c = grind (arith, err_from_is_err_and, opened_bad)

pub returns-in-Whole-clause-accepted : goal.returns-in-Whole-clause-accepted
returns-in-Whole-clause-accepted g c =
    let held = g.S.Source.held c.args.source.now in
    let book = c.in-Whole.book in
    let whole = rw c.in-Whole.is at c.in_ok-book-2.ensures.whole in
    let begins : (first : ℕ) → FollowsLeases c.in_ok-reader.reader.header first [] c.in_ok-book.book =
    subst (λ (h : Header). (first : ℕ) → FollowsLeases h first [] c.in_ok-book.book) c.header.ensures.said c.in_ok-book.ensures in
    let so = whole c.args.keeps held [] c.in_ok-reader.ensures.opened begins in
    let trace = so.0 in
    let past = reverse trace.rows in
    (trace, so.1, sound_so HoldsLents trace book so.2 c.into_leases.result.items (c.into_leases.ensures (header_now trace.header past) (lents trace.header trace.first past) so.2.kept))

pub returns-in-Refused-clause-refused : goal.returns-in-Refused-clause-refused
returns-in-Refused-clause-refused g c = grind arith
