use Rattle.ownership_checker.proofs.Laws.{[], All-weaker, IsTraceRow, HoldsLents, header_now, reverse, lents, kept_whole, sound_so, IsRowOf, text_of}
use Rattle.ownership_checker.proofs.trace_check.check_in.Goals as goal

pub pass_kept-requires-clause-fitting : goal.pass_kept-requires-clause-fitting
pass_kept-requires-clause-fitting g c = rw c.as_slice-rows.ensures (All-weaker (IsRowOf c.args.trace.now.header.version) IsTraceRow (λ row is. is.0) c.args.trace.now.rows c.args.trace.now.fitting)

pub returns-in-Whole-clause-accepted : goal.returns-in-Whole-clause-accepted
returns-in-Whole-clause-accepted g c =
    let trace = c.args.trace.now in
    let text = text_of trace in
    let past = reverse trace.rows in
    let whole = rw (c.in_ok-header.ensures, c.as_slice-rows.ensures) at (rw c.in-Whole.is at c.in_ok-pass.ensures.whole) in
    let begins = rw c.in_ok-header.ensures at c.in_ok-book.ensures in
    let so = kept_whole g.M.WordMemory.words (λ list. HoldsLents) text c.in_ok-book.book c.in-Whole.pass whole [] (begins trace.first) c.into_log.result c.into_log.ensures.logged in
    sound_so HoldsLents text c.into_log.result so c.into_leases.result.items (c.into_leases.ensures (header_now trace.header past) (lents trace.header trace.first past) so.kept)

pub returns-in-Refused-clause-refused : goal.returns-in-Refused-clause-refused
returns-in-Refused-clause-refused g c = rw (c.in_ok-header.ensures, c.as_slice-rows.ensures) at (rw c.in-Refused.is at c.in_ok-pass.ensures.refused)
