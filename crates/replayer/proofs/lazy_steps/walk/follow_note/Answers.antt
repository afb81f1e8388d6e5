use Rattle.replayer.proofs.MiddleLaws.{drop_all, header_behind, rows_behind, drop, sym, other_header, other_rows, from_here}
use Rattle.replayer.proofs.lazy_steps.walk.follow_note.Goals as goal

pub returns-in_default : goal.returns-in_default
returns-in_default c =
    let h = c.args.header.now in
    let left = drop c.args.next c.args.rows.now in
    let other = c.in_default.not-Next in
    record {
      header = sym (other_header h left c.args.note.now other);
      found = c.requires.found;
      then_headed = c.requires.then_headed;
      next = sym (other_rows h left c.args.note.now other);
    }

pub returns-in-None-clause-header : goal.returns-in-None-clause-header
unfolding header_behind
returns-in-None-clause-header c = rw (c.in-Next.is, drop_all c.args.next c.args.rows.now c.in-None.ensures.lookup.3)

pub returns-in-None-clause-next : goal.returns-in-None-clause-next
unfolding rows_behind
returns-in-None-clause-next c = rw (c.in-Next.is, drop_all c.args.next c.args.rows.now c.in-None.ensures.lookup.3)

pub returns-in_ok-follow_row-in-Some-clause-header : goal.returns-in_ok-follow_row-in-Some-clause-header
unfolding header_behind
returns-in_ok-follow_row-in-Some-clause-header c =
    rw (c.in-Next.is, from_here c.args.rows.now c.args.next c.in-Some.row.now c.in-Some.ensures.lookup.3.0 c.in-Some.ensures.lookup.1) c.in_ok-follow_row-in-Some.ensures.header

pub returns-in_ok-follow_row-in-Some-clause-next : goal.returns-in_ok-follow_row-in-Some-clause-next
unfolding rows_behind
returns-in_ok-follow_row-in-Some-clause-next c = rw (c.in-Next.is, from_here c.args.rows.now c.args.next c.in-Some.row.now c.in-Some.ensures.lookup.3.0 c.in-Some.ensures.lookup.1)
