use Rattle.replayer.proofs.MiddleLaws.{◌≡◌, false, is_some, slice_get, ◌+◌, ◌-◌, ◌<◌, ◌∙◌, ap, arith, length, rules, subst, take, refl, None, IfOk, IfSome, common_steps, eager_schedule, lines_of, DoesHarm, NoneDoesHarm, made_lines, none_tried, told_none, where_none, read_told, IsNoRead}
use Rattle.replayer.proofs.scheduler.harmful.harmful_run.Goals as goal

pub returns-in-Read-clause-none : goal.returns-in-Read-clause-none
returns-in-Read-clause-none c refused here =
    let rows = c.args.trace.now.rows in
    let n = c.args.row - c.args.trace.now.first in
    let inside : n < length rows = omega (arith, c.if-row-trace-2.false, ap length c.as_slice.ensures) in
    let is : n ≡ refused = omega (arith, here) in
    subst (λ m. IfSome (slice_get rows m) (λ r. IsNoRead r → NoneDoesHarm c.args.trace.now.header rows m c.args.search)) is
    (read_told rows n _ c.in-Read.event _ inside (rw c.as_slice-2.ensures at c.in-Read.is))

pub returns-clause-harm : goal.returns-clause-harm
returns-clause-harm c =
    let h = c.args.trace.now.header in
    let rows = c.args.trace.now.rows in
    let n = c.args.row - c.args.trace.now.first in
    let inside : n < length rows = omega (arith, c.if-row-trace-2.false, ap length c.as_slice.ensures) in
    let long : length (take (n + 1) rows) ≡ n + 1 = grind (arith, common_steps, inside) in
    subst (λ m. IfOk c.harm_with_a_late_ring.result (λ found. IfSome found (λ run. DoesHarm h rows m run.schedule.steps run.harm))) (ap (λ l. length (take (n + 1) l)) c.as_slice-3.ensures ∙ long) c.harm_with_a_late_ring.ensures.harm

pub returns-clause-none : goal.returns-clause-none
returns-clause-none c =
    let h = c.args.trace.now.header in
    let rows = c.args.trace.now.rows in
    let n = c.args.row - c.args.trace.now.first in
    let inside : n < length rows = omega (arith, c.if-row-trace-2.false, ap length c.as_slice.ensures) in
    let long : length (take (n + 1) rows) ≡ n + 1 = grind (arith, common_steps, inside) in
    let same = c.as_slice-3.ensures in
    let first = take (n + 1) rows in
    let made = rw same at c.eager_schedule-eager.ensures in
    let eager = (rw c.in_default-2.is at c.in_ok-run.ensures.none) (eager_schedule h rows first None) made in
    let many : c.lines_of-lines.result ≡ lines_of (eager_schedule h rows first None) (n + 1) =
    made_lines c.lines_of-lines.result (n + 1) c.eager_schedule-eager.result (eager_schedule h rows first None) made c.in_ok-run.ensures.made c.lines_of-lines.ensures.made (rw (same, long) at c.lines_of-lines.ensures.dropped) in
    let none : is_some c.in_ok-found.found ≡ false = search (rules, c.is_some.ensures, c.if-is_some.false) in
    let lazy = where_none c.in_ok-found.found _ none c.in_ok-found.ensures.none in
    told_none c.harm_with_a_late_ring.result _ (slice_get rows) (λ refused. c.args.row ≡ c.args.trace.now.first + refused) (λ refused. NoneDoesHarm h rows refused c.args.search) c.harm_with_a_late_ring.ensures.none (λ refused here late.
    let is : n ≡ refused = omega (arith, here) in
    subst (λ m. NoneDoesHarm h rows m c.args.search) is (none_tried h rows first n c.lines_of-lines.result c.args.search refl many eager lazy (rw (same, long) at late)))
