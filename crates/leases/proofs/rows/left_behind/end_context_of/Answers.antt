use Rattle.leases.proofs.Laws.{sym, ◌∙◌, [], no_context, one_context, ends_all, lent_of, none_ended, one_ended}
use Rattle.leases.proofs.rows.left_behind.end_context_of.Goals as goal

pub returns-in_default : goal.returns-in_default
returns-in_default g c = λ list ts shaped lent all.
    none_ended c.args.header.now c.args.number ts c.args.book.now c.args.ranges.now _ (no_context c.args.header.now c.args.position c.args.command (sym c.input_context.ensures ∙ c.in_default.is)) all

pub returns : goal.returns
returns g c = λ list ts shaped lent all.
    let h = c.args.header.now in
    let one = one_context h c.args.position c.in-Some.address c.input_bytes-bytes.result c.args.command (sym c.input_context.ensures ∙ c.in-Some.is) c.input_bytes-bytes.ensures in
    one_ended h c.args.number ts c.end_context.new.book c.args.ranges.now _ _ one
    (ends_all (g.B.LeaseLog.holds list) h c.args.number ts c.end_context.new.book c.args.ranges.now _ (c.end_context.ensures list h ts shaped all.held all.found (lent_of ts _ _ [] one lent)) all.found)
