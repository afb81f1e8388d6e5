use Rattle.leases.proofs.Laws.{sym, ◌∙◌, on_both, no_context, none_more, one_context, same_more}
use Rattle.leases.proofs.rows.taking.begin_context_of.Goals as goal

pub returns-in-None : goal.returns-in-None
returns-in-None g c = λ list ts shaped free all.
    none_more c.args.header.now c.args.number c.args.book.now c.args.ranges.now ts _ (no_context c.args.header.now c.args.position c.args.command (sym c.input_context.ensures ∙ c.in-None.is)) all

pub returns-in-Some : goal.returns-in-Some
returns-in-Some g c =
    on_both c.begin_context.result (λ holds finds. λ list ts shaped free all.
    let h = c.args.header.now in
    same_more h c.args.number c.begin_context.new.book c.begin_context.new.self ts _ _
    (one_context h c.args.position c.in-Some.address c.input_bytes-bytes.result c.args.command (sym c.input_context.ensures ∙ c.in-Some.is) c.input_bytes-bytes.ensures)
    (record { held = holds list h ts _ all.held; found = finds list h ts shaped all.held all.found free })) c.begin_context.ensures.held c.begin_context.ensures.found
