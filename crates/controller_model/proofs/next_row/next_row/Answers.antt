use Rattle.controller_model.proofs.Laws.{option_copied, FollowsScene, row_made, ◌≡◌, ◌∙◌, ap, sym, drop, err_from_is_err_and, RowSeen, counted, Ok, first_left, row_next_is, step_failed, step_mapped, with_left}
use Rattle.controller_model.proofs.next_row.next_row.Goals as goal

pub returns-in_err-seen-clause-step : goal.returns-in_err-seen-clause-step
returns-in_err-seen-clause-step g c = λ x f.
    let p = err_from_is_err_and c.from_residual.result c.from_residual.ensures.1 in
    let row = c.in-Some.row.now in
    let first = first_left c.args.left.now row (sym c.first.ensures.row ∙ ap (λ o. option_copied o) c.in-Some.is) in
    let words = g.M.WordMemory.words c.make_row.new.memory in
    rw (p.1, p.2) (rw (row_next_is x row first.0 (f.left ∙ first.1))
    (step_failed c.in_err-seen.field-0.0 (row_made x row) (with_left first.0) RowSeen
    (FollowsScene c.make_row.new.rings c.args.left.now words c.make_row.new.kept) (FollowsScene c.make_row.new.rings c.args.left.now words c.make_row.new.kept)
    (c.in_err-seen.ensures.step c.args.left.now x f)))

pub returns-clause-step : goal.returns-clause-step
unfolding counted
returns-clause-step g c = λ x f.
    let row = c.in-Some.row.now in
    let first = first_left c.args.left.now row (sym c.first.ensures.row ∙ ap (λ o. option_copied o) c.in-Some.is) in
    let words = g.M.WordMemory.words c.make_row.new.memory in
    let rings = c.make_row.new.rings in
    let rest : first.0 ≡ c.pass.new.self = sym (c.pass.ensures ∙ ap (λ xs. drop 1 xs) first.1) in
    rw (row_next_is x row first.0 (f.left ∙ first.1))
    (step_mapped (Ok c.in_ok-seen.seen) (row_made x row) (with_left first.0) RowSeen (FollowsScene rings c.args.left.now words c.make_row.new.kept)
    (FollowsScene rings c.pass.new.self words c.count.new.kept)
    (λ y follows. record {
      header = follows.header;
      live = follows.live;
      lists = follows.lists;
      left = rest;
      follows = c.in_ok-count.ensures rings.declared words y.world follows.follows;
    })
    (c.in_ok-seen.ensures.step c.args.left.now x f))
