use Rattle.replayer.proofs.MiddleLaws.{option_map, err_from_is_err_and, HasMade, eager_row, made_before, made_step, NextRow, made_is, unmade}
use Rattle.replayer.proofs.scheduler.harmful.eager_row.Goals as goal

pub returns-in_err-make_before : goal.returns-in_err-make_before
unfolding eager_row
returns-in_err-make_before c g m here has =
    let p = err_from_is_err_and c.from_residual.result c.from_residual.ensures.1 in
    rw (p.1, p.2) (unmade c.in_err-make_before.field-0.0 _ _ _ _ (c.in_err-make_before.ensures m has))

pub returns-in_err-make : goal.returns-in_err-make
unfolding eager_row
returns-in_err-make c g m here has =
    let p = err_from_is_err_and c.from_residual-in_err-make.result c.from_residual-in_err-make.ensures.1 in
    let late = option_map (λ ring. ring.now) c.args.late in
    let k = made_is c.in_ok-make_before.field-0 (made_before m c.args.row.now late) (λ d n. HasMade c.make_before.new.self n) (c.in_ok-make_before.ensures m has) in
    rw (p.1, p.2, k.1) (unmade c.in_err-make.field-0.0 (made_step k.0 NextRow) _ _ _ (c.in_err-make.ensures k.0 k.2))

pub returns : goal.returns
unfolding eager_row
returns c g m here has =
    let late = option_map (λ ring. ring.now) c.args.late in
    let k = made_is c.in_ok-make_before.field-0 (made_before m c.args.row.now late) (λ d n. HasMade c.make_before.new.self n) (c.in_ok-make_before.ensures m has) in
    let j = made_is c.in_ok-make.field-0 (made_step k.0 NextRow) (λ d n. HasMade c.make.new.self n) (c.in_ok-make.ensures k.0 k.2) in
    rw (k.1, j.1) (rw (c.looked_rings.ensures g here) at (c.look_at_each.ensures j.0 j.2))
