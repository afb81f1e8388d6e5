use Rattle.replayer.proofs.MiddleLaws.{◌≡◌, ◌∙◌, None, NextRow, ap, append-nil, none-some, sym, subst, reverse, AreSteps, lazy_steps, kept_now, lazy_steps_are, rows_fit, header_now, err_from_is_err_and, none_refused, reversed_twice, trace_verdict, HasMade, nothing_made, lazy_behind, made_step, made_steps, rings_at, made_is, unmade, last_failed, last_made}
use Rattle.replayer.proofs.scheduler.harmful.lazy_schedule_behind.Goals as goal

pub make_all-requires : goal.make_all-requires
make_all-requires c =
    let h = c.args.trace.now.header in
    let rows = c.args.before.now in
    let same : c.deref.result.now ≡ lazy_steps h rows = c.deref.ensures.value ∙ c.in-Ok.ensures.steps in
    subst AreSteps (sym same) (lazy_steps_are h (c.args.trace.now.headed, c.args.trace.now.unmoved) rows (rows_fit rows c.requires.fitting) (kept_now h (reverse rows) c.in-Ok.ensures.clean))

pub returns-in-Err-Refused : goal.returns-in-Err-Refused
returns-in-Err-Refused c clean =
    let h = c.args.trace.now.header in
    absurd (none-some _ (sym (none_refused h 1 (reverse c.args.before.now) clean) ∙ ap (trace_verdict h 1) (reversed_twice c.args.before.now) ∙ rw c.in-Err-Refused.field-0-is at c.in-Err-Refused.ensures.refused))

pub returns-in_err-make_all : goal.returns-in_err-make_all
unfolding lazy_behind
returns-in_err-make_all c clean =
    let p = err_from_is_err_and c.from_residual-in_err-make_all.result c.from_residual-in_err-make_all.ensures.1 in
    let m = nothing_made c.args.trace.now.header c.args.trace.now.rows in
    rw (p.1, p.2, ← (c.deref.ensures.value ∙ c.in-Ok.ensures.steps)) (unmade c.in_err-make_all.field-0.0 (made_steps m c.deref.result.now) _ _ _ (c.in_err-make_all.ensures m c.in_ok-attempt.ensures))

pub returns-in_err-make : goal.returns-in_err-make
unfolding lazy_behind
returns-in_err-make c clean =
    let p = err_from_is_err_and c.from_residual-in_err-make.result c.from_residual-in_err-make.ensures.1 in
    let m = nothing_made c.args.trace.now.header c.args.trace.now.rows in
    let k = made_is c.in_ok-make_all.field-0 (made_steps m c.deref.result.now) (λ done n. HasMade c.make_all.new.self n) (c.in_ok-make_all.ensures m c.in_ok-attempt.ensures) in
    rw (p.1, p.2, ← (c.deref.ensures.value ∙ c.in-Ok.ensures.steps), k.1) (unmade c.in_err-make.field-0.0 (made_step k.0 NextRow) _ _ _ (c.in_err-make.ensures k.0 k.2))

pub returns-in_err-look_at_each : goal.returns-in_err-look_at_each
unfolding lazy_behind
returns-in_err-look_at_each c clean =
    let p = err_from_is_err_and c.from_residual-in_err-look_at_each.result c.from_residual-in_err-look_at_each.ensures.1 in
    let m = nothing_made c.args.trace.now.header c.args.trace.now.rows in
    let h = header_now c.args.trace.now.header (reverse c.args.before.now) in
    let k = made_is c.in_ok-make_all.field-0 (made_steps m c.deref.result.now) (λ done n. HasMade c.make_all.new.self n) (c.in_ok-make_all.ensures m c.in_ok-attempt.ensures) in
    let j = made_is c.in_ok-make.field-0 (made_step k.0 NextRow) (λ done n. HasMade c.make.new.self n) (c.in_ok-make.ensures k.0 k.2) in
    rw (p.1, p.2, ← (c.deref.ensures.value ∙ c.in-Ok.ensures.steps), k.1, j.1)
    (last_failed None h j.0 (rings_at c.deref-2.result.now) (ap rings_at c.deref-2.ensures.value ∙ c.in_ok-rings.ensures ∙ sym (append-nil h.rings)) c.in_err-look_at_each.field-0.0 _ _ (c.in_err-look_at_each.ensures j.0 j.2))

pub returns : goal.returns
unfolding lazy_behind
returns c clean =
    let m = nothing_made c.args.trace.now.header c.args.trace.now.rows in
    let h = header_now c.args.trace.now.header (reverse c.args.before.now) in
    let k = made_is c.in_ok-make_all.field-0 (made_steps m c.deref.result.now) (λ done n. HasMade c.make_all.new.self n) (c.in_ok-make_all.ensures m c.in_ok-attempt.ensures) in
    let j = made_is c.in_ok-make.field-0 (made_step k.0 NextRow) (λ done n. HasMade c.make.new.self n) (c.in_ok-make.ensures k.0 k.2) in
    rw (← (c.deref.ensures.value ∙ c.in-Ok.ensures.steps), k.1, j.1)
    (last_made None h j.0 (rings_at c.deref-2.result.now) (ap rings_at c.deref-2.ensures.value ∙ c.in_ok-rings.ensures ∙ sym (append-nil h.rings)) c.in_ok-look_at_each.field-0 c.into_schedule.result (λ schedule. schedule.steps) _ (c.in_ok-look_at_each.ensures j.0 j.2)
    (λ p made. c.into_schedule.ensures ∙ made.1.1))
