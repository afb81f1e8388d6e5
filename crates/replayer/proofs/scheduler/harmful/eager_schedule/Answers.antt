use Rattle.replayer.proofs.MiddleLaws.{◌≡◌, ◌∙◌, ◌∷◌, ◌++◌, [], ap, append-nil, arith, option_map, option_to_list, refl, sym, err_from_is_err_and, header_after, HasMade, nothing_made, without_late, rings_at, eager_end, eager_failed, last_failed, last_made, row_made, row_unmade}
use Rattle.replayer.proofs.scheduler.harmful.eager_schedule.Goals.{Joined-late, in-Some+in_ok-add_ring, in_default}
use Rattle.replayer.proofs.scheduler.harmful.eager_schedule.Goals as goal

pub loop-row-init : goal.loop-row-init
loop-row-init c =
    let h = c.args.trace.now.header in
    (without_late h (option_map (λ ring. ring.now) c.args.late), nothing_made h c.args.trace.now.rows, c.in_ok-attempt.ensures, c.in_ok-prompt.ensures, rw c.new-active.ensures.items refl)

pub returns-in_err-active : goal.returns-in_err-active
returns-in_err-active c =
    let p = err_from_is_err_and c.from_residual-in_err-active.result c.from_residual-in_err-active.ensures.1 in
    let late = option_map (λ ring. ring.now) c.args.late in
    let (g, k, has, there, so_far) = c.loop-row.invariant in
    rw (p.1, p.2)
    (eager_failed c.args.trace.now.header c.args.trace.now.rows c.args.first.now late c.in_err-active.field-0.0 _
    (rw so_far
    (row_unmade late g (rings_at c.loop-row.active.items) c.row-item.result c.args.first.now c.loop-row.row-index k c.loop-row-test.true c.row-item.is c.in_err-active.field-0.0 _
    (rw c.deref-in-loop-row.ensures.value at (c.in_err-active.ensures g k (rw c.deref.ensures.value there) has)))))

pub loop-row-preserved : goal.loop-row-preserved
loop-row-preserved c =
    let late = option_map (λ ring. ring.now) c.args.late in
    let (g, k, has, there, so_far) = c.loop-row.invariant in
    let n =
    row_made late g (rings_at c.loop-row.active.items) c.row-item.result c.args.first.now c.loop-row.row-index k c.loop-row-test.true c.row-item.is c.in_ok-active.active (λ v. rings_at v.items) (HasMade c.eager_row.new.attempt)
    (rw c.deref-in-loop-row.ensures.value at (c.in_ok-active.ensures g k (rw c.deref.ensures.value there) has))
    in
    (header_after g c.row-item.result, n.0, n.1, c.in_ok-follow_rings.ensures g there, so_far ∙ n.2)

-- the rings that are there, with the late one
all_there : (c : Joined-late) → rings_at c.match-late.prompt.items ≡ c.loop-row.invariant.0.rings ++ option_to_list (option_map (λ ring. ring.now) c.args.late)
all_there c = elim c.match-late.branch [
  | in-Some+in_ok-add_ring w ↦ rw (w.prompt-is, w.in-Some.is) (w.in_ok-add_ring.ensures ∙ ap (λ l. l ++ w.in-Some.ring.now ∷ []) c.loop-row.invariant.3)
  | in_default w ↦ rw (w.prompt-is, w.in_default.is) (c.loop-row.invariant.3 ∙ sym (append-nil c.loop-row.invariant.0.rings))
]

pub returns-in_err-look_at_each : goal.returns-in_err-look_at_each
returns-in_err-look_at_each c =
    let p = err_from_is_err_and c.from_residual-in_err-look_at_each.result c.from_residual-in_err-look_at_each.ensures.1 in
    let late = option_map (λ ring. ring.now) c.args.late in
    let (g, k, has, there, so_far) = c.loop-row.invariant in
    rw (p.1, p.2, eager_end c.args.trace.now.header c.args.trace.now.rows c.args.first.now late g (rings_at c.loop-row.active.items) c.loop-row.row-index k (omega (arith, c.loop-row-test.false)) so_far)
    (last_failed late g k (rings_at c.deref-2.result.now) (ap rings_at c.deref-2.ensures.value ∙ all_there (goal.at.returns-in_err-look_at_each c).Joined-late) c.in_err-look_at_each.field-0.0 _ _ (c.in_err-look_at_each.ensures k has))

pub returns : goal.returns
returns c =
    let late = option_map (λ ring. ring.now) c.args.late in
    let (g, k, has, there, so_far) = c.loop-row.invariant in
    rw (eager_end c.args.trace.now.header c.args.trace.now.rows c.args.first.now late g (rings_at c.loop-row.active.items) c.loop-row.row-index k (omega (arith, c.loop-row-test.false)) so_far)
    (last_made late g k (rings_at c.deref-2.result.now) (ap rings_at c.deref-2.ensures.value ∙ all_there (goal.at.returns c).Joined-late) c.in_ok-look_at_each.field-0 c.into_schedule.result (λ schedule. schedule.steps) _ (c.in_ok-look_at_each.ensures k has)
    (λ p made. c.into_schedule.ensures ∙ made.1.1))
