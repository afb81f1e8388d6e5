use Rattle.replayer.proofs.MiddleLaws.{◌+◌, ◌++◌, ◌∷◌, ◌∙◌, Some, ap, append-nil, append_assoc, drop, drop_all, sym, refl, arith, Scene, scene_before, scene_ending_from, scene_replayed, scene_seen_by, scene_seen_from, judged, step_made, shows, StandsFor, from_here, harmful, step_goes, step_sticks}
use Rattle.replayer.proofs.replaying.replay_in.Goals as goal

pub loop-step-init : goal.loop-step-init
unfolding scene_replayed
loop-step-init g c = record {
  number = refl;
  here = (scene_before c.args.trace.now.header c.args.trace.now.rows, c.in_ok-world.ensures, ap (λ xs. xs ++ scene_seen_from (Some (scene_before c.args.trace.now.header c.args.trace.now.rows)) c.args.steps.now) c.new-seen.ensures.items, refl);
}

pub loop-step-preserved : goal.loop-step-preserved
unfolding scene_ending_from scene_seen_from scene_seen_by judged
loop-step-preserved g c =
    let here = c.loop-step.invariant.here in
    let now = from_here c.args.steps.now c.loop-step.step-index c.step-item.result (omega arith) c.step-item.is in
    let safe = sym (c.in_default.ensures here.0 here.1) in
    let P : Scene → Type 0 = λ v. StandsFor g.M.WordMemory.words c.step.new.self v in
    let next = step_goes (step_made here.0 c.step-item.result) c.in-Ok.shown (shows here.0.header here.0.world c.step-item.result) P (c.in-Ok.ensures.step here.0 here.1) in
    let onward = scene_seen_from (Some next.0) (drop (c.loop-step.step-index + 1) c.args.steps.now) in
    record {
      number = ap (λ n. n + 1) c.loop-step.invariant.number;
      here = (next.0, next.3, rw (c.in_ok-note-in-Ok.ensures, append_assoc) (ap (λ x. c.loop-step.seen.items ++ (x ∷ onward)) next.2 ∙ rw (now, safe, next.1) at here.2), rw (now, safe, next.1) at here.3);
    }

pub returns-in-Err : goal.returns-in-Err
unfolding scene_replayed
returns-in-Err g c =
    let here = c.loop-step.invariant.here in
    let ends = harmful here.0 c.loop-step.number c.in-Err.harm c.loop-step.seen.items (drop c.loop-step.step-index c.args.steps.now) (sym (c.in-Err.ensures here.0 here.1)) in
    (ends.0 ∙ here.2, sym here.3 ∙ ends.1)

pub returns-in-Err-NotPossible : goal.returns-in-Err-NotPossible
unfolding scene_replayed scene_ending_from scene_seen_from scene_seen_by judged
returns-in-Err-NotPossible g c =
    let here = c.loop-step.invariant.here in
    let now = from_here c.args.steps.now c.loop-step.step-index c.step-item.result (omega arith) c.step-item.is in
    let safe = sym (c.in_default.ensures here.0 here.1) in
    let P : Scene → Type 0 = λ v. StandsFor g.M.WordMemory.words c.step.new.self v in
    let none = step_sticks (step_made here.0 c.step-item.result) (shows here.0.header here.0.world c.step-item.result) P
    (rw c.in-Err-NotPossible.field-0-is at (c.in-Err-NotPossible.ensures.step here.0 here.1)) in
    (sym (append-nil c.loop-step.seen.items) ∙ rw (now, safe, none) at here.2, sym (rw (now, safe, none) at here.3))

pub returns-in-Ok-safe : goal.returns-in-Ok-safe
unfolding scene_replayed scene_seen_from scene_ending_from judged
returns-in-Ok-safe g c =
    let here = c.loop-step.invariant.here in
    let past = drop_all c.loop-step.step-index c.args.steps.now (omega arith) in
    (sym (append-nil c.loop-step.seen.items) ∙ rw past at here.2, sym (rw (past, sym (c.in-Ok-safe.ensures here.0 here.1)) at here.3))

pub returns : goal.returns
unfolding scene_replayed
returns g c =
    let here = c.loop-step.invariant.here in
    let ends = harmful here.0 c.loop-step.number c.in-Err-safe.harm c.loop-step.seen.items (drop c.loop-step.step-index c.args.steps.now) (sym (c.in-Err-safe.ensures here.0 here.1)) in
    (ends.0 ∙ here.2, sym here.3 ∙ ends.1)
