use Rattle.replayer.proofs.MiddleLaws.{◌≡◌, ◌∙◌, ◌∷◌, ◌++◌, [], ap, arith, refl, rules, Err, full_is, room_is, tried_full, tried_made, tried_stuck}
use Rattle.replayer.proofs.scheduler.attempt.Attempt.attempt.Goals as goal

pub returns-then-len-ge-MOST_STEPS : goal.returns-then-len-ge-MOST_STEPS
returns-then-len-ge-MOST_STEPS c m has =
    tried_full m c.args.step _ (full_is m c.args.self.now.steps.items c.len.result has.1 (omega (arith, c.len.ensures, c.args.self.now.steps.ok.0)) c.if-len-ge-MOST_STEPS.true)

pub returns-in_ok-map_err-in-Ok : goal.returns-in_ok-map_err-in-Ok
returns-in_ok-map_err-in-Ok c m has =
    let pushed : c.push.new.self.items ≡ c.args.self.now.steps.items ++ c.args.step ∷ [] = search rules in
    tried_made m c.args.step c.in-Ok.seen _ _ (room_is m c.args.self.now.steps.items c.len.result has.1 (omega (arith, c.len.ensures, c.args.self.now.steps.ok.0)) c.if-len-ge-MOST_STEPS.false)
    (c.in-Ok.ensures.step m.scene has.0) (λ x stands. (refl, (stands, pushed ∙ ap (λ l. l ++ c.args.step ∷ []) has.1)))

pub returns-in-Err-NotPossible : goal.returns-in-Err-NotPossible
returns-in-Err-NotPossible c m has =
    tried_stuck m c.args.step _ _ (room_is m c.args.self.now.steps.items c.len.result has.1 (omega (arith, c.len.ensures, c.args.self.now.steps.ok.0)) c.if-len-ge-MOST_STEPS.false)
    (rw c.in-Err-NotPossible.field-0-is at (c.in-Err-NotPossible.ensures.step m.scene has.0)) (refl, (c.in-Err-NotPossible.ensures.refused m.scene has.0 (ap (λ e. Err e) c.in-Err-NotPossible.field-0-is), has.1))
