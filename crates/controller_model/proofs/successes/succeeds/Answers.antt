use Rattle.controller_model.proofs.Words.{◌≡◌, ◌∙◌, ap, sym, effect, succeeded}
use Rattle.controller_model.proofs.SuccessLemmas.{has_room}
use Rattle.controller_model.proofs.successes.succeeds.Goals as goal

pub returns-then-passes_end-clause-value : goal.returns-then-passes_end-clause-value
unfolding succeeded
returns-then-passes_end-clause-value g c = λ h w f. simp (sym c.passes_end.ensures ∙ c.if-passes_end.true)

pub returns-then-not-can_succeed-clause-value : goal.returns-then-not-can_succeed-clause-value
unfolding succeeded
returns-then-not-can_succeed-clause-value g c = λ h w f.
    simp (
      sym c.passes_end.ensures ∙ c.if-passes_end.false,
      sym (c.can_succeed.ensures h (g.M.WordMemory.words c.args.memory.now) w f) ∙ c.if-not-can_succeed.true,
    )

pub can_apply-requires-clause-end : goal.can_apply-requires-clause-end
can_apply-requires-clause-end g c = has_room c.args.header.now c.args.command.now (sym c.passes_end.ensures ∙ c.if-passes_end.false)

pub returns-clause-value : goal.returns-clause-value
unfolding succeeded effect
returns-clause-value g c = λ h w f.
    let words = g.M.WordMemory.words c.args.memory.now in
    let memory : w.memory ≡ words = ap (λ x. x.memory) f.held in
    simp (sym c.passes_end.ensures ∙ c.if-passes_end.false, sym (c.can_succeed.ensures h words w f) ∙ c.if-not-can_succeed.false, memory)
    (c.can_apply.ensures h words c.args.slot w f)

pub returns-clause-room : goal.returns-clause-room
returns-clause-room g c = λ yes. has_room c.args.header.now c.args.command.now (sym c.passes_end.ensures ∙ c.if-passes_end.false)
