use Rattle.event_rows.proofs.Laws.{◌∙◌, Some, ap, sym, not, may_answer_slot, can_succeed, Config, register_or_zero, answers_other, on_success, on_failure}
use Rattle.event_rows.proofs.completions.possible.can_finish.Goals as goal

pub returns-then-not-may_answer : goal.returns-then-not-may_answer
returns-then-not-may_answer c = λ k f g.
    answers_other k c.args.event c.args.command.now
    (ap (λ n. may_answer_slot (Some c.args.command.now) n) (sym c.slot.ensures) ∙ sym c.may_answer.ensures ∙ c.if-not-may_answer.true)

pub returns-then-code-eq1 : goal.returns-then-code-eq1
returns-then-code-eq1 c = λ k f g.
    c.can_succeed.ensures k f g
    ∙ ap (λ n. can_succeed k.slot_state k.endpoint_state (register_or_zero k.register Config) n c.args.command.now) c.slot-then-code-eq1.ensures
    ∙ on_success k c.args.event c.args.command.now
    (ap (λ n. may_answer_slot (Some c.args.command.now) n) (sym c.slot.ensures) ∙ sym c.may_answer.ensures ∙ c.if-not-may_answer.false)
    (sym c.code.ensures ∙ c.if-code-eq1.true)

pub returns-else-code-eq1 : goal.returns-else-code-eq1
returns-else-code-eq1 c = λ k f g.
    ap not (c.was_stop_seen.ensures k f)
    ∙ on_failure k c.args.event c.args.command.now
    (ap (λ n. may_answer_slot (Some c.args.command.now) n) (sym c.slot.ensures) ∙ sym c.may_answer.ensures ∙ c.if-not-may_answer.false)
    (λ e. c.if-code-eq1.false (c.code.ensures ∙ e))
