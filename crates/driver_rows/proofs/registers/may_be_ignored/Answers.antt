use Rattle.driver_rows.proofs.Words.{rules, sym, ◌∙◌, refl}
use Rattle.driver_rows.proofs.registers.may_be_ignored.Goals as goal

pub returns-then-is_started : goal.returns-then-is_started
returns-then-is_started c = λ k started f. rw (started ∙ c.if-is_started.true) (search rules)

pub returns-then-not-is_lenient : goal.returns-then-not-is_lenient
returns-then-not-is_lenient c = λ k started f. rw (sym c.is_lenient.ensures ∙ c.if-not-is_lenient.true) refl

pub returns : goal.returns
returns c = λ k started f. rw (sym c.is_lenient.ensures ∙ c.if-not-is_lenient.false, started ∙ c.if-is_started.false) (c.has_no_place.ensures k f)
