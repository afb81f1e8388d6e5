use Rattle.driver_rows.proofs.Laws.{◌∙◌, ap, sym, not, ◌&&◌, both_hold, is_restored}
use Rattle.driver_rows.proofs.registers.is_too_late.Goals as goal

pub returns-then-is_started : goal.returns-then-is_started
returns-then-is_started c = λ k f.
    both_hold _ _ _ (sym (c.is_started.ensures k f) ∙ c.if-is_started.true) (ap not (c.is_restored.ensures k f))

pub returns-else-is_started : goal.returns-else-is_started
returns-else-is_started c = λ k f.
    c.if-is_started.false ∙ sym (ap (λ b. b && not (is_restored k c.args.register c.args.value)) (sym (c.is_started.ensures k f) ∙ c.if-is_started.false))
