use Rattle.driver_rows.proofs.Laws.{◌∙◌, sym, stops, goes_on, cond-false, cond-true}
use Rattle.driver_rows.proofs.registers.runs_badly.Goals as goal

pub returns-then-is_early_reset : goal.returns-then-is_early_reset
returns-then-is_early_reset c = λ k m f s.
    stops _ _ _ (c.is_early_reset.ensures k f.registers f.rings) c.if-is_early_reset.true
    ∙ sym (cond-true k.started _ _ (sym (c.is_started.ensures k f.registers) ∙ c.if-is_started.true))

pub returns-else-is_early_reset : goal.returns-else-is_early_reset
returns-else-is_early_reset c = λ k m f s.
    goes_on _ _ _ _ (c.is_early_reset.ensures k f.registers f.rings) c.if-is_early_reset.false (c.is_early_resume.ensures k f.registers f.rings s.has_commands)
    ∙ sym (cond-true k.started _ _ (sym (c.is_started.ensures k f.registers) ∙ c.if-is_started.true))

pub returns-else-is_started : goal.returns-else-is_started
returns-else-is_started c = λ k m f s.
    c.is_bad_start.ensures c.args.header.now k m f ∙ sym (cond-false k.started _ _ (sym (c.is_started.ensures k f.registers) ∙ c.if-is_started.false))
