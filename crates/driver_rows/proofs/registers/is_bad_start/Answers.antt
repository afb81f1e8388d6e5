use Rattle.driver_rows.proofs.Laws.{sym, ◌∙◌, ap, ◌&&◌, ◌||◌, Wrong, at_reset, at_start, eq-eqb, ne_eqb, Lacks}
use Rattle.driver_rows.proofs.registers.is_bad_start.Goals as goal

pub returns-then-resets : goal.returns-then-resets
returns-then-resets c = λ h k m f. at_reset h k c.args.value _ (eq-eqb _ 1 c.if-resets.true) (c.is_set_up_begun.ensures k f.registers)

pub returns-then-runs : goal.returns-then-runs
returns-then-runs c = λ h k m f.
    at_start h k c.args.value _ (ne_eqb _ 1 c.if-resets.false) (c.lacks_set_up.ensures h k m f ∙ ap (λ b. b && (Lacks h k c.args.value || Wrong h k)) (sym (eq-eqb _ 1 c.if-runs.true)))

pub returns-else-runs : goal.returns-else-runs
returns-else-runs c = λ h k m f.
    at_start h k c.args.value _ (ne_eqb _ 1 c.if-resets.false) (ne_eqb _ 1 c.if-runs.false ∙ ap (λ b. b && (Lacks h k c.args.value || Wrong h k)) (sym (ne_eqb _ 1 c.if-runs.false)))
