use Rattle.driver_rows.proofs.Laws.{rules, sym, ◌∙◌, refl, and_true}
use Rattle.driver_rows.proofs.registers.is_refused_size.Goals as goal

pub returns-then-is_lenient : goal.returns-then-is_lenient
returns-then-is_lenient c = λ k m f. rw (sym c.is_lenient.ensures ∙ c.if-is_lenient.true) (search rules)

pub returns-then-is_written : goal.returns-then-is_written
returns-then-is_written c = λ k m f. rw (← c.is_written.ensures k f.registers, c.if-is_written.true, sym c.is_lenient.ensures ∙ c.if-is_lenient.false) refl

pub returns-else-is_written : goal.returns-else-is_written
returns-else-is_written c = λ k m f.
    rw (← c.is_written.ensures k f.registers, c.if-is_written.false, sym c.is_lenient.ensures ∙ c.if-is_lenient.false, ← c.is_bad_size.ensures c.args.header.now k m f) (sym (and_true _))
