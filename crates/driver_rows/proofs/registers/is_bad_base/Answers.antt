use Rattle.driver_rows.proofs.Laws.{◌∙◌, sym, stops, goes_on, of_erstba, of_restored}
use Rattle.driver_rows.proofs.registers.is_bad_base.Goals as goal

pub returns-then-is_started : goal.returns-then-is_started
returns-then-is_started g c = λ k f s.
    of_restored c.args.header.now k c.args.value c.is_restored.result (sym (c.is_started.ensures k f.registers) ∙ c.if-is_started.true) (c.is_restored.ensures k f.registers)

pub returns-then-is_written : goal.returns-then-is_written
returns-then-is_written g c = λ k f s.
    of_erstba c.args.header.now k c.args.value c.is_written.result (sym (c.is_started.ensures k f.registers) ∙ c.if-is_started.false)
    (stops _ _ _ (c.is_written.ensures k f.registers) c.if-is_written.true)

pub returns-else-is_written : goal.returns-else-is_written
returns-else-is_written g c = λ k f s.
    of_erstba c.args.header.now k c.args.value c.is_bad_table.result (sym (c.is_started.ensures k f.registers) ∙ c.if-is_started.false)
    (goes_on _ _ _ _ (c.is_written.ensures k f.registers) c.if-is_written.false (c.is_bad_table.ensures k f s))
