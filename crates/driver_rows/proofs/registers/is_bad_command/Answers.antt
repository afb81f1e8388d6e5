use Rattle.driver_rows.proofs.Laws.{stops, goes_on, is_bad_command_register}
use Rattle.driver_rows.proofs.registers.is_bad_command.Goals as goal

pub returns-then-saves_badly : goal.returns-then-saves_badly
unfolding is_bad_command_register
returns-then-saves_badly c = λ k m f s. stops _ _ _ (c.saves_badly.ensures k f.registers f.rings s.has_commands) c.if-saves_badly.true

pub returns-else-saves_badly : goal.returns-else-saves_badly
unfolding is_bad_command_register
returns-else-saves_badly c = λ k m f s. goes_on _ _ _ _ (c.saves_badly.ensures k f.registers f.rings s.has_commands) c.if-saves_badly.false (c.runs_badly.ensures k m f s)
