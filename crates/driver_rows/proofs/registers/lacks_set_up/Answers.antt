use Rattle.driver_rows.proofs.ContextRules.Chains.{goes_on}
use Rattle.driver_rows.proofs.registers.lacks_set_up.Goals as goal

pub returns-else-lacks_registers : goal.returns-else-lacks_registers
returns-else-lacks_registers c = λ h k m f. goes_on _ _ _ _ (c.lacks_registers.ensures k f.registers) c.if-lacks_registers.false (c.is_set_up_wrong.ensures h k m f)
