use Rattle.std.proofs.Common.{sym, ◌∙◌}
use Rattle.ring_knowledge.proofs.RegisterWrites.{follows_gone, follows_other_gone}
use Rattle.ring_knowledge.proofs.register_record.RegisterRecord.let_ring_go.Goals as goal

pub returns-then-is_command_ring : goal.returns-then-is_command_ring
returns-then-is_command_ring c = λ h k id is f. follows_gone h k id c.args.self.now f c.ordinal.result c.ordinal.ensures.value (sym is ∙ c.if-is_command_ring.true)

pub returns-else-is_command_ring : goal.returns-else-is_command_ring
returns-else-is_command_ring c = λ h k id is f. follows_other_gone h k id c.args.self.now f (sym is ∙ c.if-is_command_ring.false)
