use Rattle.std.proofs.Common.{refl, sym}
use Rattle.commands.proofs.said_command.SaidCommand.of.Goals as goal

pub invariant_of-result : goal.invariant_of-result
invariant_of-result c = (c.args.block.now, (c.in-Ok.ensures.command c.in-Ok.command).0 refl)

pub returns-in-Ok : goal.returns-in-Ok
returns-in-Ok c = sym ((c.in-Ok.ensures.command c.in-Ok.command).0 refl)
