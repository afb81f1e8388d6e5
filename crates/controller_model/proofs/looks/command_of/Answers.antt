use Rattle.controller_model.proofs.Laws.{◌∙◌, command_of, read_is}
use Rattle.controller_model.proofs.looks.command_of.Goals as goal

pub returns : goal.returns
returns c = c.ok.ensures.value ∙ read_is c.read.result (command_of c.args.block.now) c.read.ensures.command
