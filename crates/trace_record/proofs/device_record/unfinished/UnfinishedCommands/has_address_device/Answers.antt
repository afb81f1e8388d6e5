use Rattle.trace_record.proofs.Laws.{◌∙◌, ap, nat_lt, addressing_is}
use Rattle.trace_record.proofs.device_record.unfinished.UnfinishedCommands.has_address_device.Goals as goal

pub returns : goal.returns
returns c = λ all f. ap (nat_lt 0) c.args.self.now.addressing_all ∙ addressing_is c.args.self.now all f
