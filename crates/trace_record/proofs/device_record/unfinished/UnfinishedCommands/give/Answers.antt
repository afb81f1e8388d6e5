use Rattle.trace_record.proofs.DeviceSlots.NamedCommands.{follows_given}
use Rattle.trace_record.proofs.device_record.unfinished.UnfinishedCommands.give.Goals as goal

pub returns : goal.returns
returns c = λ memory endpoint xs ys free f. follows_given c.args.self.now c.keep.new.self c.args.command xs ys memory endpoint (c.keep.ensures endpoint) free f
