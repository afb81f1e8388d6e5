use Rattle.trace_record.proofs.DeviceSlots.NamedCommands.{endpoint_of, follows_finished}
use Rattle.trace_record.proofs.device_record.unfinished.UnfinishedCommands.finish.Goals as goal

pub returns : goal.returns
returns c = λ xs ys f.
    follows_finished c.args.self.now c.keep.new.self c.args.command.now xs ys (c.keep.ensures (endpoint_of c.args.self.now c.args.command.now xs ys f)) f
