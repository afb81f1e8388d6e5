use Rattle.trace_reader.proofs.Words.{sym, take, drop-drop}
use Rattle.trace_reader.proofs.row_reader.ahead.Ahead.skip.Goals as goal

pub returns : goal.returns
returns c = sym (drop-drop c.args.count c.args.self.now.done (take c.args.self.now.end c.args.self.now.bytes.items))
