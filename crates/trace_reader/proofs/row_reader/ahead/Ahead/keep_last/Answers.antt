use Rattle.trace_reader.proofs.Laws.{arith, kept}
use Rattle.trace_reader.proofs.row_reader.ahead.Ahead.keep_last.Goals as goal

pub returns : goal.returns
returns c front back is size =
    let ahead = c.args.self.now in
    kept ahead.bytes.items front back ahead.done ahead.end c.args.count ahead.within (omega (arith, ahead.came, ahead.bytes.ok)) is size
