use Rattle.trace_reader.proofs.Laws.{◌≤◌, ◌+◌, length, arith, ahead_of, come_behind, some_came}
use Rattle.trace_reader.proofs.row_reader.ahead.Ahead.read_on.Goals as goal

pub returns-in-Ok-clause-came : goal.returns-in-Ok-clause-came
returns-in-Ok-clause-came g c =
    let there = c.move_to_front.new.self in
    let piece = c.read.new.buffer in
    let count = c.in-Ok.count in
    let fits : there.end ≤ length there.bytes.items = omega (arith, there.came, there.bytes.ok) in
    let came : count ≤ length piece = c.in-Ok.ensures.bound.0 in
    let room : there.end + count ≤ there.bytes.len = search in
    let is = come_behind there.done there.end count there.bytes.len c.deref_mut.result.now there.bytes.items piece _ _ (ahead_of c.args.self.now) c.move_to_front.ensures.front c.deref_mut.ensures.value fits came room c.move_to_front.ensures.same in
    some_came (g.S.Source.held c.args.source.now) (g.S.Source.held c.read.new.self) (ahead_of c.args.self.now) _ piece count (omega (arith, c.in-Ok.count-test.1)) came c.in-Ok.ensures.held.0 is
