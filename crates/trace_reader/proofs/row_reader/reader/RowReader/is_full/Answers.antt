use Rattle.trace_reader.proofs.Laws.{◌<◌, arith, nat_tests, some_lines}
use Rattle.trace_reader.proofs.row_reader.reader.RowReader.is_full.Goals as goal

pub returns-else-self-ge-MOST_LINES-clause-within : goal.returns-else-self-ge-MOST_LINES-clause-within
returns-else-self-ge-MOST_LINES-clause-within c full = let few = c.if-self-ge-MOST_LINES.false in omega (arith, few, (some_lines c.args.self.now.keeps c.args.self.now.header.version).2)

pub returns-then-self-ge-MOST_LINES-clause-counted : goal.returns-then-self-ge-MOST_LINES-clause-counted
returns-then-self-ge-MOST_LINES-clause-counted c full =
    let low : c.args.self.now.lines < c.most_lines_of.result = grind (arith, nat_tests, full) in
    omega (arith, low, c.most_lines_of.ensures, (some_lines c.args.self.now.keeps c.args.self.now.header.version).1)
