use Rattle.trace_reader.proofs.Laws.{sym, arith, state_of, some_lines, size_read, no_size}
use Rattle.trace_reader.proofs.so_far.TraceSoFar.add_size.Goals as goal

pub returns-in_default-clause-err : goal.returns-in_default-clause-err
returns-in_default-clause-err c = rw c.into.ensures (no_size (state_of c.args.self.now) c.args.line.now c.requires (sym c.in_default.ensures))

pub returns-clause-ok : goal.returns-clause-ok
returns-clause-ok c = size_read (state_of c.args.self.now) c.args.line.now c.in-Some.size c.requires (sym c.in-Some.ensures)

pub invariant_of-self-clause-within : goal.invariant_of-self-clause-within
invariant_of-self-clause-within c = let some = (some_lines c.args.self.now.keeps c.args.self.now.version).0 in let at = c.requires in omega (arith, some, at)
