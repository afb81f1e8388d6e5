use Rattle.trace_reader.proofs.Laws.{sym, arith, state_of, some_lines, version_read, no_version}
use Rattle.trace_reader.proofs.so_far.TraceSoFar.add_version.Goals as goal

pub returns-in_default-clause-err : goal.returns-in_default-clause-err
returns-in_default-clause-err c = rw c.into.ensures (no_version (state_of c.args.self.now) c.args.line.now c.requires (sym c.in_default.ensures))

pub returns-clause-ok : goal.returns-clause-ok
returns-clause-ok c = version_read (state_of c.args.self.now) c.args.line.now c.in-Some.version c.requires (sym c.in-Some.ensures)

pub invariant_of-self-clause-within : goal.invariant_of-self-clause-within
invariant_of-self-clause-within c = let some = (some_lines c.args.self.now.keeps c.in-Some.version).0 in let at = c.requires in omega (arith, some, at)
