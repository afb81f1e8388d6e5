use Rattle.trace_reader.proofs.Laws.{◌≤◌, arith, state_of, few_rows, some_lines, valid}
use Rattle.trace_reader.proofs.read.finish.Goals as goal

pub invariant_of-result : goal.invariant_of-result
invariant_of-result c =
    let st = state_of c.args.so_far in
    let there : 2 ≤ c.args.so_far.lines = omega (arith, c.if-so_far-lt2.false) in
    let is = valid c.requires.0 c.requires.1 st c.args.rows.items c.requires.2 there in
    let few = few_rows c.requires.0 c.requires.1 st c.args.rows.items c.requires.2 there in
    record {
      headed = rw c.into_header.ensures.said is.headed;
      unmoved = rw c.into_header.ensures.said is.unmoved;
      placed = rw c.into_header.ensures.said (omega (arith, is.first, few, c.len.ensures, c.args.rows.ok));
      fitting = rw (c.into_header.ensures.said, c.new.ensures) is.rows;
      begins = rw c.new.ensures is.begins;
      new_ids = rw (c.into_header.ensures.said, c.new.ensures) is.new_ids;
      within = rw c.new.ensures (omega (arith, is.within, few, c.len.ensures, c.args.rows.ok, (some_lines c.requires.0 c.args.so_far.version).1));
    }

pub overflow_cast-first : goal.overflow_cast-first
overflow_cast-first c =
    omega (arith, few_rows c.requires.0 c.requires.1 (state_of c.args.so_far) c.args.rows.items c.requires.2 (omega (arith, c.if-so_far-lt2.false)), c.len.ensures, c.args.rows.ok, c.args.so_far.counted)

pub overflow_sub-first : goal.overflow_sub-first
overflow_sub-first c =
    omega (arith, few_rows c.requires.0 c.requires.1 (state_of c.args.so_far) c.args.rows.items c.requires.2 (omega (arith, c.if-so_far-lt2.false)), c.len.ensures, c.args.rows.ok)
