use Rattle.bench_runs.proofs.Laws.{◌∙◌, sym, not_some}
use Rattle.bench_runs.proofs.course.Course.hear.Goals as goal

pub answer-requires : goal.answer-requires
answer-requires g c = record {
  so_far = c.requires.so_far;
  going = not_some c.args.self.now.ended (sym c.is_over.ensures ∙ c.if-is_over.false);
}

pub hear_row-requires : goal.hear_row-requires
hear_row-requires g c =
    let (h, past, steps, told, x, of) = c.requires.so_far in
    record { so_far = (h, past, steps, told, x, record { bench = of.bench; ends = of.ends; noted = of.noted; judges = of.judges }) }
