use Rattle.bench_runs.proofs.Laws.{subst, sym, IsEndAt, told_end}
use Rattle.bench_runs.proofs.course.Course.into_left.Goals as goal

pub returns : goal.returns
returns g c =
    let (h, past, steps, told, x, of) = c.requires.so_far in
    record {
      run = record {
        header = h;
        past = past;
        steps = steps;
        scene = x;
        reached = of.bench.reached;
        scheduled = c.into_schedule.ensures h past steps told x of.bench;
        ends = subst (λ e. IsEndAt e h past steps x) (sym c.ended_as.ensures) (told_end h past steps x c.args.self.ended c.args.self.refused of.ends of.noted);
      };
    }
