use Rattle.bench_runs.proofs.Laws.{[], None, refl, course_of}
use Rattle.bench_runs.proofs.course.Course.new.Goals as goal

pub returns : goal.returns
returns g c =
    let (h, (steps, told, x, is)) = c.requires.begins in
    record {
      course =
          course_of g.M.WordMemory.words h [] steps told x c.note_harm.new.self c.args.live.now None None is refl (c.note_harm.ensures.ended h [] steps told x is)
          c.note_harm.ensures.noted tt (λ first. c.requires.judging);
    }
