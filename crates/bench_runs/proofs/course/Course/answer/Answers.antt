use Rattle.bench_runs.proofs.Courses.{course_of, whenever}
use Rattle.bench_runs.proofs.course.Course.answer.Goals as goal

pub returns-in-Ok : goal.returns-in-Ok
returns-in-Ok g c =
    let (h, past, steps, told, x, of) = c.requires.so_far in
    let (more, words, y, is) = c.in-Ok.ensures.rows h past (steps, told, x, of.bench) in
    let course =
    course_of g.M.WordMemory.words h past more words y c.note_harm.new.self c.words.new.self c.args.self.now.ended c.args.self.now.refused is c.requires.going
    (c.note_harm.ensures.ended h past more words y is) c.note_harm.ensures.noted (of.noted c.requires.going) (λ first. c.in-Ok.ensures.judging (of.judges c.requires.going first)) in
    record { so_far = whenever c.tell.result course }
