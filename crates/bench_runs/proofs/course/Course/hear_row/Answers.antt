use Rattle.bench_runs.proofs.Laws.{◌∙◌, ◌∷◌, subst, sym, IsEndSoFar, noted_with, both, course_of, not_some, noted_behind, noted_none, over, over_some}
use Rattle.bench_runs.proofs.course.Course.hear_row.Goals as goal

pub returns-in_ok-note_refusal-in-Ok : goal.returns-in_ok-note_refusal-in-Ok
returns-in_ok-note_refusal-in-Ok g c =
    let (h, past, steps, told, x, of) = c.requires.so_far in
    let going = not_some c.args.self.now.ended (sym c.is_over.ensures ∙ c.if-is_over.false) in
    let (row, (more, words, y, is), judged) = c.in-Ok.ensures.said h past (steps, told, x, of.bench) in
    let noted = c.args.self.now.refused in
    record {
      so_far =
          course_of g.M.WordMemory.words h (row ∷ past) more words y c.note_harm.new.self c.row.new.self c.note_refusal.new.self.ended (noted_with noted c.in-Ok.row c.in-Ok.refusal) is
          (c.in_ok-note_refusal-in-Ok.ensures.ended ∙ going) (c.note_harm.ensures.ended h (row ∷ past) more words y is)
          (c.note_harm.ensures.noted ∙ c.in_ok-note_refusal-in-Ok.ensures.noted)
          (noted_behind h past row noted c.in-Ok.row c.in-Ok.refusal (of.noted going) (λ first. judged (of.judges going first)))
          (λ first. let none = noted_none noted c.in-Ok.row c.in-Ok.refusal first in c.in-Ok.ensures.judging (of.judges going none.0) none.1);
    }

pub returns-in-Err : goal.returns-in-Err
returns-in-Err g c =
    let (h, past, steps, told, x, of) = c.requires.so_far in
    let going = not_some c.args.self.now.ended (sym c.is_over.ensures ∙ c.if-is_over.false) in
    let none = subst (λ e. IsEndSoFar e h past steps x) going of.ends in
    record {
      so_far = both c.end.result (λ is other. (
        h,
        past,
        steps,
        told,
        x,
        record {
          bench = c.in-Err.ensures.kept h past steps told x of.bench other;
          ends = over h past steps x c.end.new.self.ended is none;
          noted = λ on. absurd (over_some c.end.new.self.ended is on);
          judges = λ on. absurd (over_some c.end.new.self.ended is on);
        },
      )) c.end.ensures.ended c.end.ensures.memory;
    }
