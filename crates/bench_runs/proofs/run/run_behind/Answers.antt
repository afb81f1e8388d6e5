use Rattle.bench_runs.proofs.run.run_behind.Goals.{then-header+in_ok-hear_row, else-header}
use Rattle.bench_runs.proofs.run.run_behind.Goals as goal

pub hear_rest-requires : goal.hear_rest-requires
hear_rest-requires g c = record {
  so_far = elim c.if-header.branch [
    | then-header+in_ok-hear_row w ↦ rw (w.live-is, w.course-is) w.in_ok-hear_row.ensures.so_far
    | else-header w ↦ rw (w.live-is, w.course-is) c.new-course.ensures.course
  ];
}
