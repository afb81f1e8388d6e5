-- What the answers cite: the words, and this crate's lemmas
pub use Rattle.bench_runs.proofs.Courses.{both, course_of, not_some, noted_behind, noted_none, over, over_some, told_end}
pub use Rattle.bench_runs.proofs.Words.{IsEndAt, IsEndSoFar, None, [], noted_with, refl, subst, sym, ◌∙◌, ◌∷◌}
