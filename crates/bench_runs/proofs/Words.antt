-- The words of std, of the crates below and of this crate's own definitions that its proofs cite, passed on by one file
pub use Rattle.bench.specs.Benches.{IsBench, IsRowJudged}
pub use Rattle.bench.specs.Lives.{JudgesNext}
pub use Rattle.bench.specs.declared.live.Live.{Live}
pub use Rattle.bench.specs.declared.written.Written.{Written}
pub use Rattle.bench_runs.specs.Runs.{IsCourse, IsEndAt, IsEndSoFar, IsNoted, IsOver, end_of, ended_with, noted_with}
pub use Rattle.bench_runs.specs.declared.course.Course.{Course}
pub use Rattle.bench_runs.specs.declared.end.Ended.{Ended}
pub use Rattle.bench_runs.specs.declared.end.Ended.TheVariants.{BadLine, Harm as HarmAt, NoHarm, NotPossible, Refused}
pub use Rattle.bench_runs.specs.declared.end.RefusedRow.{RefusedRow}
pub use Rattle.contexts.specs.declared.size.ContextSize.TheVariants.{Bytes32}
pub use Rattle.ownership_rules.specs.declared.refusal.Refusal.{Refusal}
pub use Rattle.std.proofs.Common.{Err, List, None, Ok, OnOk, Option, Result, Some, [], ap, false, length, refl, subst, sym, ℕ, ◌∙◌, ◌∷◌, ◌≡◌}
pub use Rattle.std.proofs.lemmas.Bool.{false≢true}
pub use Rattle.std.proofs.lemmas.Option.{none-some}
pub use Rattle.std.specs.Prelude.{is_some}
pub use Rattle.traces.specs.declared.header.Header.{Header}
pub use Rattle.traces.specs.declared.row.Row.{Row}
pub use Rattle.traces.specs.declared.step.Step.{Step}
pub use Rattle.traces.specs.declared.version.Version.TheVariants.{One}
pub use Rattle.world_state.specs.Harms.{harm_of}
pub use Rattle.world_state.specs.Scenes.{Scene, scene_before}
pub use Rattle.world_state.specs.declared.harm.Harm.{Harm}
