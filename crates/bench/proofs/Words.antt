-- The words of std, of the crates below and of this crate's own definitions that its proofs cite, passed on by one file
pub use Rattle.bench.specs.Benches.{IsBenchOf, IsJudging, with_row, words_told}
pub use Rattle.controller_model.specs.Controllers.{IsBeside}
pub use Rattle.controller_model.specs.Following.{IsStep}
pub use Rattle.controller_model.specs.Showing.{shows}
pub use Rattle.controller_model.specs.declared.controller.Controller.{Controller}
pub use Rattle.controller_model.specs.declared.fault.StepFault.TheVariants.{NotPossible}
pub use Rattle.controller_model.specs.declared.seen.Seen.{Seen}
pub use Rattle.controller_model.specs.declared.seen.Seen.TheVariants.{Row as RowSeen}
pub use Rattle.ownership_checker.specs.RingPasses.Passing.{IsRingPassed}
pub use Rattle.std.proofs.Common.{All, Bool, Err, List, None, Ok, Option, Some, [], ap, arith, false, if◌then◌else◌, length, refl, subst, suc, sym, true, zero, ℕ, ◌++◌, ◌<◌, ◌^◌, ◌∙◌, ◌∷◌, ◌≡◌}
pub use Rattle.std.proofs.lemmas.Bool.{false≢true}
pub use Rattle.std.proofs.lemmas.Option.{none-some}
pub use Rattle.std.specs.List.{slice_index}
pub use Rattle.std.specs.Prelude.{drop, option_and_then, option_map, reverse}
pub use Rattle.traces.specs.declared.header.Header.{Header}
pub use Rattle.traces.specs.declared.ring.Ring.{Ring}
pub use Rattle.traces.specs.declared.row.Row.{Row}
pub use Rattle.traces.specs.declared.row.Row.TheVariants.{Bell, Free as FreeRow, Nop as NopRow, Read, Reg, RegRead, Ring as RingRow, Sub, Write}
pub use Rattle.traces.specs.declared.step.Step.{Step}
pub use Rattle.traces.specs.declared.step.Step.TheVariants.{Finish, Halt, Look, NextRow, Other, Report, Scribble}
pub use Rattle.trb.specs.Block.{IsBlock}
pub use Rattle.trb.specs.declared.block.Block.{Block}
pub use Rattle.world_state.specs.DriverRows.{row_done}
pub use Rattle.world_state.specs.RingRows.{may_come}
pub use Rattle.world_state.specs.Scenes.{Scene, row_made, row_next, scene_reached, step_made, with_coming, with_left, with_world}
pub use Rattle.world_state.specs.Steps.{counted, made}
pub use Rattle.world_state.specs.World.{World}
pub use mathlib.Core.List.{reverse-cons}
