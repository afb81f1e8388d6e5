-- The words of std, of the crates below and of this crate's own definitions that its proofs cite, passed on by one file
pub use Rattle.answers.specs.Answers.{IsBlockAnswer, IsPageAnswer, answer_of_kind, device_line}
pub use Rattle.answers.specs.Inputs.{opened}
pub use Rattle.answers.specs.Replays.{end_text, takes_text, words_text}
pub use Rattle.answers.specs.Telling.{Begins, IsNote, IsNoteOnFailure, IsPlainNote, IsReason, IsTold, cut, named_err, output_failed, whole}
pub use Rattle.answers.specs.declared.answer.Answer.{Answer}
pub use Rattle.answers.specs.declared.answer.Answer.TheVariants.{Device, Memory}
pub use Rattle.answers.specs.declared.answer.Status.{Status}
pub use Rattle.answers.specs.declared.replay_lines.ReplayEnd.{ReplayEnd}
pub use Rattle.std.proofs.Common.{Bool, Err, List, None, Ok, Option, Result, Some, [], ap, append_assoc, arith, drop, false, inl, inr, length, length-drop, refl, rules, string_bytes, subst, sym, take, true, ℕ, ◌++◌, ◌+◌, ◌-◌, ◌∙◌, ◌≡◌, ◌≤◌, ◌⊎◌}
pub use Rattle.std.proofs.Math.Seq.{take-length}
pub use Rattle.std.proofs.lemmas.Grind.{common_steps}
pub use Rattle.std.proofs.lemmas.List.{drop-take, take-append-drop, take-take, take_all}
pub use Rattle.std.specs.Io.KnownBytes.{Appends, Keeps}
pub use Rattle.std.specs.Prelude.{IfOk, IfSome, IsOk, codes}
pub use Rattle.std.specs.declared.io.ErrorKind.{ErrorKind}
pub use Rattle.std.specs.declared.io.ErrorKind.TheVariants.{OutOfMemory}
