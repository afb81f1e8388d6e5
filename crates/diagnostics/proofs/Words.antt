-- The words of std, of the crates below and of this crate's own definitions that its proofs cite, passed on by one file
pub use Rattle.diagnostics.specs.Layout.{IsToldOf, note_text, told_text}
pub use Rattle.diagnostics.specs.declared.diagnostic.Diagnostic.{Diagnostic}
pub use Rattle.diagnostics.specs.declared.diagnostic.Matter.{Matter}
pub use Rattle.diagnostics.specs.declared.diagnostic.Matter.TheVariants.{Fault}
pub use Rattle.diagnostics.specs.declared.diagnostic.View.{View}
pub use Rattle.std.proofs.Common.{Err, IfOk, List, Ok, Result, take, ℕ, ◌≡◌}
pub use Rattle.std.specs.List.{flat_map}
pub use Rattle.std.specs.Prelude.{string_bytes}
