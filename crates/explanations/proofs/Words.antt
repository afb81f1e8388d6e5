-- The words of std, of the crates below and of this crate's own definitions that its proofs cite, passed on by one file
pub use Rattle.diagnostics.proofs.Told.{told_of}
pub use Rattle.diagnostics.specs.declared.diagnostic.Matter.TheVariants.{Rule}
pub use Rattle.std.specs.Prelude.{string_bytes}
