-- The words of std, of the crates below and of this crate's own definitions that its proofs cite, passed on by one file
pub use Rattle.reports.specs.Objects.{mark_data, section_data, take_data}
pub use Rattle.serde_json.specs.Data.{string}
pub use Rattle.serde_json.specs.View.{view}
pub use Rattle.std.proofs.Common.{map, take, ◌≡◌}
pub use Rattle.std.specs.Prelude.{string_bytes}
