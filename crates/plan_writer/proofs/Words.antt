-- The words of std, of the crates below and of this crate's own definitions that its proofs cite, passed on by one file
pub use Rattle.plan_writer.specs.Plans.{plan_trace, refusal_from, rows_from, rows_text, write_row}
pub use Rattle.std.proofs.Common.{drop, map, rules, ◌++◌, ◌+◌, ◌≡◌}
pub use Rattle.trace_reader.proofs.LinePieces.{whole_text}
pub use Rattle.trace_reader.specs.PlanValues.{plan_text}
unfoldable pub use Rattle.trace_reader.specs.Spelling.{printed_line}
