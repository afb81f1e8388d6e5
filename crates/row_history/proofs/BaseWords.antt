-- The words of std, of the crates below and of this crate's own definitions that its proofs cite, passed on by one file
pub use Rattle.ring_knowledge.specs.Known.{Known}
pub use Rattle.segments.specs.Shape.{is_shape}
pub use Rattle.std.proofs.Common.{Bool, List, Some, [], false, lt-ltb, nat_lt, not, refl, rules, subst, suc, sym, true, zero, ℕ, ◌%◌, ◌&&◌, ◌*◌, ◌++◌, ◌+◌, ◌<◌, ◌^◌, ◌||◌, ◌∙◌, ◌∷◌, ◌≡◌, ◌≢◌, ◌≤◌}
pub use Rattle.std.proofs.lemmas.Bool.{and_from, and_parts, not-true, not_from_false, or_from, or_parts}
pub use Rattle.std.proofs.lemmas.List.Folds.{list_any-append}
pub use Rattle.std.specs.List.{list_all, list_any, remove}
pub use Rattle.trace_record.specs.DeviceSlots.Devices.{FollowsDevices}
pub use Rattle.trace_record.specs.RingFinder.Finding.{IsFinder}
pub use Rattle.traces.specs.AllowedHeaders.{IsHeader, clash, may_stand_together}
pub use Rattle.traces.specs.declared.header.Header.{Header}
pub use Rattle.traces.specs.declared.ring.Ring.{Ring}
