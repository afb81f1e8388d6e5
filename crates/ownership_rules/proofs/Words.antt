-- The words of std, of the crates below and of this crate's own definitions that its proofs cite, passed on by one file
pub use Rattle.commands.specs.Command.{named_context}
pub use Rattle.commands.specs.declared.command.Command.{Command}
pub use Rattle.contexts.specs.declared.size.ContextSize.TheVariants.{Bytes32}
unfoldable pub use Rattle.ownership_rules.specs.LeasedWords.{covers_at, words_bytes, words_from}
pub use Rattle.ownership_rules.specs.Leases.{without_end}
unfoldable pub use Rattle.ownership_rules.specs.Leases.{as_lease, begun, end_from, in_order, leases, leases_from, with_ends, with_lease}
unfoldable pub use Rattle.ownership_rules.specs.OnLiterals.{rules_on_literals}
pub use Rattle.ownership_rules.specs.OpenLeases.{Block, Leased, Link, Range, Use, same_leased, same_use, slots}
unfoldable pub use Rattle.ownership_rules.specs.OpenLeases.{context_ranges, covers, device_ranges, entry_ranges, is_among, is_leased, lease_bytes, lease_start, open_leases, open_on, open_ranges, range_of_command, range_of_context, range_of_device, range_of_entry, segment_ranges, table_range}
pub use Rattle.ownership_rules.specs.Rules.{verdict_from}
pub use Rattle.ownership_rules.specs.declared.refusal.Refusal.{Refusal}
pub use Rattle.ownership_rules.specs.declared.refusal.Refusal.TheVariants.{BadErdp, Busy, LinkFault, NotDeclared, NotInProfile, NotWhole, RingFull, WriteToOwned}
pub use Rattle.ring_knowledge.specs.Known.{Known, nothing}
pub use Rattle.ring_knowledge.specs.Histories.{header_now, known_after, known_now}
pub use Rattle.ring_knowledge.specs.declared.lease.Lease.{Lease}
pub use Rattle.segments.proofs.Crossings.{crossing_positive}
pub use Rattle.segments.specs.Places.{overlap}
unfoldable pub use Rattle.segments.specs.RingView.{leased_crossings}
pub use Rattle.std.proofs.Common.{Bool, List, None, Option, Some, [], ap, arith, eq-eqb, eqb-true, false, filter, inl, inr, length, map, nat_le, nat_lt, not, refl, reverse, rules, subst, suc, sym, take, true, zero, ℕ, ◌&&◌, ◌++◌, ◌+◌, ◌-◌, ◌<◌, ◌==◌, ◌||◌, ◌↔◌, ◌∙◌, ◌∷◌, ◌≡◌, ◌≤◌, ◌⊎◌}
pub use Rattle.std.proofs.lemmas.Bool.{and_from, and_parts, cases_Bool, cases_lt, false≢true, not-true, not_from_false, or_cases, or_left, or_right}
pub use Rattle.std.proofs.lemmas.Bool.Decides.{nat_tests}
pub use Rattle.std.proofs.lemmas.List.Folds.{list_any-append}
pub use Rattle.std.specs.List.{flat_map, list_any}
pub use Rattle.traces.specs.Header.{driver_rings, event_shape}
pub use Rattle.traces.specs.LivingRings.{header_after}
pub use Rattle.traces.specs.declared.header.Header.{Header}
pub use Rattle.traces.specs.declared.register.Register.TheVariants.{Config, Crcr, Dcbaap, Erdp, Erstba, Erstsz, Usbcmd}
pub use Rattle.traces.specs.declared.ring.Ring.{Ring}
pub use Rattle.traces.specs.declared.row.Row.{Row}
pub use Rattle.traces.specs.declared.row.Row.TheVariants.{Bell, Read, Reg, Sub, Write}
pub use Rattle.traces.specs.declared.version.Version.{Version}
pub use Rattle.traces.specs.declared.version.Version.TheVariants.{One, Three, Two}
pub use Rattle.trb.specs.declared.ring_kind.RingKind.TheVariants.{Cmd, Evt, Xfer}
pub use mathlib.Core.List.{reverse_aux}
