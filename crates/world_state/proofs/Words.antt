-- The words of std, of the crates below and of this crate's own definitions that its proofs cite, passed on by one file
pub use Rattle.commands.specs.Changes.{placed_by_context}
pub use Rattle.commands.specs.Command.{command_by_kind, command_of}
pub use Rattle.commands.specs.declared.command.Command.{Command}
pub use Rattle.contexts.specs.Contexts.{input_add_flag}
pub use Rattle.contexts.specs.declared.size.ContextSize.{ContextSize}
pub use Rattle.contexts.specs.declared.size.ContextSize.TheVariants.{Bytes32}
pub use Rattle.event_ring.proofs.DequeueLemmas.{position_from-place}
pub use Rattle.event_ring.proofs.Words.{Data, or_from, place_at-Data, position_from}
pub use Rattle.event_ring.specs.EventRing.{is_event_place}
pub use Rattle.guest_memory.specs.Memory.{put, put_pair}
pub use Rattle.segments.proofs.DataPlaces.{place_aligned}
pub use Rattle.segments.proofs.PlaceAtLemmas.{place_at-data}
pub use Rattle.segments.proofs.Words.{Block, IsShape, Shape, cases_lt, cond-false, cond-true, data_places, list_any, list_any_at, place_at, place_count, place_of, range_with_len}
pub use Rattle.std.proofs.Common.{Bool, List, None, Some, [], ap, arith, eq-eqb, false, find, get_or, inl, inr, length, lt-ltb, nat_lt, ne_eqb, refl, rules, subst, suc, sym, true, unwrap_or, zero, ℕ, ◌%◌, ◌&&◌, ◌+◌, ◌-◌, ◌<◌, ◌==◌, ◌||◌, ◌∙◌, ◌∷◌, ◌≡◌, ◌≢◌, ◌≤◌, slice_index, ◌/◌}
pub use Rattle.traces.specs.declared.header.Header.{Header}
pub use Rattle.traces.specs.declared.version.Version.TheVariants.{One}
pub use Rattle.trb.specs.Block.{same_words}
pub use Rattle.trb.specs.declared.kind.BlockKind.{BlockKind}
unfoldable pub use Rattle.world_state.specs.DriverRows.{event_read}
pub use Rattle.world_state.specs.Harms.{has_changed_context}
unfoldable pub use Rattle.world_state.specs.OnLiterals.{world_on_literals}
pub use Rattle.world_state.specs.PlacingCommands.{IsWell, places_from}
pub use Rattle.world_state.specs.Takes.{is_place}
unfoldable pub use Rattle.world_state.specs.Takes.{first_at}
pub use Rattle.world_state.specs.World.{UnderWay, World, event_at, opening}
