-- The words of std, of the crates below and of this crate's own definitions that its proofs cite, passed on by one file
pub use Rattle.commands.specs.Changes.{Change, placed_by_context, slot_gone_on}
unfoldable pub use Rattle.commands.specs.Changes.{changes}
pub use Rattle.commands.specs.Command.{command_of, named_context}
pub use Rattle.commands.specs.States.{endpoint_meant, endpoint_success, is_running, is_slot_enabled, is_stopped, slot_success}
unfoldable pub use Rattle.commands.specs.States.{can_succeed}
pub use Rattle.commands.specs.declared.command.Command.{Command}
pub use Rattle.commands.specs.declared.command.Command.TheVariants.{AddressDevice, ConfigureEndpoint, SetTrDequeue}
pub use Rattle.commands.specs.declared.state.EndpointState.{EndpointState}
pub use Rattle.commands.specs.declared.state.EndpointState.TheVariants.{Disabled as Off, Running, Stopped}
pub use Rattle.commands.specs.declared.state.SlotState.{SlotState}
pub use Rattle.commands.specs.declared.state.SlotState.TheVariants.{Disabled}
pub use Rattle.contexts.specs.Contexts.{context_cycle, context_pointer, has_flag, has_isochronous, input_add_flag, input_context_bytes, is_dropped}
unfoldable pub use Rattle.contexts.specs.Contexts.{added_endpoints}
pub use Rattle.contexts.specs.declared.size.ContextSize.{ContextSize}
pub use Rattle.contexts.specs.declared.size.ContextSize.TheVariants.{Bytes32}
pub use Rattle.controller_model.specs.Completions.{IsPart, completed}
pub use Rattle.controller_model.specs.Declarations.{Declares, as_declared, blocks_of, entries, lone_no_op, withdrawn, withdrawn_from}
pub use Rattle.controller_model.specs.Following.{AreLeft, Follows, FollowsEndpoints, FollowsHolder, FollowsRegisters, FollowsRing, FollowsRings, FollowsSlots, GoesOn, IsChange, IsEndpoint, IsLeft, IsStep, KeepsRun, Lists, RingHeld, acts, addressed, bound, freed, idle, is_endpoint, is_holder, is_it, is_other, left_alone, may_get, named_by, noted, noted_held, pointed, released, ring_held, taken_held, told, turned_off, under_way_of}
pub use Rattle.controller_model.specs.Held.{Held, changed_at, held, held_block, held_by, held_stored, written_at}
pub use Rattle.controller_model.specs.Histories.{Keeps, ShowsHarms}
unfoldable pub use Rattle.controller_model.specs.OnLiterals.{model_on_literals}
pub use Rattle.controller_model.specs.RingHarms.{AddsNone, BringsNone, ChangesOnly, FollowsScene, HasRingHarms, IsFollowed, TakesNothing, is_coming, may_be_inside}
unfoldable pub use Rattle.controller_model.specs.Showing.{look_shows, scene_replayed, shows}
pub use Rattle.controller_model.specs.Trials.{GoesOnAs, Sees, has_own, is_elsewhere, own_ring}
pub use Rattle.controller_model.specs.Watches.{is_changed_behind, may_touch}
pub use Rattle.controller_model.specs.declared.declared.Declarations.{Declarations}
pub use Rattle.controller_model.specs.declared.declared.Declared.{Declared}
pub use Rattle.controller_model.specs.declared.fault.StepFault.{StepFault}
pub use Rattle.controller_model.specs.declared.history.History.{History}
pub use Rattle.controller_model.specs.declared.kept.Endpoint.{Endpoint}
pub use Rattle.controller_model.specs.declared.kept.Holder.{Holder}
pub use Rattle.controller_model.specs.declared.kept.Kept.{Kept}
pub use Rattle.controller_model.specs.declared.kept.Pending.{Pending}
pub use Rattle.controller_model.specs.declared.kept.Registers.{Registers}
pub use Rattle.controller_model.specs.declared.kept.RingState.{RingState}
pub use Rattle.controller_model.specs.declared.kept.Slot.{Slot}
pub use Rattle.controller_model.specs.declared.life.Rings.{Rings}
pub use Rattle.controller_model.specs.declared.safety.RingHarms.{RingHarms}
pub use Rattle.controller_model.specs.declared.seen.Seen.{Seen}
pub use Rattle.controller_model.specs.declared.seen.Seen.TheVariants.{Posted, Row as RowSeen}
pub use Rattle.controller_model.specs.declared.stamps.Stamps.{Stamps}
pub use Rattle.event_ring.proofs.Words.{Data, Link, address_aligned, has_room, or_from, place_at-address_of, position_from}
pub use Rattle.event_ring.specs.EventRing.{is_event_place}
pub use Rattle.guest_memory.specs.Memory.{put_pair}
pub use Rattle.segments.proofs.Crossings.{link_target-crossed}
pub use Rattle.segments.proofs.InsideLemmas.{is_inside-word}
pub use Rattle.segments.proofs.PlaceAtLemmas.{place_at-link_address}
pub use Rattle.segments.proofs.Positions.{same_in_lap_of}
pub use Rattle.segments.proofs.Search.{cases_option}
pub use Rattle.segments.proofs.Withdrawing.{length-no_ops, split_all}
pub use Rattle.segments.proofs.Words.{All-push, Block, Evt, IsShape, Shape, Xfer, address_of, aligned, and_from, and_parts, block_at, cases_Bool, cases_eq, cases_lt, cond-false, cond-true, cycle, cycle_of, false_from_ne_true, false≢true, is_inside, is_set, link_address, link_crossed, list_any, none-some, or_cases, or_left, or_right, place_at, place_count, place_of, pointer, position_or_len, put, range_with_len, same_Some, slice_get-get_or, slice_get_within, word}
unfoldable pub use Rattle.segments.proofs.Words.{is_border}
pub use Rattle.segments.specs.Descriptors.{DeclaredBlock, no_op}
unfoldable pub use Rattle.segments.specs.Descriptors.{declared_at, length_from, no_ops, split_at}
pub use Rattle.std.proofs.Common.{All, Bool, Err, IsSome, List, None, Ok, Option, Result, Some, [], add-zero, ap, append_assoc, arith, drop, drop-drop, eq-eqb, eqb-true, false, filter, find, get_or, if◌then◌else◌, inl, inr, is_some, le-leb, le-ltb, length, length-append, length-take-le, lt-ltb, ltb-false, nat_le, nat_lt, ne_eqb, not, option_and_then, option_map, position, refl, rules, set, slice_get, slice_index, slice_index_or, subst, suc, sym, take, true, unwrap_or, zero, ℕ, ◌%◌, ◌&&◌, ◌*◌, ◌++◌, ◌+◌, ◌-◌, ◌/◌, ◌<◌, ◌==◌, ◌^◌, ◌||◌, ◌↔◌, ◌∙◌, ◌∷◌, ◌≡◌, ◌≢◌, ◌≤◌, ◌⊎◌}
pub use Rattle.std.proofs.Math.Bool.{or-true, or_assoc}
pub use Rattle.std.proofs.Math.ListN.{length-set}
pub use Rattle.std.proofs.Math.Path.{fun_ext}
pub use Rattle.std.proofs.lemmas.Bool.{cond_both}
pub use Rattle.std.proofs.lemmas.Bool.Decides.{nat_tests}
pub use Rattle.std.proofs.lemmas.Grind.{common_steps, take_at_read}
pub use Rattle.std.proofs.lemmas.List.{drop-append-le, drop_all, take-append-le, take_all}
pub use Rattle.std.proofs.lemmas.List.Edits.{length-remove}
pub use Rattle.std.proofs.lemmas.List.Elements.{All-head, All-tail}
pub use Rattle.std.proofs.lemmas.List.Folds.{list_any_more}
pub use Rattle.std.proofs.lemmas.List.Quantifiers.{position-Some}
pub use Rattle.std.proofs.lemmas.List.Sums.{fails_before_first}
pub use Rattle.std.proofs.lemmas.Option.{get_or_from_slice_get}
pub use Rattle.std.proofs.lemmas.Result.{err_from_is_err_and}
pub use Rattle.std.specs.List.{remove}
pub use Rattle.std.specs.Option.{option_copied}
pub use Rattle.std.specs.Prelude.{is_none, replicate, reverse}
pub use Rattle.std.specs.Result.{result_ok}
pub use Rattle.traces.specs.Header.{id_of, id_or_none, is_command_kind, is_ring, is_transfer_kind, ring_with, shape_or}
unfoldable pub use Rattle.traces.specs.Header.{command_id, command_ring, event_ring, event_shape, event_size, ring_having, shape_of, some_ring}
unfoldable pub use Rattle.traces.specs.LivingRings.{with_ring, without_ring}
pub use Rattle.traces.specs.Register.{base_address, register_or_zero, reset_bit, ring_cycle_state, run_bit, with_register}
pub use Rattle.traces.specs.Versions.{has_isoch, has_runs}
pub use Rattle.traces.specs.declared.header.Header.{Header, Header as HeaderValue}
pub use Rattle.traces.specs.declared.register.Register.{Register}
pub use Rattle.traces.specs.declared.register.Register.TheVariants.{Config, Crcr, Dcbaap, Erdp, Erstba, Erstsz, Usbcmd, Usbsts}
pub use Rattle.traces.specs.declared.ring.Ring.{Ring}
pub use Rattle.traces.specs.declared.row.Row.{Row}
pub use Rattle.traces.specs.declared.row.Row.TheVariants.{Bell, Free as FreeRow, Nop as NopRow, Read, Reg, RegRead, Ring as RingRow, Sub, Write}
pub use Rattle.traces.specs.declared.step.Step.{Step}
pub use Rattle.traces.specs.declared.step.Step.TheVariants.{Finish, Halt, Look, NextRow, Other, Report, Scribble}
pub use Rattle.traces.specs.declared.version.Version.{Version}
pub use Rattle.traces.specs.declared.version.Version.TheVariants.{Four, One, Three, Two}
pub use Rattle.trb.specs.Block.{code, endpoint, has_event_data, slot}
pub use Rattle.trb.specs.CompletionCode.{counted_code}
pub use Rattle.trb.specs.declared.ring_kind.RingKind.TheVariants.{Cmd}
pub use Rattle.world_state.proofs.AddedEndpoints.{adds_end, adds_next}
pub use Rattle.world_state.proofs.EventPlaces.{position_is}
pub use Rattle.world_state.proofs.FirstFound.{first_at-found, first_at-nowhere}
pub use Rattle.world_state.proofs.Pairs.{put_pair_index, put_pair_same, put_pair_slot}
pub use Rattle.world_state.proofs.PlacingCommands.{command_well}
pub use Rattle.world_state.proofs.Ranges.{any_in_range, none_in_range}
unfoldable pub use Rattle.world_state.specs.Bindings.{changed_by, changed_by_all, disabled, effect, has_one_of, in_state, inactive, is_had_by_another, placed, placed_on, typed}
unfoldable pub use Rattle.world_state.specs.DriverRows.{activated, bell_row, command_placed, declared, endpoint_bell, event_read, is_command_ring, register_row, reset, row_done, run_or_stop, runs_again, runs_once, valued, with_command_ring, with_dequeue}
unfoldable pub use Rattle.world_state.specs.Finishes.{ended, ended_with, finished, finished_as, passes_end, succeeded}
unfoldable pub use Rattle.world_state.specs.Harms.{harm_of, harms, has_changed_context, has_other_words, is_changed_since, is_context_changed, is_end, is_inside_descriptor, is_out_of_order, is_right_place, waits}
unfoldable pub use Rattle.world_state.specs.Looks.{command_begun, crossed, looked, looked_at, may_scribble, seen_by_look, taken, taken_on}
pub use Rattle.world_state.specs.PlacingCommands.{HasRoom, places_from}
unfoldable pub use Rattle.world_state.specs.Posts.{can_post, code_posted, other_posted, posted, report_code, report_error, report_stop, report_success, reported, reported_on, stopped_with, with_reported, with_stopped}
pub use Rattle.world_state.specs.Replays.{Ending, Harmful, NoHarm, NotPossible, scene_ending}
unfoldable pub use Rattle.world_state.specs.Replays.{stepped}
pub use Rattle.world_state.specs.RingRows.{is_in_way}
unfoldable pub use Rattle.world_state.specs.RingRows.{emptied, listed, may_come, resting, without_descriptor}
pub use Rattle.world_state.specs.Scenes.{Scene, row_made, row_next, scene_reached, step_made, with_coming, with_left, with_world}
unfoldable pub use Rattle.world_state.specs.Steps.{counted, halts, is_scribbled, made, noting_post, scribbled, until_halted, while_running}
unfoldable pub use Rattle.world_state.specs.Takes.{declared_next, first_at, is_as_declared, is_place, names, names_last, next_take, take_of, takes_of, unreported, was_placed}
pub use Rattle.world_state.specs.World.{Placed, RingEvent, Took, UnderWay, World}
unfoldable pub use Rattle.world_state.specs.World.{opening, stored, stored_block}
pub use Rattle.world_state.specs.declared.harm.Harm.{Harm}
pub use Rattle.world_state.specs.declared.harm.Harm.TheVariants.{InputContextChanged, LooksOutside, PostsOverUnread, TakenOtherWords, TakenOutOfOrder, WaitsInsideDescriptor}
pub use Rattle.world_state.specs.declared.take.Take.{Take}
pub use mathlib.Core.Bool.{beq}
