-- Words and lemmas, passed on to the files above them
pub use Rattle.controller_model.proofs.AddedLemmas.{all_made, first_of, none_left}
pub use Rattle.controller_model.proofs.BellLemmas.{command_id-none, command_id-some, follows_same, found_by_id}
pub use Rattle.controller_model.proofs.Borders.{is_border-append, is_border-end, is_border-past}
pub use Rattle.controller_model.proofs.ChangeLemmas.{Made, made_of, none_of}
pub use Rattle.controller_model.proofs.EffectLemmas.{gone, one, onward}
pub use Rattle.controller_model.proofs.EventPlaces.{dequeue_set}
pub use Rattle.controller_model.proofs.HeldLemmas.{held_four}
pub use Rattle.controller_model.proofs.HistoryLemmas.{KeepsRest, keeps_nothing, keeps_placed, keeps_took, shows_nothing, shows_placed, shows_took}
pub use Rattle.controller_model.proofs.HolderLemmas.{elsewhere, here, holder_left, holder_taken, place_of, put_pair_here, put_pair_id, put_pair_map, put_pair_there, put_pair_twice}
pub use Rattle.controller_model.proofs.LookBranches.{busy, may_scribble_is, or_false, read_is}
pub use Rattle.controller_model.proofs.LookLemmas.{noted_follows}
pub use Rattle.controller_model.proofs.NamedPlaces.{at_block, at_crossing, one_in_lap}
pub use Rattle.controller_model.proofs.NextRowLemmas.{first_left, follows_made, row_next_is, step_failed, step_made_is, step_mapped}
pub use Rattle.controller_model.proofs.NothingTaken.{harms_kept, none_any, step_nothing}
pub use Rattle.controller_model.proofs.OpeningLemmas.{all_at, replicate_at}
pub use Rattle.controller_model.proofs.ReportPosts.{map_choice, told_posted}
pub use Rattle.controller_model.proofs.RingLemmas.{put_other, put_same, read_at, ring_changed, slice_get-set_other, slice_get-set_same, with_endpoints, with_rings, with_slots}
pub use Rattle.controller_model.proofs.RowLemmas.{follows_along, follows_stored, follows_stored_block}
pub use Rattle.controller_model.proofs.SafetyLemmas.{and_true, any_more, context_named, harm_is, take_past, waits_idle, waits_so}
pub use Rattle.controller_model.proofs.StepLemmas.{acts_on, made_idle, noted_nowhere, noted_once, noted_there, runs_on, step_counted, step_more, step_uncounted}
pub use Rattle.controller_model.proofs.TypedWorlds.{typed_below, typed_none, typed_one, typed_same, typed_twice}
pub use Rattle.controller_model.proofs.WatchLemmas.{any_alike, none_later, still_watched}
pub use Rattle.controller_model.proofs.WithdrawLemmas.{ends_here, goes_on, withdraws_inside, withdraws_one, withdraws_past}
pub use Rattle.controller_model.proofs.Words.{AddressDevice, All-push, AreLeft, Bell, Block, Bool, BringsNone, ChangesOnly, Cmd, Command, ConfigureEndpoint, ContextSize, Crcr, Declarations, Declared, Declares, Disabled, Ending, Endpoint, EndpointState, Erdp, Err, Evt, Finish, Follows, FollowsEndpoints, FollowsHolder, FollowsRegisters, FollowsRing, FollowsRings, FollowsScene, FollowsSlots, Four, FreeRow, Halt, Harmful, HasRingHarms, HasRoom, Header, HeaderValue, Holder, IsEndpoint, IsFollowed, IsLeft, IsPart, IsSome, IsStep, Kept, List, Look, NextRow, NoHarm, None, NotPossible, Off, Ok, Option, Other, Placed, Posted, PostsOverUnread, Reg, RegRead, Register, Registers, Report, Ring, RingHarms, RingHeld, RingRow, RingState, Row, RowSeen, Running, Scene, Scribble, Seen, Sees, SetTrDequeue, Slot, SlotState, Some, Step, StepFault, Sub, Three, UnderWay, Usbcmd, Usbsts, Version, World, Write, Xfer, [], address_of, addressed, adds_end, adds_next, aligned, any_in_range, ap, append_assoc, arith, as_declared, base_address, beq, block_at, blocks_of, bound, cases_Bool, cases_eq, cases_lt, changed_at, command_of, command_well, common_steps, completed, cond-false, cond-true, cond_both, context_cycle, context_pointer, cycle, drop, endpoint, entries, eq-eqb, eqb-true, err_from_is_err_and, fails_before_first, false, false_from_ne_true, false≢true, filter, find, first_at-found, first_at-nowhere, freed, fun_ext, get_or, has_flag, has_isochronous, has_own, held, id_of, idle, if◌then◌else◌, inl, input_add_flag, input_context_bytes, inr, is_command_kind, is_dropped, is_elsewhere, is_event_place, is_holder, is_in_way, is_inside, is_it, is_other, is_ring, is_set, is_some, is_transfer_kind, le-ltb, length, length-append, length-remove, length-set, length-take-le, link_target-crossed, list_any, lt-ltb, ltb-false, may_be_inside, may_get, named_by, named_context, nat_le, nat_lt, ne_eqb, none-some, none_in_range, not, noted, option_and_then, option_copied, option_map, or-true, own_ring, place_count, places_from, pointed, pointer, position, position-Some, position_from, position_is, put, put_pair, put_pair_index, put_pair_same, put_pair_slot, range_with_len, refl, released, remove, replicate, reset_bit, reverse, ring_cycle_state, ring_held, ring_with, row_made, rules, run_bit, same_Some, scene_ending, scene_reached, scene_replayed, set, shape_or, slice_get, slice_get-get_or, slice_get_within, slice_index, slot, slot_success, step_made, subst, suc, sym, take, take-append-le, take_all, take_at_read, taken_held, told, true, turned_off, unwrap_or, with_coming, with_left, with_register, with_world, word, written_at, zero, ℕ, ◌%◌, ◌&&◌, ◌*◌, ◌++◌, ◌+◌, ◌-◌, ◌<◌, ◌==◌, ◌^◌, ◌||◌, ◌∙◌, ◌∷◌, ◌≡◌, ◌≢◌, ◌≤◌}
unfoldable pub use Rattle.controller_model.proofs.Words.{activated, added_endpoints, bell_row, changed_by, changed_by_all, changes, command_begun, command_id, command_placed, counted, crossed, declared, declared_at, declared_next, disabled, effect, ended, ended_with, event_read, event_shape, finished, finished_as, halts, has_one_of, has_other_words, in_state, inactive, is_command_ring, is_had_by_another, is_inside_descriptor, is_out_of_order, length_from, listed, look_shows, looked, looked_at, made, may_come, may_scribble, model_on_literals, no_ops, noting_post, opening, other_posted, passes_end, placed, placed_on, posted, register_row, reported, reset, resting, ring_having, row_done, runs_again, runs_once, scribbled, seen_by_look, shape_of, shows, some_ring, split_at, stepped, stored, stored_block, succeeded, taken, taken_on, takes_of, typed, unreported, until_halted, valued, waits, while_running, with_dequeue, with_reported, with_ring, without_descriptor, without_ring}
pub use Rattle.controller_model.proofs.WorkedReplays.{addressed_steps, three_rings}
