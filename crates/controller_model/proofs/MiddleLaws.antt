-- Words and lemmas, passed on to the files above them
pub use Rattle.controller_model.proofs.BindingLemmas.{having_known, may_get_is, placed_none, placed_some}
pub use Rattle.controller_model.proofs.DeclaredLemmas.{declares_more, entries_push}
pub use Rattle.controller_model.proofs.DisabledRings.{disabled_below}
pub use Rattle.controller_model.proofs.DisabledWorlds.{all_below, disabled_first, disabled_later, disabled_none, disabled_same, disabled_twice, none_below, one_more, only_named, only_unnamed}
pub use Rattle.controller_model.proofs.EndpointLemmas.{endpoints_set, endpoints_state, endpoints_type}
pub use Rattle.controller_model.proofs.FinishLemmas.{finished_as_is, made_of_part, step_fails}
pub use Rattle.controller_model.proofs.HadByAnother.{and_false, any_same, had_by_holder, none_else}
pub use Rattle.controller_model.proofs.IdleRings.{idle_command, idle_more, idle_none, idle_other, placed_is}
pub use Rattle.controller_model.proofs.LowerLaws.{KeepsRest, acts_on, all_at, all_made, any_alike, any_more, at_block, at_crossing, busy, command_id-none, command_id-some, context_named, dequeue_set, ends_here, first_left, first_of, follows_along, follows_made, follows_same, follows_stored, follows_stored_block, goes_on, gone, harm_is, harms_kept, held_four, holder_left, holder_taken, keeps_nothing, keeps_placed, keeps_took, made_idle, made_of, may_scribble_is, none_any, none_later, none_left, none_of, noted_follows, noted_nowhere, noted_once, noted_there, one, one_in_lap, onward, put_other, put_pair_id, put_pair_map, put_pair_there, put_pair_twice, put_same, read_at, read_is, replicate_at, ring_changed, row_next_is, runs_on, shows_nothing, shows_placed, shows_took, slice_get-set_other, slice_get-set_same, step_counted, step_failed, step_made_is, step_mapped, step_more, step_nothing, step_uncounted, still_watched, take_past, told_posted, typed_below, typed_none, typed_one, typed_same, typed_twice, waits_idle, waits_so, with_endpoints, with_rings, with_slots, withdraws_inside, withdraws_one, withdraws_past}
pub use Rattle.controller_model.proofs.RegisterLemmas.{pointed_other, registers_noted, stops_unless_runs, told_to_halt}
pub use Rattle.controller_model.proofs.ResetLemmas.{endpoints_left, rings_left, slots_left, written_over}
pub use Rattle.controller_model.proofs.RingRowLemmas.{coming_lists, listed_alike, listed_first, listed_last, none_dropped, nothing_listed, one_dropped, resting_here, resting_other, withdrawn_here, withdrawn_other, without_is, without_lists}
pub use Rattle.controller_model.proofs.RingSteps.{activated_other, crossed_here, crossed_other, declared_here, declared_other, reported_here, reported_other, taken_here, taken_other}
pub use Rattle.controller_model.proofs.SlotLemmas.{slots_allow, slots_state}
pub use Rattle.controller_model.proofs.Words.{AddressDevice, Block, Bool, BringsNone, ChangesOnly, Command, ConfigureEndpoint, ContextSize, Endpoint, EndpointState, Evt, Follows, FollowsHolder, FollowsRing, FollowsScene, FollowsSlots, HasRingHarms, HasRoom, Header, HeaderValue, Holder, IsFollowed, IsLeft, IsSome, List, Look, None, Ok, Option, Placed, Posted, Ring, RingHarms, RingHeld, RingState, RowSeen, Running, Scene, Sees, SetTrDequeue, SlotState, Some, World, Xfer, [], address_of, addressed, adds_end, adds_next, any_in_range, ap, arith, as_declared, block_at, bound, cases_Bool, cases_eq, cases_lt, changed_at, command_of, command_well, common_steps, completed, cond-false, cond-true, cond_both, context_cycle, context_pointer, cycle, drop, endpoint, entries, eq-eqb, eqb-true, err_from_is_err_and, false, false_from_ne_true, false≢true, filter, find, first_at-found, first_at-nowhere, freed, get_or, has_flag, has_isochronous, has_own, held, idle, if◌then◌else◌, inl, input_add_flag, input_context_bytes, inr, is_command_kind, is_dropped, is_elsewhere, is_event_place, is_holder, is_it, is_ring, is_some, is_transfer_kind, length, length-remove, length-set, link_target-crossed, list_any, ltb-false, may_be_inside, may_get, named_by, named_context, nat_le, nat_lt, ne_eqb, none-some, none_in_range, not, option_and_then, option_copied, option_map, own_ring, place_count, places_from, position_from, position_is, put, put_pair, put_pair_index, put_pair_same, range_with_len, refl, released, remove, ring_held, ring_with, row_made, rules, same_Some, set, shape_or, slice_get, slice_get_within, slice_index, slot, slot_success, step_made, subst, suc, sym, take, take_all, told, true, unwrap_or, with_coming, with_left, with_world, written_at, zero, ℕ, ◌%◌, ◌&&◌, ◌*◌, ◌++◌, ◌+◌, ◌-◌, ◌<◌, ◌==◌, ◌^◌, ◌||◌, ◌∙◌, ◌∷◌, ◌≡◌, ◌≢◌, ◌≤◌}
unfoldable pub use Rattle.controller_model.proofs.Words.{activated, added_endpoints, bell_row, changed_by, changed_by_all, changes, command_begun, command_id, counted, crossed, declared, disabled, effect, ended, event_read, event_shape, finished, finished_as, halts, has_other_words, in_state, inactive, is_had_by_another, is_inside_descriptor, is_out_of_order, listed, look_shows, looked, looked_at, made, may_come, may_scribble, noting_post, opening, other_posted, passes_end, placed, placed_on, posted, reported, reset, resting, ring_having, row_done, runs_again, runs_once, scribbled, seen_by_look, shape_of, shows, some_ring, stepped, stored, stored_block, succeeded, taken, taken_on, takes_of, typed, unreported, until_halted, valued, waits, while_running, with_dequeue, with_reported, with_ring, without_descriptor, without_ring}
