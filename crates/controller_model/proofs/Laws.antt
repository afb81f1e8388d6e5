-- What the answers cite: the words, and this crate's lemmas
pub use Rattle.controller_model.proofs.BindingSteps.{bound_here, bound_other, freed_had, freed_has, released_here, released_other}
pub use Rattle.controller_model.proofs.MiddleLaws.{KeepsRest, activated_other, acts_on, all_at, all_below, all_made, any_more, at_block, at_crossing, busy, coming_lists, command_id-none, command_id-some, context_named, crossed_here, crossed_other, declared_here, declared_other, declares_more, dequeue_set, disabled_below, disabled_first, disabled_later, disabled_none, disabled_same, disabled_twice, endpoints_left, endpoints_set, endpoints_state, endpoints_type, ends_here, entries_push, finished_as_is, first_left, first_of, follows_along, follows_made, follows_same, follows_stored, follows_stored_block, goes_on, gone, had_by_holder, harm_is, harms_kept, having_known, held_four, holder_left, holder_taken, idle_command, idle_more, idle_none, idle_other, keeps_nothing, keeps_placed, keeps_took, listed_alike, listed_first, listed_last, made_idle, made_of, made_of_part, may_get_is, may_scribble_is, none_below, none_dropped, none_else, none_later, none_left, none_of, noted_follows, noted_nowhere, noted_once, noted_there, nothing_listed, one, one_dropped, one_in_lap, one_more, only_named, only_unnamed, onward, placed_is, placed_none, placed_some, pointed_other, put_pair_id, read_at, read_is, registers_noted, replicate_at, reported_here, reported_other, resting_here, resting_other, ring_changed, rings_left, row_next_is, runs_on, shows_nothing, shows_placed, shows_took, slice_get-set_other, slice_get-set_same, slots_allow, slots_left, slots_state, step_counted, step_failed, step_fails, step_made_is, step_mapped, step_more, step_nothing, step_uncounted, still_watched, stops_unless_runs, take_past, taken_here, taken_other, told_posted, told_to_halt, typed_below, typed_none, typed_one, typed_same, typed_twice, waits_idle, waits_so, with_endpoints, with_rings, with_slots, withdrawn_here, withdrawn_other, withdraws_inside, withdraws_one, withdraws_past, without_is, without_lists, written_over}
pub use Rattle.controller_model.proofs.RingHarmLemmas.{harms_looked, look_came, look_is, second_false}
pub use Rattle.controller_model.proofs.SuccessLemmas.{can_be_addressed, none_of_test, one_some, some_of, success_changes}
pub use Rattle.controller_model.proofs.TrialLemmas.{had_by_trial, own_here, own_none, own_some, own_there, sees_placed}
pub use Rattle.controller_model.proofs.Words.{Bool, BringsNone, Endpoint, Evt, Follows, FollowsRing, FollowsScene, FollowsSlots, Header, HeaderValue, IsFollowed, IsLeft, IsSome, List, Look, None, Ok, Option, Posted, Ring, RingState, RowSeen, Running, Sees, SlotState, Some, Xfer, [], address_of, addressed, adds_end, adds_next, ap, arith, as_declared, block_at, bound, cases_eq, cases_lt, changed_at, command_of, command_well, common_steps, completed, cond-false, cond-true, context_cycle, context_pointer, drop, endpoint, entries, eq-eqb, eqb-true, err_from_is_err_and, false, false_from_ne_true, false≢true, filter, first_at-found, first_at-nowhere, freed, get_or, has_flag, has_isochronous, held, idle, if◌then◌else◌, inl, input_add_flag, inr, is_command_kind, is_dropped, is_event_place, is_it, is_ring, is_some, is_transfer_kind, length, length-remove, length-set, link_target-crossed, list_any, may_be_inside, named_by, nat_le, nat_lt, ne_eqb, none-some, not, option_copied, option_map, places_from, position_from, position_is, put, refl, remove, ring_held, ring_with, row_made, same_Some, set, shape_or, slice_get, slice_get_within, slice_index, slot, slot_success, step_made, subst, sym, take, take_all, told, true, unwrap_or, with_coming, with_left, with_world, written_at, ℕ, ◌&&◌, ◌*◌, ◌++◌, ◌+◌, ◌-◌, ◌<◌, ◌==◌, ◌||◌, ◌∙◌, ◌∷◌, ◌≡◌, ◌≢◌, ◌≤◌}
unfoldable pub use Rattle.controller_model.proofs.Words.{activated, added_endpoints, bell_row, changed_by, changed_by_all, changes, command_begun, counted, crossed, declared, disabled, ended, event_read, event_shape, finished, finished_as, halts, has_other_words, in_state, is_inside_descriptor, is_out_of_order, listed, look_shows, looked, looked_at, made, may_come, may_scribble, noting_post, opening, other_posted, placed, placed_on, posted, reported, reset, resting, ring_having, row_done, runs_again, runs_once, scribbled, seen_by_look, shape_of, shows, some_ring, stepped, stored, stored_block, succeeded, taken_on, typed, unreported, valued, waits, with_dequeue, with_reported, with_ring, without_descriptor, without_ring}
