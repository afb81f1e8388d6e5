-- What the answers cite: the words, and this crate's lemmas
pub use Rattle.leases.proofs.BaseWords.{AreLent, AreOpen, Begins, Block, Bool, CertificateLog, Cmd, Command, DeviceContext, DriverKeeps, EntriesFit, EntryFits, Erstba, EventSegment, Evt, FollowedList, FollowsCertificate, FollowsList, FollowsRing, FollowsTrace, Header, HoldsAll, HoldsLents, InputContext, IsFound, IsInStep, IsNextRow, IsOtherRow, IsPlaced, IsShape, Known, Lease, LeaseBook, Leased, Lent, Link, List, MovesOn, None, Option, Range, Reg, Register, Row, SegmentTable, Shape, SlotEntry, SlotIsFree, Some, StandFrom, StandsAt, Usbcmd, Xfer, [], among_at, ap, arith, base_address, cases_Bool, cases_option, code, command_found, command_id_is, command_place, crossing_positive, driven, endpoint, eqb-true, event_here, false, false≢true, floor_number, get_or, given_count, index_at, index_in, inl, inr, is_command_kind, is_crossing, is_driver_kind, is_event_kind, is_input_context, is_of_ring, is_of_slot, is_passed, is_some, length, link_crossed, map, named, next_command, no_command_ring, none_here, not_found, number, place_count, place_of, refl, ring_here, same_leased, segments_in_turn, shape_allowed, shape_there, share_a_place, slice_get, slot_let_go, slot_ranges, subst, sym, take, take_all, target, touches, true, unwrap_or, ℕ, ◌%◌, ◌+◌, ◌<◌, ◌==◌, ◌^◌, ◌||◌, ◌∙◌, ◌∷◌, ◌≡◌, ◌≤◌}
unfoldable pub use Rattle.leases.proofs.BaseWords.{code_told, come_to, comes_before, command_at, command_id, context_ranges, device_named, ended_at, ended_where, entry_of, event_shape, grown, in_turn, is_among, is_use_free, link_of, open_leases, passed_on, range_of_command, segment_ranges, shape_of, table_range, taken_device, with_begun, with_ring}
pub use Rattle.leases.proofs.CertificateLogs.Beginning.{HasBegun, next_begins, nothing_begun}
pub use Rattle.leases.proofs.CertificateLogs.EndingOne.{another_numbered, another_there, none_numbered, this_numbered, this_there}
pub use Rattle.leases.proofs.CertificateLogs.Following.{goes_on}
pub use Rattle.leases.proofs.LeaseBooks.FreeRanges.{table_free}
pub use Rattle.leases.proofs.LeaseBooks.SegmentLeases.{all_taken, next_lent, next_stands, none_yet, turned_of}
pub use Rattle.leases.proofs.LeaseRows.CompletionRows.{command_behind, completion_ends, endpoint_rings, has_commands, id, next_here, none_behind, some_commands}
pub use Rattle.leases.proofs.LeaseRows.NumberedRanges.{all_below, all_contexts, all_slots, below, context_of, contexts_in_step, contexts_numbered, due_unfinished, handed_given, next_ended, no_context_yet, no_slot_yet, none_below, none_next, not_handed, slot_of, slots_lent, slots_numbered, still_there}
pub use Rattle.leases.proofs.LeaseRows.ResetRows.{command_there, contexts_lent, floor_below, reset_lent, still_open, table_in_step, table_lent, with_commands, without_commands, without_contexts, without_slots, without_table}
pub use Rattle.leases.proofs.LeaseRows.RowWrites.{at_ring, command_context_free, command_fits, command_slot_free, crosses, given_kind, given_there_is, lent_command, lent_link, lent_none, lent_nowhere, lent_without, link_is_free, place_free, record_there, shape_is}
pub use Rattle.leases.proofs.LeaseRows.TransferRows.{comes, driver_kind, keeps, other_lent, ring_keeps, ring_of_header, transfer_ends, unbound_lent, unnamed_lent}
pub use Rattle.leases.proofs.RingLeases.Going.{coming_good, command_over, event_kind, event_over, going_good, none_goes, transfer_over}
pub use Rattle.leases.proofs.RingLeases.HeldBehind.{comes_held, goes_held, segments_held}
pub use Rattle.leases.proofs.RingLeases.LentFree.{Restoring, among, ends_none, ends_one, is_between, next_begun, next_free, restored_lent, withdrawn_lent}
pub use Rattle.leases.proofs.RingLeases.MovingRings.{alone, alone_command, at_end, command_block, command_free, first_restored, freed_given, freed_later, in_rings, last_restored, opened_alone, opened_own, other, own_first, own_step, same_left}
pub use Rattle.leases.proofs.RingLeases.OpenComing.{segments_now}
pub use Rattle.leases.proofs.UpperLaws.{added, added_last, all_ended, all_more, all_passed, all_twice, always_ok, among_drivers, are_shaped, at_some, begun_none, begun_twice, block_ends, block_found, block_itself, block_numbered, context_put, device_lent, device_put, disables_none, ended_alike, endpoint_driven, endpoint_named, ends_all, entries, entry_aligned, entry_put, event_count, first_found, first_list, first_ranges, free_none, held_still, in_events, leaves_empty, leaves_none, leaves_two, length_held, lent_again, lent_of, lent_register, link_ends, link_found, link_itself, link_numbered, list_begun, moved_is, moved_none, moves_none, named_at, no_context, no_events, none_ended, none_more, none_over, none_passed, none_past, none_taken, not_touched, on_both, on_more, one_context, one_ended, other_held, other_row, other_table, others_begin, over_alike, passed_block, passed_crossing, put_at, range_apart, range_begins, range_ends, range_found, range_numbered, resets_none, same_more, segments_stand, slot_is, some_end, some_past, stands, stands_only, still_free, still_free_slot, table_begins, table_put, takes_no_more, takes_none, takes_one, tells_whole, two_ended, whole_tells}
