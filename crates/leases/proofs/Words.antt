-- The words and the lemmas that most files here cite, passed on by one file
pub use Rattle.leases.proofs.BaseWords.{Begins, Block, Bool, CertificateLog, Dcbaap, DeviceContext, EntryFits, Err, Evt, FollowedList, FollowsCertificate, FollowsList, Header, HoldsAll, HoldsLents, IfOk, InputContext, IsFound, IsNextRow, IsOtherRow, IsPlaced, Known, Lease, LeaseBook, Lent, Link, List, MovesOn, None, Ok, OnOk, Option, Range, Result, Ring, Row, Segment, SegmentTable, SlotEntry, SlotIsFree, Some, [], among_at, ap, arith, cases_Bool, code, command_place, crossing_positive, driven, drop, drop-cons, drop_all, endpoint, eqb-true, false, false≢true, floor_number, get_or, index_at, index_in, index_of, inl, inr, is_command_kind, is_crossing, is_event_kind, is_of_ring, is_passed, is_some, length, link_crossed, map, none_here, number, option_copied, place_count, refl, register_or_zero, ring_here, same_leased, shape_or, shape_there, share_a_place, slice_get, subst, suc, sym, take, take_all, touches, true, unwrap_or, vec_len, ℕ, ◌%◌, ◌*◌, ◌+◌, ◌-◌, ◌<◌, ◌==◌, ◌^◌, ◌||◌, ◌∙◌, ◌∷◌, ◌≡◌, ◌≤◌}
unfoldable pub use Rattle.leases.proofs.BaseWords.{come_to, comes_before, command_at, command_id, device_named, ended_at, ended_where, entry_of, event_shape, grown, in_order, is_among, is_use_free, lents, link_of, named, next_command, open_leases, passed_on, segment_lease, shape_of, taken_device, target, with_begun, with_lease}
pub use Rattle.leases.proofs.CertificateLogs.Beginning.{HasBegun, all_begun, next_begins, nothing_begun}
pub use Rattle.leases.proofs.CertificateLogs.EndingOne.{another_numbered, another_there, none_numbered, this_numbered, this_there}
pub use Rattle.leases.proofs.CertificateLogs.Following.{goes_on}
pub use Rattle.leases.proofs.CertificateLogs.Standing.{block_itself, free_none, link_itself, range_apart, stands_only}
pub use Rattle.leases.proofs.CertificateLogs.Tables.{block_numbered, link_numbered, range_numbered}
pub use Rattle.leases.proofs.CertificateLogs.Words.{block_words, link_words, range_words}
pub use Rattle.leases.proofs.LeaseBooks.FirstBook.{first_found, first_list}
pub use Rattle.leases.proofs.LeaseBooks.Holding.{block_ends, link_ends}
pub use Rattle.leases.proofs.LeaseBooks.Passing.{all_twice, ended_alike, none_over, none_passed, over_alike, passed_block, passed_crossing}
pub use Rattle.leases.proofs.LeaseBooks.Places.{block_found, length_held, link_found, list_begun, put_at, range_found}
pub use Rattle.leases.proofs.LeaseBooks.RangePlaces.{always_ok, context_put, device_put, entry_put, others_begin, some_end, stands}
pub use Rattle.leases.proofs.LeaseBooks.Unended.{all_ended}
pub use Rattle.leases.proofs.LeaseRows.EndedRanges.{device_lent, disables_none, endpoint_driven, endpoint_named, ends_all, failed_behind, leaves_empty, leaves_none, leaves_two, lent_of, moved_is, moved_none, moves_none, moves_when, none_ended, none_past, one_ended, slot_still, some_past, succeeded_behind, two_ended}
pub use Rattle.leases.proofs.LeaseRows.OtherRows.{among_drivers, held_still, lent_register, on_both, on_more, other_held, other_row, table_begins}
pub use Rattle.leases.proofs.LeaseRows.RowWrites.{at_ring, command_context_free, command_fits, command_slot_free, given_kind, given_there_is, lent_command, lent_link, lent_none, lent_nowhere, lent_without, link_is_free, place_free, record_there}
pub use Rattle.leases.proofs.LeaseRows.TakenRanges.{all_more, begun_none, begun_twice, entry_aligned, named_at, no_context, none_more, none_taken, one_context, same_more, slot_is, still_free, still_free_slot, takes_no_more, takes_none, takes_one}
pub use Rattle.leases.proofs.RingLeases.LentFree.{Restoring, among, ends_none, ends_one, is_between, next_begun, next_free, restored_lent, withdrawn_lent}
