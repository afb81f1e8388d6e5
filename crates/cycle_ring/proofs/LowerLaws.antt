-- Words and lemmas, passed on to the files above them
pub use Rattle.cycle_ring.proofs.Declared.{may_be_declared}
pub use Rattle.cycle_ring.proofs.LinkBlocks.{cycle_written, four_puts, leads_right, link_cycle}
pub use Rattle.cycle_ring.proofs.MayWriteLemmas.{MayPut}
pub use Rattle.cycle_ring.proofs.PlayedLemmas.{block_at-words, played-elsewhere, played-written, same_address}
pub use Rattle.cycle_ring.proofs.Stages.{Stage, first_control, first_crossed_only, first_given, first_given_only, later_control, link_control_word, link_low_word, low_word, no_way}
pub use Rattle.cycle_ring.proofs.Words.{All, All-head, All-tail, AllMayWrite, AllWithoutInterrupt, Block, BlocksStand, Bool, Contains, Contains-append_cases, Contains-append_left, Data, Declares, GivenLast, IsAllowed, IsEnqueuedSo, IsShape, KeepTheRing, KeepsTheRing, Link, LinksStand, List, MayBeDeclared, MayDeclare, None, Option, OthersStay, Place, Progress, RingKeeps, RingView, Shape, Some, Writes, [], address_of, and_from, and_parts, ap, append_assoc, appended, arith, block_at, block_at_position, block_writes, cases_lt, cases_option, changed, common_steps, cond-false, cond-true, control_write, cycle_of, declared, declares_keeps, drop, drop-append_seam, eq-eqb, false, fault_of, floor_number, get_or, gives_crossing, has_room, inl, inr, is_crossing, is_crossing-from, is_some, later_writes, length, length-append, link_address, link_block, link_crossed, lit<, low_writes, lt-ltb, ltb-true, nat_le, nat_lt, ne_eqb, or_left, place_at, place_at-address_of, place_at-link_address, place_count, place_count_pos, played, put, refl, rules, same_crossing, same_position_near, slice_get, slice_get-get_or, slice_get_within, subst, suc, sum, sum_by-cons, sym, take, take-append-drop, take-append-le, true, viewed, way_writes, word, writes_keeps, writes_of, zero, ℕ, ◌*◌, ◌++◌, ◌+◌, ◌-◌, ◌<◌, ◌==◌, ◌∙◌, ◌∷◌, ◌≡◌, ◌≤◌}
unfoldable pub use Rattle.cycle_ring.proofs.Words.{descriptor_length, length_from, place_of}
pub use Rattle.cycle_ring.proofs.WrittenWords.{IsWordAt, IsWordOf, IsWordOfLink, IsWritten, later_writes-words, way_writes-words, word_of_descriptor_written, writes_of-words}
