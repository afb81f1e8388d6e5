-- Words and lemmas, passed on to the files above them
pub use Rattle.guest_memory.proofs.Linked.{at_linked, count, next_read, number_read, tree_linked, words_linked}
pub use Rattle.guest_memory.proofs.OnWay.{IsOnWay, free_at_end, free_first, on_way_down}
pub use Rattle.guest_memory.proofs.PageWords.{page_in_at, page_in_none, page_in_set}
pub use Rattle.guest_memory.proofs.Words.{HasNone, IsAt, IsFree, IsTree, List, Page, [], ap, arith, behind_of, cases_eq, first_of, get_or, get_or-replicate, get_or-set_other, get_or-set_same, if◌then◌else◌, length, map-set_same, next, nexts, numbers, page_in, put, refl, replicate, rules, set, slice_index, word_of, ℕ, ⊎_elim, ◌%◌, ◌+◌, ◌-◌, ◌/◌, ◌<◌, ◌==◌, ◌∷◌, ◌≡◌, ◌≢◌, ◌≤◌}
