-- The words of std, of the crates below and of this crate's own definitions that its proofs cite, passed on by one file
pub use Rattle.guest_memory.specs.Memory.{put}
pub use Rattle.guest_memory.specs.Page.{page_in, word_of}
pub use Rattle.guest_memory.specs.Tree.{Extends, HasNone, IsAt, IsFree, IsTree, behind_of, digits_of, first_of, next, nexts, numbers}
unfoldable pub use Rattle.guest_memory.specs.Tree.{led}
pub use Rattle.guest_memory.specs.declared.page.Page.{Page}
pub use Rattle.std.proofs.Common.{List, None, Some, [], ap, arith, get_or, inl, inr, length, length-append, refl, replicate, rules, set, suc, sym, zero, ℕ, ⊎_elim, ◌%◌, ◌++◌, ◌+◌, ◌-◌, ◌/◌, ◌<◌, ◌∙◌, ◌∷◌, ◌≡◌, ◌≢◌, ◌≤◌}
pub use Rattle.std.proofs.Math.Seq.{map-set_same}
pub use Rattle.std.proofs.lemmas.Bool.{cases_eq, cases_lt}
pub use Rattle.std.proofs.lemmas.Bool.Decides.{nat_tests}
pub use Rattle.std.proofs.lemmas.List.{get_or-map, get_or-replicate, get_or-set_other, get_or-set_same, get_or_append_left, get_or_past, get_or_push, length-map, map-append, map-set}
pub use Rattle.std.specs.Prelude.{if◌then◌else◌, slice_index, ◌==◌}
