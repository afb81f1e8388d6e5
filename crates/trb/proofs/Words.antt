-- The words of std, of the crates below and of this crate's own definitions that its proofs cite, passed on by one file
unfoldable pub use Rattle.bitflags.specs.Sets.{known_from}
pub use Rattle.std.proofs.Common.{All, Bool, List, None, Option, Some, [], ap, arith, bit_and, bit_or, eqb-true, false, get_or, if◌then◌else◌, inl, inr, length, lit<, map, nat_le, not, pow_pos, refl, replicate, rules, shr-shr, sym, take, true, ℕ, ◌%◌, ◌&&◌, ◌*◌, ◌++◌, ◌+◌, ◌-◌, ◌/◌, ◌<◌, ◌==◌, ◌^◌, ◌||◌, ◌∙◌, ◌∷◌, ◌≡◌, ◌≤◌}
pub use Rattle.std.proofs.Math.Facts.{Fits-lt-pow}
pub use Rattle.std.proofs.lemmas.Bool.{agree_below_at, cases_lt}
pub use Rattle.std.proofs.lemmas.Bool.Decides.{nat_tests}
pub use Rattle.std.proofs.lemmas.List.{get_or_default, get_or_past}
pub use Rattle.std.proofs.lemmas.Nat.{and_assoc, and_mask, one_shl, or_shifted}
pub use Rattle.std.proofs.lemmas.Nat.Bits.{and_high_mask, and_pow, bit_at-lt}
pub use Rattle.std.specs.Int.{from_bool}
pub use Rattle.std.specs.List.{list_all}
pub use Rattle.trb.specs.Bits.{bits, is_set}
pub use Rattle.trb.specs.Block.{cycle, endpoint, is_chained, kind, slot, type_number, with_cycle, word}
pub use Rattle.trb.specs.Descriptor.{fault_of, is_chain}
pub use Rattle.trb.specs.Flags.{all_flags, flag_bits, flag_places, has_flag}
pub use Rattle.trb.specs.Kind.{kind_numbered, kinds}
pub use Rattle.trb.specs.declared.block.Block.{Block}
pub use Rattle.trb.specs.declared.fault.Fault.{Fault}
pub use Rattle.trb.specs.declared.fault.Fault.TheVariants.{BadDescriptor, NotInProfile}
pub use Rattle.trb.specs.declared.flags.BlockFlags.{BlockFlags}
pub use Rattle.trb.specs.declared.kind.BlockKind.{BlockKind}
pub use Rattle.trb.specs.declared.kind.BlockKind.TheVariants.{Unknown}
pub use Rattle.trb.specs.declared.ring_kind.RingKind.TheVariants.{Cmd, Evt, Xfer}
