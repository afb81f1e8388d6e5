-- The words of std, of the crates below and of this crate's own definitions that its proofs cite, passed on by one file
pub use Rattle.hex.proofs.HexLemmas.{IsOk-decode_sized, decode_of-even, decode_of-ok, decode_pairs-ok, decode_sized-ok, decode_sized-twice, length-encode_with}
pub use Rattle.hex.proofs.Pairs.{cons_byte, decode_pairs-ok_pair}
pub use Rattle.hex.specs.Hex.{IsBytes, decode_of, decode_sized, digit_or_error, encode_lower, hex_digit_value, is_hex_digit, lower_digits, pair_value, ◌>>=◌}
unfoldable pub use Rattle.hex.specs.Hex.{decode_pairs, encode_with}
pub use Rattle.hex.specs.declared.error.FromHexError.{FromHexError}
pub use Rattle.line_text.specs.Fields.{fields_in, has_empty_field, is_space}
unfoldable pub use Rattle.line_text.specs.Fields.{fields_of}
pub use Rattle.line_text.specs.Lines.{is_line_feed, last_line, lines_between}
unfoldable pub use Rattle.line_text.specs.Lines.{lines_of}
pub use Rattle.line_text.specs.Numbers.{number_of_bytes}
unfoldable pub use Rattle.line_text.specs.Numbers.{digits_of, number_of}
pub use Rattle.std.proofs.Common.{All, Bool, Err, Fits, List, None, Ok, Option, Result, Some, [], add-one, ap, ap₂, arith, bit_and, bit_or, cond, drop, eq-eqb, eqb, eqb-true, false, get_or, inl, inr, is_some, le_refl, leb, length, length-append, length-drop, ltb, map, nat_lt, not, refl, replicate, rules, slice_index, subst, suc, sym, take, true, unwrap_or, zero, ℕ, ◌%◌, ◌&&◌, ◌*◌, ◌++◌, ◌+◌, ◌-◌, ◌/◌, ◌<◌, ◌==◌, ◌^◌, ◌||◌, ◌↔◌, ◌∙◌, ◌∷◌, ◌≡◌, ◌≤◌, ◌⊎◌}
pub use Rattle.std.proofs.Math.Seq.{drop-cons}
pub use Rattle.std.proofs.lemmas.Bool.{agree_below_at, and_parts, false_from_ne_true}
pub use Rattle.std.proofs.lemmas.Bool.Decides.{nat_tests}
pub use Rattle.std.proofs.lemmas.Grind.{common_steps}
pub use Rattle.std.proofs.lemmas.List.{get_or-take, length-map, length-take, take-append-drop, take_all}
pub use Rattle.std.proofs.lemmas.List.Elements.{All-append, All-cons, All-from_get_or, All-head, All-nil, All-same, All-tail, All-weaker}
pub use Rattle.std.proofs.lemmas.List.Folds.{list_all-append}
pub use Rattle.std.proofs.lemmas.List.Splits.{join_with_byte-slice_split, length-slice_split, slice_split-cons_no, slice_split-cons_yes, slice_split_at, slice_split_none}
pub use Rattle.std.proofs.lemmas.List.Sums.{AllPass-from_list_all, count_by-le-length, list_all-from_AllPass, sum_by-cons}
pub use Rattle.std.proofs.lemmas.Nat.{be_bytes_2, be_bytes_4, be_bytes_8, from_be_bytes-to_be_bytes_2, from_be_bytes-to_be_bytes_4, from_be_bytes-to_be_bytes_8}
pub use Rattle.std.proofs.lemmas.Simd.{length-chunk, mask_l-mod, pick_l-range_with_len, pick_l_left, pick_l_whole, splat_is_map, zip2_of_maps, zip2_splat}
pub use Rattle.std.specs.Char.{to_ascii_lowercase}
pub use Rattle.std.specs.Int.{Width, byte_len, bytes_high_first, from_be_bytes, is_in_range, to_be_bytes, w16, w32, w64, w8}
pub use Rattle.std.specs.List.{AllPass, count_by, join_with_byte, list_all, onto_first, range_with_len, slice_split}
pub use Rattle.std.specs.Result.{result_unwrap_or}
pub use Rattle.std.specs.Str.{str_to_ascii_lowercase}
pub use lib.Lanes.{Each1, chunk, mask_l, pick_l, sel_l, top, zip2}
pub use mir.Val.{bits}
