-- SideBySide: what two fields say whose digits are read at once
use Rattle.line_text.proofs.Words.{◌≡◌, ℕ, zero, suc, ◌+◌, ◌*◌, ◌⊎◌, inl, inr, Bool, true, false, List, [], ◌∷◌, ◌++◌, length, take, drop, Some, None, Ok, refl, sym, ap, ◌∙◌, arith, length-append, length-drop, w32, from_be_bytes, AllPass, list_all, take_all, list_all-append, AllPass-from_list_all, list_all-from_AllPass, length-chunk, pick_l_left, pick_l-range_with_len, chunk, pick_l, decode_of, decode_pairs, is_hex_digit, decode_of-even, decode_of-ok, decode_pairs-ok, cons_byte, decode_pairs-ok_pair, number_of}
use Rattle.line_text.proofs.Digits.{pair_said, pairs_said, pairs_spelled}
use Rattle.line_text.proofs.DigitLanes.{no_number, number_read}

-- the bytes of pairs of digits are those of the first pairs, and then the others'
split_pairs : (k i : ℕ) (a b bytes : List ℕ) → length a ≡ 2 * k → decode_pairs i (a ++ b) ≡ Ok bytes → (decode_pairs i a ≡ Ok (take k bytes)) × ((j : ℕ) × (decode_pairs j b ≡ Ok (drop k bytes)))
unfolding decode_pairs
split_pairs zero i [] b bytes long said = (refl, (i, said))
split_pairs zero i (x ∷ a) b bytes long said = absurd (omega arith)
split_pairs (suc k) i [] b bytes long said = absurd (omega arith)
split_pairs (suc k) i (x ∷ []) b bytes long said = absurd (omega arith)
split_pairs (suc k) i (x ∷ y ∷ a) b bytes long said =
    let p = pair_said x y i (a ++ b) bytes said in
    let v = p.high * 16 + p.low in
    grind (arith, Ok, decode_pairs-ok_pair, cons_byte, split_pairs k (i + 2) a b p.others (omega arith) p.others_are)

module _ (a b bytes : List ℕ) (k : ℕ) (la : length a ≡ 2 * k) (lb : length b ≡ 2 * k) (said : decode_of (a ++ b) ≡ Ok bytes) where
  parts : (decode_pairs 0 a ≡ Ok (take k bytes)) × ((j : ℕ) × (decode_pairs j b ≡ Ok (drop k bytes)))
  parts = split_pairs k 0 a b bytes la (sym (decode_of-even (a ++ b) (omega (arith, length-append a b))) ∙ said)

  first_said : decode_of a ≡ Ok (take k bytes)
  first_said = decode_of-even a (omega arith) ∙ parts.0

  second_said : decode_of b ≡ Ok (drop k bytes)
  second_said =
      let q = parts.1 in
      decode_of-even b (omega arith) ∙ pairs_spelled 0 b (drop k bytes) (decode_pairs-ok q.0 b (drop k bytes) q.1).2 (pairs_said q.0 b (drop k bytes) q.1)

  all_bytes : length bytes ≡ 2 * k
  all_bytes = omega (arith, length-append a b, (decode_of-ok (a ++ b) bytes said).2)

-- ---- two fields of 8 digits

module _ (a b : List ℕ) (la : length a ≡ 8) (lb : length b ≡ 8) where
  -- where not all are digits, one of the fields says no number
  pub one_says_none : (AllPass is_hex_digit (chunk 0 8 a ++ chunk 0 8 b) → ⊥) → (number_of w32 a ≡ None) ⊎ (number_of w32 b ≡ None)
  one_says_none not_digits = go (list_all is_hex_digit (chunk 0 8 a)) (list_all is_hex_digit (chunk 0 8 b)) refl refl
    where
      go : (p q : Bool) → list_all is_hex_digit (chunk 0 8 a) ≡ p → list_all is_hex_digit (chunk 0 8 b) ≡ q → (number_of w32 a ≡ None) ⊎ (number_of w32 b ≡ None)
      go true true ea eb = absurd (not_digits (AllPass-from_list_all is_hex_digit (chunk 0 8 a ++ chunk 0 8 b) (list_all-append is_hex_digit (chunk 0 8 a) (chunk 0 8 b) ∙ rw (ea, eb) refl)))
      go true false ea eb = inr (no_number w32 b 8 lb (λ digits. cc (sym eb ∙ list_all-from_AllPass is_hex_digit (chunk 0 8 b) digits)))
      go false q ea eb = inl (no_number w32 a 8 la (λ digits. cc (sym ea ∙ list_all-from_AllPass is_hex_digit (chunk 0 8 a) digits)))

  module _ (bytes : List ℕ) (said : decode_of (chunk 0 8 a ++ chunk 0 8 b) ≡ Ok bytes) where
    whole_a : length (chunk 0 8 a) ≡ 2 * 4
    whole_a = length-chunk 0 8 a (omega arith)

    whole_b : length (chunk 0 8 b) ≡ 2 * 4
    whole_b = length-chunk 0 8 b (omega arith)

    long : length bytes ≡ 8
    long = all_bytes (chunk 0 8 a) (chunk 0 8 b) bytes 4 whole_a whole_b said

    -- the first four bytes are the first field's
    pub first_read : number_of w32 a ≡ Some (from_be_bytes w32 (pick_l 0 (bytes ++ bytes) (0 ∷ 1 ∷ 2 ∷ 3 ∷ [])))
    first_read =
        let same : pick_l 0 (bytes ++ bytes) (0 ∷ 1 ∷ 2 ∷ 3 ∷ []) ≡ take 4 bytes = pick_l_left 0 bytes bytes 8 (0 ∷ 1 ∷ 2 ∷ 3 ∷ []) long tt ∙ pick_l-range_with_len 0 bytes 0 4 (omega (arith, long)) in
        number_read w32 a 8 la (take 4 bytes) refl (first_said (chunk 0 8 a) (chunk 0 8 b) bytes 4 whole_a whole_b said) ∙ ap (λ xs. Some (from_be_bytes w32 xs)) (sym same)

    -- the last four are the second's
    pub second_read : number_of w32 b ≡ Some (from_be_bytes w32 (pick_l 0 (bytes ++ bytes) (4 ∷ 5 ∷ 6 ∷ 7 ∷ [])))
    second_read =
        let rest : take 4 (drop 4 bytes) ≡ drop 4 bytes = take_all 4 (drop 4 bytes) (omega (arith, length-drop 4 bytes, long)) in
        let same : pick_l 0 (bytes ++ bytes) (4 ∷ 5 ∷ 6 ∷ 7 ∷ []) ≡ drop 4 bytes = pick_l_left 0 bytes bytes 8 (4 ∷ 5 ∷ 6 ∷ 7 ∷ []) long tt ∙ pick_l-range_with_len 0 bytes 4 4 (omega (arith, long)) ∙ rest in
        number_read w32 b 8 lb (drop 4 bytes) refl (second_said (chunk 0 8 a) (chunk 0 8 b) bytes 4 whole_a whole_b said) ∙ ap (λ xs. Some (from_be_bytes w32 xs)) (sym same)
