-- Digits: what a field says of a number, and what spells the number
use Rattle.line_text.proofs.Words.{◌≡◌, ℕ, zero, suc, ◌+◌, ◌*◌, ◌/◌, ◌%◌, ◌^◌, ◌<◌, ◌==◌, ◌||◌, cond, Bool, true, false, List, [], ◌∷◌, length, slice_index, Option, Some, None, Result, Ok, Err, nat_lt, All, refl, ap, ◌∙◌, arith, unwrap_or, bits, Width, byte_len, to_be_bytes, from_be_bytes, bytes_high_first, w8, w16, w32, w64, is_in_range, result_unwrap_or, to_ascii_lowercase, str_to_ascii_lowercase, agree_below_at, nat_tests, All-cons, All-head, All-nil, All-tail, All-weaker, be_bytes_2, be_bytes_4, be_bytes_8, from_be_bytes-to_be_bytes_2, from_be_bytes-to_be_bytes_4, from_be_bytes-to_be_bytes_8, IsBytes, decode_pairs, decode_sized, digit_or_error, encode_lower, encode_with, hex_digit_value, lower_digits, pair_value, ◌>>=◌, FromHexError, decode_of-even, decode_pairs-ok, decode_sized-ok, decode_sized-twice, length-encode_with, cons_byte, decode_pairs-ok_pair, is_space, digits_of, number_of, number_of_bytes, rules}
use Rattle.std.proofs.lemmas.Bool.{eqb-true}

-- ---- one digit

-- the lower case digit of a number below 16
abbrev pub digit : ℕ → ℕ
digit v = cond (nat_lt v 10) (48 + v) (87 + v)

digit_is : (v : ℕ) → v < 16 → slice_index lower_digits v ≡ digit v
digit_is v small = eqb-true _ _ (agree_below_at (λ n. slice_index lower_digits n == digit n) (λ n. true) 16 v refl small)

-- a digit says its number, in lower case too
digit_said : (c v : ℕ) → hex_digit_value c ≡ Some v → (v < 16) × (to_ascii_lowercase c ≡ digit v)
digit_said c v said = (grind (arith, nat_tests), grind (arith, nat_tests))

digit_spelled : (c v : ℕ) → v < 16 → to_ascii_lowercase c ≡ digit v → hex_digit_value c ≡ Some v
digit_spelled c v small spelled = grind (arith, nat_tests)

-- ---- pairs of digits

-- what two digits and the rest say, where they say something
pub record PairSaid (a b : ℕ) (rest bytes : List ℕ) (i : ℕ) : Type 0 where
  pub high : ℕ
  pub low : ℕ
  pub others : List ℕ
  pub high_is : hex_digit_value a ≡ Some high
  pub low_is : hex_digit_value b ≡ Some low
  pub others_are : decode_pairs (i + 2) rest ≡ Ok others
  pub are : (high * 16 + low) ∷ others ≡ bytes

read_pair : (a b i : ℕ) (oa ob : Option ℕ) (r : Result (List ℕ) FromHexError) (bytes : List ℕ) →
    ((digit_or_error a i oa >>= (λ h. digit_or_error b (i + 1) ob >>= (λ l. Ok (h * 16 + l)))) >>= (λ byte. r >>= (λ rest. Ok (byte ∷ rest)))) ≡ Ok bytes →
    (h : ℕ) × (l : ℕ) × (rest : List ℕ) × (oa ≡ Some h) × (ob ≡ Some l) × (r ≡ Ok rest) × ((h * 16 + l) ∷ rest ≡ bytes)
read_pair a b i (Some h) (Some l) (Ok rest) bytes said = (h, l, rest, refl, refl, refl, ap (λ (r : Result (List ℕ) FromHexError). result_unwrap_or r []) said)
read_pair a b i (Some h) (Some l) (Err e) bytes said = cc said
read_pair a b i (Some h) None r bytes said = cc said
read_pair a b i None ob r bytes said = cc said

pub pair_said : (a b i : ℕ) (rest bytes : List ℕ) → decode_pairs i (a ∷ b ∷ rest) ≡ Ok bytes → PairSaid a b rest bytes i
unfolding decode_pairs
pair_said a b i rest bytes said = search (rules, read_pair a b i (hex_digit_value a) (hex_digit_value b) (decode_pairs (i + 2) rest) bytes said)

pub pairs_said : (i : ℕ) (s bytes : List ℕ) → decode_pairs i s ≡ Ok bytes → str_to_ascii_lowercase s ≡ encode_lower bytes
unfolding decode_pairs encode_with
pairs_said i [] bytes said = ap (λ xs. encode_lower xs) (ap (λ (r : Result (List ℕ) FromHexError). result_unwrap_or r []) said)
pairs_said i (a ∷ []) bytes said = cc said
pairs_said i (a ∷ b ∷ rest) bytes said =
    let p = pair_said a b i rest bytes said in
    let ha = digit_said a p.high p.high_is in
    let hb = digit_said b p.low p.low_is in
    search (rules, pairs_said (i + 2) rest p.others p.others_are, to_ascii_lowercase, slice_index, lower_digits, digit_is, str_to_ascii_lowercase, encode_lower)

bytes_tail : (x : ℕ) (xs : List ℕ) → IsBytes (x ∷ xs) → IsBytes xs
bytes_tail x xs are i = are (suc i)

pub pairs_spelled : (i : ℕ) (s bytes : List ℕ) → IsBytes bytes → str_to_ascii_lowercase s ≡ encode_lower bytes → decode_pairs i s ≡ Ok bytes
unfolding decode_pairs encode_with
pairs_spelled i [] [] are spelled = refl
pairs_spelled i [] (x ∷ xs) are spelled = cc spelled
pairs_spelled i (a ∷ []) [] are spelled = cc spelled
pairs_spelled i (a ∷ []) (x ∷ xs) are spelled = cc spelled
pairs_spelled i (a ∷ b ∷ rest) [] are spelled = cc spelled
pairs_spelled i (a ∷ b ∷ rest) (x ∷ xs) are spelled =
    let byte : x < 256 = are 0 in
    let high : x / 16 < 16 = omega arith in
    let low : x % 16 < 16 = omega arith in
    let first : to_ascii_lowercase a ≡ slice_index lower_digits (x / 16) = cc spelled in
    let second : to_ascii_lowercase b ≡ slice_index lower_digits (x % 16) = cc spelled in
    let others : str_to_ascii_lowercase rest ≡ encode_lower xs = cc spelled in
    let ha = digit_spelled a (x / 16) high (first ∙ digit_is (x / 16) high) in
    let hb = digit_spelled b (x % 16) low (second ∙ digit_is (x % 16) low) in
    let pair : pair_value a b i ≡ Ok (x / 16 * 16 + x % 16) = rw (ap (digit_or_error a i) ha, ap (digit_or_error b (i + 1)) hb) refl in
    search (rules, pairs_spelled (i + 2) rest xs (bytes_tail x xs are) others, bytes_tail, are, others, decode_pairs-ok_pair, cons_byte, Ok)

-- ---- the bytes of a number

byte_fits : (i n : ℕ) → slice_index (bytes_high_first (suc i) n) 0 < 256
byte_fits i n = grind arith

high_first_bytes : (k n : ℕ) → IsBytes (bytes_high_first k n)
high_first_bytes zero n i = omega arith
high_first_bytes (suc k) n zero = byte_fits k n
high_first_bytes (suc k) n (suc i) = high_first_bytes k n i

high_first_length : (k n : ℕ) → length (bytes_high_first k n) ≡ k
high_first_length zero n = refl
high_first_length (suc k) n = ap suc (high_first_length k n)

-- numbers of this width and its bytes stand for each other
pub record HasBytes (w : Width) : Type 0 where
  pub fits : (bytes : List ℕ) → length bytes ≡ byte_len w → IsBytes bytes → from_be_bytes w bytes < 2 ^ bits w
  pub written : (bytes : List ℕ) → length bytes ≡ byte_len w → IsBytes bytes → to_be_bytes w (from_be_bytes w bytes) ≡ bytes
  pub read : (n : ℕ) → n < 2 ^ bits w → from_be_bytes w (to_be_bytes w n) ≡ n

one_byte : (bytes : List ℕ) → length bytes ≡ 1 → IsBytes bytes → (slice_index bytes 0 % 256) ∷ [] ≡ bytes
one_byte [] one are = absurd (omega arith)
one_byte (b ∷ []) one are = let small : b < 256 = are 0 in let same : b % 256 ≡ b = omega arith in ap (λ x. x ∷ []) same
one_byte (b ∷ c ∷ rest) one are = absurd (omega arith)

pub bytes_of_8 : HasBytes w8
bytes_of_8 = grind (arith, one_byte)

pub bytes_of_16 : HasBytes w16
bytes_of_16 = grind (arith, be_bytes_2, from_be_bytes-to_be_bytes_2)

pub bytes_of_32 : HasBytes w32
bytes_of_32 = grind (arith, be_bytes_4, from_be_bytes-to_be_bytes_4)

pub bytes_of_64 : HasBytes w64
bytes_of_64 = grind (arith, be_bytes_8, from_be_bytes-to_be_bytes_8)

-- ---- fields

read_number : (w : Width) (r : Result (List ℕ) FromHexError) (n : ℕ) → number_of_bytes w r ≡ Some n → (bytes : List ℕ) × (r ≡ Ok bytes) × (from_be_bytes w bytes ≡ n)
read_number w r n said = grind (arith, Option, unwrap_or)

module _ (w : Width) (has : HasBytes w) where
  -- a field that says a number is its digits, where letters are lower case
  pub said : (field : List ℕ) (n : ℕ) → number_of w field ≡ Some n → (str_to_ascii_lowercase field ≡ digits_of w n) × (n < 2 ^ bits w)
  unfolding number_of digits_of
  said field n says =
      let p = read_number w (decode_sized field (byte_len w)) n says in
      let l = decode_sized-ok field (byte_len w) p.0 p.1 in
      search (rules, length, decode_pairs, Ok, decode_of-even, decode_sized-twice, byte_len, decode_pairs-ok, to_be_bytes, bits, pairs_said, encode_lower)

  -- the digits of a number, of either case, say it
  pub spelled : (field : List ℕ) (n : ℕ) → n < 2 ^ bits w → str_to_ascii_lowercase field ≡ digits_of w n → number_of w field ≡ Some n
  unfolding number_of digits_of
  spelled field n small spells =
      let bytes = to_be_bytes w n in
      let are : IsBytes bytes = high_first_bytes (byte_len w) n in
      let len : length bytes ≡ byte_len w = high_first_length (byte_len w) n in
      let same : length (str_to_ascii_lowercase field) ≡ length field = length-lower field in
      let l : length field ≡ 2 * byte_len w = omega (arith, len, same, ap length spells, length-encode_with lower_digits bytes) in
      let even : length field % 2 ≡ 0 = omega (arith, l) in
      let pairs = pairs_spelled 0 field bytes are spells in
      search (rules, decode_sized, byte_len, Ok, decode_sized-twice, decode_of-even, number_of_bytes, Some)
    where
      length-lower : (xs : List ℕ) → length (str_to_ascii_lowercase xs) ≡ length xs
      length-lower [] = refl
      length-lower (x ∷ xs) = ap suc (length-lower xs)

-- ---- the characters of a number's digits

-- a lower case digit
abbrev pub is_lower_digit : ℕ → Bool
is_lower_digit c = is_in_range 48 57 c || is_in_range 97 102 c

digit_is_lower : (v : ℕ) → v < 16 → is_lower_digit (slice_index lower_digits v) ≡ true
digit_is_lower v small = agree_below_at (λ n. is_lower_digit (slice_index lower_digits n)) (λ n. true) 16 v refl small

encoded_digits : (xs : List ℕ) → IsBytes xs → All (λ c. is_lower_digit c ≡ true) (encode_lower xs)
unfolding encode_with
encoded_digits [] are = All-nil (λ c. is_lower_digit c ≡ true)
encoded_digits (x ∷ xs) are =
    search (rules, are 0, All-cons, slice_index, lower_digits, encode_lower, digit_is_lower, bytes_tail, encoded_digits xs (bytes_tail x xs are))

pub digits_are_lower : (w : Width) (n : ℕ) → All (λ c. is_lower_digit c ≡ true) (digits_of w n)
unfolding digits_of
digits_are_lower w n = encoded_digits (to_be_bytes w n) (high_first_bytes (byte_len w) n)

pub digits_without_space : (w : Width) (n : ℕ) → All (λ c. is_space c ≡ false) (digits_of w n)
digits_without_space w n = All-weaker (λ c. is_lower_digit c ≡ true) (λ c. is_space c ≡ false) (λ c lower. grind (arith, nat_tests)) (digits_of w n) (digits_are_lower w n)

lower_stays : (xs : List ℕ) → All (λ c. is_lower_digit c ≡ true) xs → str_to_ascii_lowercase xs ≡ xs
lower_stays [] are = refl
lower_stays (x ∷ xs) are = grind (arith, All-head, All-tail, nat_tests, lower_stays xs (All-tail (λ c. is_lower_digit c ≡ true) x xs are))

pub digits_stay_lower : (w : Width) (n : ℕ) → str_to_ascii_lowercase (digits_of w n) ≡ digits_of w n
digits_stay_lower w n = lower_stays (digits_of w n) (digits_are_lower w n)

pub length-digits_of : (w : Width) (n : ℕ) → length (digits_of w n) ≡ 2 * byte_len w
unfolding digits_of
length-digits_of w n = length-encode_with lower_digits (to_be_bytes w n) ∙ ap (λ k. 2 * k) (high_first_length (byte_len w) n)
