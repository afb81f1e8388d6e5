-- DigitLanes: what is computed of hex digits lane by lane, held to what each digit says
use Rattle.line_text.proofs.Words.{◌≡◌, ℕ, zero, suc, ◌+◌, ◌-◌, ◌*◌, ◌%◌, ◌^◌, ◌<◌, ◌≤◌, ◌↔◌, ◌||◌, Bool, true, not, cond, eqb, ltb, leb, List, [], ◌∷◌, ◌++◌, map, length, get_or, replicate, bit_and, bit_or, Option, Some, None, unwrap_or, is_some, Result, Ok, Err, refl, sym, subst, ap, ap₂, ◌∙◌, arith, Fits, eqb-true, eq-eqb, Width, byte_len, from_be_bytes, AllPass, list_all, range_with_len, agree_below_at, and_parts, length-map, take_all, AllPass-from_list_all, list_all-from_AllPass, zip2_splat, zip2_of_maps, splat_is_map, mask_l-mod, pick_l_whole, zip2, sel_l, mask_l, top, pick_l, chunk, Each1, decode_of, decode_pairs, decode_sized, hex_digit_value, is_hex_digit, FromHexError, IsOk-decode_sized, decode_of-even, decode_sized-twice, cons_byte, decode_pairs-ok_pair, number_of, number_of_bytes, rules}
use Rattle.std.proofs.Common.{w8}

-- ---- one lane

abbrev pub less : ℕ → ℕ → ℕ
less a b = (a + (256 - b)) % 256

abbrev pub at_most : ℕ → ℕ → ℕ
at_most a b = cond (leb a b) 255 0

abbrev pub below : ℕ → ℕ → ℕ
below a b = cond (ltb a b) 255 0

-- all ones where the character is no digit
abbrev no_digit : ℕ → ℕ
no_digit c = bit_and (at_most 10 (less c 48)) (at_most 6 (less (bit_or c 32) 97))

-- the smaller of how far a character is above `0`, and how far its lower case is above what stands ten before `a`
abbrev value : ℕ → ℕ
value c = cond (top 7 (below (less c 48) (less (bit_or c 32) 87))) (less c 48) (less (bit_or c 32) 87)

no_digit_is : (c : ℕ) → c < 256 → top 7 (no_digit c) ≡ not (is_hex_digit c)
no_digit_is c small = agree_below_at (λ n. top 7 (no_digit n)) (λ n. not (is_hex_digit n)) 256 c refl small

said : (o : Option ℕ) (n : ℕ) → (not (is_some o) || eqb (unwrap_or o 99) n) ≡ true → is_some o ≡ true → o ≡ Some n
said (Some v) n e s = ap Some (eqb-true v n e)
said None n e s = cc s

value_is : (c : ℕ) → c < 256 → is_hex_digit c ≡ true → hex_digit_value c ≡ Some (value c)
value_is c small digit =
    said (hex_digit_value c) (value c) (agree_below_at (λ n. not (is_hex_digit n) || eqb (unwrap_or (hex_digit_value n) 99) (value n)) (λ n. true) 256 c refl small) digit

-- ---- all lanes

no_digits : (v : List ℕ) → Each1 (Fits w8) v → map (top 7) (map no_digit v) ≡ map (λ c. not (is_hex_digit c)) v
no_digits [] fits = refl
no_digits (x ∷ xs) fits = ap₂ (λ a b. a ∷ b) (no_digit_is x fits.0.fits) (no_digits xs fits.1)

none_is_set : (p : ℕ → Bool) (v : List ℕ) → (mask_l (map (λ c. not (p c)) v) ≡ 0) ↔ (list_all p v ≡ true)
none_is_set p [] = (λ e. refl, λ e. refl)
none_is_set p (x ∷ xs) = search (rules, cond, not, none_is_set p xs)

module _ (v : List ℕ) (n : ℕ) (long : length v ≡ n) where
  from_splat : (y : ℕ) → replicate n y ≡ map (λ _. y) v
  from_splat y = splat_is_map v n y long

  above_zero : zip2 less v (replicate n 48) ≡ map (λ c. less c 48) v
  above_zero = zip2_splat less v n 48 long

  lower_less : (y : ℕ) → zip2 less (zip2 bit_or v (replicate n 32)) (replicate n y) ≡ map (λ c. less (bit_or c 32) y) v
  lower_less y = zip2_of_maps less (λ c. bit_or c 32) (λ _. y) v (zip2_splat bit_or v n 32 long) (from_splat y)

  marked : zip2 bit_and (zip2 at_most (replicate n 10) (zip2 less v (replicate n 48))) (zip2 at_most (replicate n 6) (zip2 less (zip2 bit_or v (replicate n 32)) (replicate n 97))) ≡ map no_digit v
  marked =
      zip2_of_maps bit_and (λ c. at_most 10 (less c 48)) (λ c. at_most 6 (less (bit_or c 32) 97)) v
      (zip2_of_maps at_most (λ _. 10) (λ c. less c 48) v (from_splat 10) above_zero)
      (zip2_of_maps at_most (λ _. 6) (λ c. less (bit_or c 32) 97) v (from_splat 6) (lower_less 97))

-- no lane is marked where each character is a digit, and only there
pub are_digits : (v : List ℕ) (n : ℕ) → n ≤ 64 → (length v ≡ n) × Each1 (Fits w8) v
    → (eqb (mask_l (map (top 7) (zip2 bit_and (zip2 at_most (replicate n 10) (zip2 less v (replicate n 48))) (zip2 at_most (replicate n 6) (zip2 less (zip2 bit_or v (replicate n 32)) (replicate n 97))))) % 2 ^ 64) 0 ≡ true)
    ↔ AllPass is_hex_digit v
are_digits v n few fits =
    let p = λ (c : ℕ). not (is_hex_digit c) in
    let e = ap (λ l. mask_l (map (top 7) l) % 2 ^ 64) (marked v n fits.0) ∙ ap (λ l. mask_l l % 2 ^ 64) (no_digits v fits.1) ∙ mask_l-mod (map p v) 64 (omega (arith, length-map v p, fits.0)) in
    let both = none_is_set is_hex_digit v in grind (arith, AllPass-from_list_all, eqb-true, eq-eqb, list_all-from_AllPass)

smaller : (f g : ℕ → ℕ) (v : List ℕ) → sel_l (map (top 7) (zip2 below (map f v) (map g v))) (map f v) (map g v) ≡ map (λ c. cond (top 7 (below (f c) (g c))) (f c) (g c)) v
smaller f g [] = refl
smaller f g (x ∷ xs) = ap (λ l. cond (top 7 (below (f x) (g x))) (f x) (g x) ∷ l) (smaller f g xs)

each_value : (v : List ℕ) → Each1 (Fits w8) v → list_all is_hex_digit v ≡ true → map hex_digit_value v ≡ map (λ (n : ℕ). Some n) (map value v)
each_value [] fits all = refl
each_value (x ∷ xs) fits all =
    let both = and_parts (is_hex_digit x) (list_all is_hex_digit xs) all in
    ap₂ (λ a b. a ∷ b) (value_is x fits.0.fits both.0) (each_value xs fits.1 both.1)

-- the smaller of the two is the value of a digit
pub values : (v : List ℕ) (n : ℕ) → (length v ≡ n) × Each1 (Fits w8) v → AllPass is_hex_digit v
    → map hex_digit_value v ≡ map (λ (n : ℕ). Some n) (sel_l (map (top 7) (zip2 below (zip2 less v (replicate n 48)) (zip2 less (zip2 bit_or v (replicate n 32)) (replicate n 87)))) (zip2 less v (replicate n 48)) (zip2 less (zip2 bit_or v (replicate n 32)) (replicate n 87)))
values v n fits digits = search (rules, each_value, list_all-from_AllPass, is_hex_digit, map, Some, smaller, bit_or, sel_l, top, zip2, above_zero, lower_less)

-- ---- pairs of lanes

-- the bytes of digits' values, the high ones first
abbrev joined : List ℕ → List ℕ
joined [] = []
joined (high ∷ []) = []
joined (high ∷ low ∷ rest) = (high * 16 + low) ∷ joined rest

pairs_are : (i : ℕ) (s ns : List ℕ) → length s % 2 ≡ 0 → map hex_digit_value s ≡ map (λ (n : ℕ). Some n) ns → decode_pairs i s ≡ Ok (joined ns)
unfolding decode_pairs
pairs_are i [] [] even say = refl
pairs_are i [] (n ∷ ns) even say = cc say
pairs_are i (a ∷ []) ns even say = absurd (omega arith)
pairs_are i (a ∷ b ∷ rest) [] even say = cc say
pairs_are i (a ∷ b ∷ rest) (h ∷ []) even say = cc say
pairs_are i (a ∷ b ∷ rest) (h ∷ l ∷ ns) even say =
    let high : hex_digit_value a ≡ Some h = cc say in
    let low : hex_digit_value b ≡ Some l = cc say in
    let others : map hex_digit_value rest ≡ map (λ (n : ℕ). Some n) ns = cc say in
    grind (arith, Ok, decode_pairs-ok_pair, cons_byte, pairs_are (i + 2) rest ns (omega arith) others)

digit_is_small : (c n : ℕ) → hex_digit_value c ≡ Some n → n < 16
digit_is_small c n says = grind arith

all_small : (s ns : List ℕ) → map hex_digit_value s ≡ map (λ (n : ℕ). Some n) ns → (k : ℕ) → get_or ns k 0 < 16
all_small s [] say k = omega arith
all_small [] (n ∷ ns) say k = cc say
all_small (c ∷ s) (n ∷ ns) say zero = digit_is_small c n (cc say)
all_small (c ∷ s) (n ∷ ns) say (suc k) = all_small s ns (cc say) k

module _ (s ns : List ℕ) (say : map hex_digit_value s ≡ map (λ (n : ℕ). Some n) ns) where
  same_length : length ns ≡ length s
  same_length = sym (length-map ns (λ (n : ℕ). Some n)) ∙ ap length (sym say) ∙ length-map s hex_digit_value

  -- the bytes of the pairs of values at these places
  no_carry : (ps : List ℕ) → map (λ p. (get_or ns (2 * p) 0 * 16 % 256 + get_or ns (2 * p + 1) 0) % 256) ps ≡ map (λ p. get_or ns (2 * p) 0 * 16 + get_or ns (2 * p + 1) 0) ps
  no_carry [] = refl
  no_carry (p ∷ ps) = search (rules, all_small, ap₂, no_carry ps)

  module _ (many : length s % 2 ≡ 0) where
    decoded : decode_of s ≡ Ok (joined ns)
    decoded = decode_of-even s many ∙ pairs_are 0 s ns many say

abbrev plus : ℕ → ℕ → ℕ
plus a b = (a + b) % 256

abbrev times : ℕ → ℕ → ℕ
times a b = a * b % 256

abbrev combined_8 : List ℕ → List ℕ
combined_8 ns = zip2 plus (zip2 times (pick_l 0 (ns ++ ns) (0 ∷ 2 ∷ 4 ∷ 6 ∷ [])) (replicate 4 16)) (pick_l 0 (ns ++ ns) (1 ∷ 3 ∷ 5 ∷ 7 ∷ []))

abbrev combined_16 : List ℕ → List ℕ
combined_16 ns = zip2 plus (zip2 times (pick_l 0 (ns ++ ns) (0 ∷ 2 ∷ 4 ∷ 6 ∷ 8 ∷ 10 ∷ 12 ∷ 14 ∷ [])) (replicate 8 16)) (pick_l 0 (ns ++ ns) (1 ∷ 3 ∷ 5 ∷ 7 ∷ 9 ∷ 11 ∷ 13 ∷ 15 ∷ []))

pub bytes_8 : (s ns : List ℕ) → length s ≡ 8 → map hex_digit_value s ≡ map (λ (n : ℕ). Some n) ns → decode_of s ≡ Ok (combined_8 ns)
bytes_8 s ns long say =
    let same : pick_l 0 ns (range_with_len 0 8) ≡ ns = pick_l_whole 0 ns 8 (same_length s ns say ∙ long) in
    decoded s ns say (omega arith) ∙ ap Ok (subst (λ l. joined l ≡ combined_8 l) same (sym (no_carry s ns say (0 ∷ 1 ∷ 2 ∷ 3 ∷ []))))

pub bytes_16 : (s ns : List ℕ) → length s ≡ 16 → map hex_digit_value s ≡ map (λ (n : ℕ). Some n) ns → decode_of s ≡ Ok (combined_16 ns)
bytes_16 s ns long say =
    let same : pick_l 0 ns (range_with_len 0 16) ≡ ns = pick_l_whole 0 ns 16 (same_length s ns say ∙ long) in
    decoded s ns say (omega arith) ∙ ap Ok (subst (λ l. joined l ≡ combined_16 l) same (sym (no_carry s ns say (0 ∷ 1 ∷ 2 ∷ 3 ∷ 4 ∷ 5 ∷ 6 ∷ 7 ∷ []))))

-- ---- the numbers of fields that are loaded whole

module _ (w : Width) (field : List ℕ) (n : ℕ) (long : length field ≡ n) where
  loaded : chunk 0 n field ≡ field
  loaded = take_all n field (omega arith)

  -- what isn't all digits says no number
  pub no_number : (AllPass is_hex_digit (chunk 0 n field) → ⊥) → number_of w field ≡ None
  unfolding number_of
  no_number not_digits = go (decode_sized field (byte_len w)) refl
    where
      go : (r : Result (List ℕ) FromHexError) → decode_sized field (byte_len w) ≡ r → number_of_bytes w r ≡ None
      go (Ok bytes) e = absurd (not_digits (rw loaded ((IsOk-decode_sized field (byte_len w)).0 (rw e refl)).1))
      go (Err fault) e = refl

  -- what is says the number of its bytes
  pub number_read : (bytes : List ℕ) → n ≡ 2 * byte_len w → decode_of (chunk 0 n field) ≡ Ok bytes → number_of w field ≡ Some (from_be_bytes w bytes)
  unfolding number_of
  number_read bytes whole e = ap (number_of_bytes w) (decode_sized-twice field (byte_len w) (omega arith) ∙ rw loaded at e)
