-- Fields of a line, and how they are written
use Rattle.trace_reader.proofs.Words.{common_steps, rules, ◌≡◌, ◌+◌, ◌<◌, ◌^◌, ◌∷◌, ◌++◌, ◌∙◌, ℕ, Bool, true, false, List, [], length, map, cond, Option, Some, None, All, refl, ap, arith, Width, byte_len, option_and_then, bytes_eq, str_to_ascii_lowercase, and_parts, and_from, nat_tests, bytes_eq-Decides, All-weaker, All-cons, All-nil, is_empty, has_empty_field, digits_of, number_of, HasBytes, said, spelled, digits_are_lower, digits_stay_lower, length-digits_of, is_lower_digit, spaced_length, Field, Word, Digits, printed, may_be_written, are_written, both, bits}
use Rattle.std.proofs.Common.{option_map}

-- ---- tests and options

pub same_bytes : (xs ys : List ℕ) → bytes_eq xs ys ≡ true → xs ≡ ys
same_bytes xs ys same = (bytes_eq-Decides xs ys).0 same

pub are_same_bytes : (xs ys : List ℕ) → xs ≡ ys → bytes_eq xs ys ≡ true
are_same_bytes xs ys same = (bytes_eq-Decides xs ys).1 same

module _ {A B C : Type 0} where
  pub both_there : (f : A → B → C) (x : Option A) (y : Option B) (c : C) → both f x y ≡ Some c → (a : A) × (b : B) × (x ≡ Some a) × (y ≡ Some b) × (f a b ≡ c)
  both_there f x y c is = search rules

  pub both_of : (f : A → B → C) (x : Option A) (y : Option B) (a : A) (b : B) → x ≡ Some a → y ≡ Some b → both f x y ≡ Some (f a b)
  both_of f x y a b is is' = rw (is, is') refl

module _ {A B : Type 0} where
  pub mapped_there : (f : A → B) (x : Option A) (b : B) → option_map f x ≡ Some b → (a : A) × (x ≡ Some a) × (f a ≡ b)
  mapped_there f x b is = search rules

  pub then_there : (f : A → Option B) (x : Option A) (b : B) → option_and_then f x ≡ Some b → (a : A) × (x ≡ Some a) × (f a ≡ Some b)
  then_there f x b is = search rules

pub cond_there : {A : Type 0} (t : Bool) (a b : A) → cond t (Some a) None ≡ Some b → (t ≡ true) × (a ≡ b)
cond_there t a b is = search rules

-- ---- one field

-- at least one character, no space and no line feed, and digits are printed in lower case
pub record IsSound (field : Field) : Type 0 where
  pub some : 0 < length (printed field)
  pub plain : All (λ c. 32 < c) (printed field)
  pub writes : may_be_written field (printed field) ≡ true

pub sound_word : (word : List ℕ) → 0 < length word → All (λ c. 32 < c) word → IsSound (Word word)
sound_word word some plain = record { some = some; plain = plain; writes = are_same_bytes word word refl }

above_space : (c : ℕ) → is_lower_digit c ≡ true → 32 < c
above_space c lower = grind (arith, nat_tests)

pub plain_digits : (w : Width) (n : ℕ) → All (λ c. 32 < c) (digits_of w n)
plain_digits w n = All-weaker (λ c. is_lower_digit c ≡ true) (λ c. 32 < c) above_space (digits_of w n) (digits_are_lower w n)

pub sound_digits : (w : Width) (n : ℕ) → 0 < byte_len w → IsSound (Digits (digits_of w n))
sound_digits w n some = grind (arith, length-digits_of, plain_digits, are_same_bytes, digits_stay_lower)

written_length : (field : Field) (text : List ℕ) → may_be_written field text ≡ true → length text ≡ length (printed field)
written_length field text written = grind (arith, common_steps, same_bytes)

-- a number's field is written so where it says the number
pub number_written : (w : Width) (has : HasBytes w) (text : List ℕ) (n : ℕ) → number_of w text ≡ Some n → (may_be_written (Digits (digits_of w n)) text ≡ true) × (n < 2 ^ bits w)
number_written w has text n says = (are_same_bytes (str_to_ascii_lowercase text) (digits_of w n) (said w has text n says).0, (said w has text n says).1)

pub number_read : (w : Width) (has : HasBytes w) (text : List ℕ) (n : ℕ) → n < 2 ^ bits w → may_be_written (Digits (digits_of w n)) text ≡ true → number_of w text ≡ Some n
number_read w has text n small written = spelled w has text n small (same_bytes (str_to_ascii_lowercase text) (digits_of w n) written)

-- ---- the fields of a line

abbrev pub AllSound : List Field → Type 0
AllSound [] = Unit {0}
AllSound (field ∷ fields) = IsSound field × AllSound fields

pub sound_append : (xs ys : List Field) → AllSound xs → AllSound ys → AllSound (xs ++ ys)
sound_append [] ys of_xs of_ys = of_ys
sound_append (x ∷ xs) ys of_xs of_ys = (of_xs.0, sound_append xs ys of_xs.1 of_ys)

pub sound_map : {A : Type 0} (f : A → Field) → ((a : A) → IsSound (f a)) → (xs : List A) → AllSound (map f xs)
sound_map f sound [] = tt
sound_map f sound (x ∷ xs) = (sound x, sound_map f sound xs)

written_filled : (field : Field) (text : List ℕ) → IsSound field → may_be_written field text ≡ true → is_empty text ≡ false
written_filled field text sound written = search (rules, written_length)

-- no field of theirs is empty
pub all_filled : (fields : List Field) (texts : List (List ℕ)) → AllSound fields → are_written fields texts ≡ true → has_empty_field texts ≡ false
all_filled [] [] sound written = refl
all_filled [] (text ∷ texts) sound written = cc written
all_filled (field ∷ fields) [] sound written = refl
all_filled (field ∷ fields) (text ∷ texts) sound written =
    let parts = and_parts (may_be_written field text) (are_written fields texts) written in
    rw (written_filled field text sound.0 parts.0) (all_filled fields texts sound.1 parts.1)

-- they are as long as they are printed
pub written_lengths : (fields : List Field) (texts : List (List ℕ)) → are_written fields texts ≡ true → spaced_length texts ≡ spaced_length (map printed fields)
written_lengths [] [] written = refl
written_lengths [] (text ∷ texts) written = cc written
written_lengths (field ∷ fields) [] written = cc written
written_lengths (field ∷ fields) (text ∷ texts) written =
    let parts = and_parts (may_be_written field text) (are_written fields texts) written in
    omega (arith, written_length field text parts.0, written_lengths fields texts parts.1)

pub written_as_printed : (fields : List Field) → AllSound fields → are_written fields (map printed fields) ≡ true
written_as_printed [] sound = refl
written_as_printed (field ∷ fields) sound = and_from (may_be_written field (printed field)) (are_written fields (map printed fields)) sound.0.writes (written_as_printed fields sound.1)

pub plain_fields : (fields : List Field) → AllSound fields → All (λ text. All (λ c. 32 < c) text) (map printed fields)
plain_fields [] sound = All-nil (λ text. All (λ c. 32 < c) text)
plain_fields (field ∷ fields) sound = All-cons (λ text. All (λ c. 32 < c) text) (printed field) (map printed fields) sound.0.plain (plain_fields fields sound.1)

pub spaced_length-append : (xs ys : List (List ℕ)) → spaced_length (xs ++ ys) ≡ spaced_length xs + spaced_length ys
spaced_length-append [] ys = omega arith
spaced_length-append (x ∷ xs) ys = let ih = spaced_length-append xs ys in omega (arith, ih)

-- a list by its first element and by what is known of the rest
pub then_are : {first : List ℕ} {texts rest these : List (List ℕ)} → texts ≡ first ∷ rest → rest ≡ these → texts ≡ first ∷ these
then_are {first} is rest_is = is ∙ ap (λ (xs : List (List ℕ)). first ∷ xs) rest_is
