-- Words of a line, and the values of single fields
use Rattle.trace_reader.proofs.LowerLaws.{rules, ◌≡◌, ◌≢◌, ◌*◌, ◌%◌, ◌<◌, ◌^◌, ◌∷◌, ◌∙◌, ℕ, inl, inr, true, List, [], length, Some, refl, ap, subst, eq-eqb, w64, bytes_eq, and_parts, cases_Bool, number_of, ring_name, Block, RingKind, is_wide, register_name, Register, Usbcmd, Usbsts, Dnctrl, Crcr, Dcbaap, Config, Iman, Imod, Erstsz, Erstba, Erdp, are_blocks, kind_named, named, register_named, Field, Word, may_be_written, are_written, register_value_of, word_address_of, same_bytes, cond_there, then_there, then_are, only}

-- ---- words

pub kind_word : (word : List ℕ) (kind : RingKind) → kind_named word ≡ Some kind → bytes_eq word (ring_name kind) ≡ true
unfolding kind_named
kind_word word kind is = search rules

pub word_kind : (word : List ℕ) (kind : RingKind) → bytes_eq word (ring_name kind) ≡ true → kind_named word ≡ Some kind
unfolding kind_named
word_kind word kind is = ap (λ (w : List ℕ). kind_named w) (same_bytes word (ring_name kind) is) ∙ (search rules)

named_word : (word : List ℕ) (registers : List Register) (register : Register) → named word registers ≡ Some register → bytes_eq word (register_name register) ≡ true
named_word word [] register is = cc is
named_word word (r ∷ rest) register is =
    elim (cases_Bool (bytes_eq word (register_name r))) [
      | inl here ↦ let k : r ≡ register = cc (rw here at is) in subst (λ (q : Register). bytes_eq word (register_name q) ≡ true) k here
      | inr other ↦ named_word word rest register (rw other at is)
    ]

pub register_word : (word : List ℕ) (register : Register) → register_named word ≡ Some register → bytes_eq word (register_name register) ≡ true
unfolding register_named
register_word word register is = named_word word (Usbcmd ∷ Usbsts ∷ Dnctrl ∷ Crcr ∷ Dcbaap ∷ Config ∷ Iman ∷ Imod ∷ Erstsz ∷ Erstba ∷ Erdp ∷ []) register is

pub word_register : (word : List ℕ) (register : Register) → bytes_eq word (register_name register) ≡ true → register_named word ≡ Some register
unfolding register_named
word_register word register is = ap (λ (w : List ℕ). register_named w) (same_bytes word (register_name register) is) ∙ (search rules)

-- ---- addresses and register values

pub address_there : (field : List ℕ) (a : ℕ) → word_address_of field ≡ Some a → (number_of w64 field ≡ Some a) × (a % 4 ≡ 0)
unfolding word_address_of
address_there field a is = search (rules, then_there, cond_there)

pub address_of_number : (field : List ℕ) (a : ℕ) → number_of w64 field ≡ Some a → a % 4 ≡ 0 → word_address_of field ≡ Some a
unfolding word_address_of
address_of_number field a is four = rw (is, eq-eqb (a % 4) 0 four) refl

pub value_there : (register : Register) (field : List ℕ) (v : ℕ) → register_value_of register field ≡ Some v → (number_of w64 field ≡ Some v) × (is_wide register ≢ true → v < 2 ^ 32)
unfolding register_value_of
value_there register field v is = search (rules, then_there, cond_there)

pub value_of_number : (register : Register) (field : List ℕ) (v : ℕ) → number_of w64 field ≡ Some v → (is_wide register ≢ true → v < 2 ^ 32) → register_value_of register field ≡ Some v
unfolding register_value_of
value_of_number register field v is small = search rules

-- ---- fields in a row

pub some_blocks : (words : List (List ℕ)) (blocks : List Block) → are_blocks words ≡ true → length words ≡ 4 * length blocks → 0 < length blocks
some_blocks words blocks are four = search rules

pub two_written : (f g : Field) (a b : List ℕ) → may_be_written f a ≡ true → may_be_written g b ≡ true → are_written (f ∷ g ∷ []) (a ∷ b ∷ []) ≡ true
two_written f g a b is is' = rw (is, is') refl

-- the first of the fields, and the rest
pub record First (field : Field) (fields : List Field) (texts : List (List ℕ)) : Type 0 where
  pub text : List ℕ
  pub rest : List (List ℕ)
  pub are : texts ≡ text ∷ rest
  pub first : may_be_written field text ≡ true
  pub others : are_written fields rest ≡ true

pub first_of : (field : Field) (fields : List Field) (texts : List (List ℕ)) → are_written (field ∷ fields) texts ≡ true → First field fields texts
first_of field fields texts written = search (rules, and_parts)

pub word_first : (word : List ℕ) (fields : List Field) (texts : List (List ℕ)) → are_written (Word word ∷ fields) texts ≡ true →
    (rest : List (List ℕ)) × (texts ≡ word ∷ rest) × (are_written fields rest ≡ true)
word_first word fields texts written = search (rules, first_of, same_bytes)

-- two fields, and no more
pub record Two (f g : Field) (texts : List (List ℕ)) : Type 0 where
  pub a : List ℕ
  pub b : List ℕ
  pub are : texts ≡ a ∷ b ∷ []
  pub first : may_be_written f a ≡ true
  pub second : may_be_written g b ≡ true

pub two_of : (f g : Field) (texts : List (List ℕ)) → are_written (f ∷ g ∷ []) texts ≡ true → Two f g texts
two_of f g texts written = search (rules, first_of, only, then_are)

pub four_for_each : (words : List (List ℕ)) (blocks : List Block) → 0 < length blocks → length words ≡ 4 * length blocks → are_blocks words ≡ true
four_for_each words blocks some four = search rules
