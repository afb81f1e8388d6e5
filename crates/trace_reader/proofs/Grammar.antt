-- The one law of lines that are data: what is read of a line is spelled by it, and what is spelled is read
use Rattle.trace_reader.proofs.LowerLaws.{rules, ◌≡◌, ◌≢◌, ◌<◌, ◌^◌, ◌∷◌, ◌∙◌, ℕ, inl, inr, true, false, List, [], length, map, Some, All, refl, sym, ap, subst, arith, eq-eqb, w8, w32, w64, is_some, flat_map, option_map, option_and_then, bytes_eq, and_parts, and_from, cases_Bool, digits_of, bytes_of_8, bytes_of_32, bytes_of_64, IsBlock, ring_name, is_wide, register_name, IsWordAddress, register_named, Kind, Byte, Long, WordAddress, KindOfRing, Tail, Nothing, Event, RegisterValue, Blocks, Segments, Told, Behind, Values, is_known, are_behind, are_fields, told, values, FormOf, form_as, line_named, value_in, Field, Word, Digits, may_be_written, are_written, block_fields, segment_field, register_value_of, Xfer, both_there, both_of, mapped_there, then_there, cond_there, same_bytes, are_same_bytes, number_written, number_read, FitsSegment, segments_written, segments_read, blocks_written, blocks_read, event_written, event_read, only}
use Rattle.trace_reader.specs.Grammar.{behind, Line, Number, form_in}
use Rattle.trace_reader.proofs.SpelledWords.{address_there, address_of_number, two_of, two_written, kind_word, word_kind, register_word, word_register, value_there, value_of_number, some_blocks, four_for_each}

-- ---- one field

abbrev pub Fits : (k : Kind) → Told k → Type 0
Fits Byte n = n < 2 ^ 8
Fits Number n = n < 2 ^ 32
Fits Long n = n < 2 ^ 64
Fits WordAddress n = IsWordAddress n
Fits (KindOfRing true) kind = Unit {0}
Fits (KindOfRing false) kind = kind ≡ Xfer

abbrev pub kind_field : (k : Kind) → Told k → Field
kind_field Byte n = Digits (digits_of w8 n)
kind_field Number n = Digits (digits_of w32 n)
kind_field Long n = Digits (digits_of w64 n)
kind_field WordAddress n = Digits (digits_of w64 n)
kind_field (KindOfRing any) kind = Word (ring_name kind)

told_written : (k : Kind) (field : List ℕ) (v : Told k) → told k field ≡ Some v → (may_be_written (kind_field k v) field ≡ true) × Fits k v
told_written Byte field v is = number_written w8 bytes_of_8 field v is
told_written Number field v is = number_written w32 bytes_of_32 field v is
told_written Long field v is = number_written w64 bytes_of_64 field v is
told_written WordAddress field v is =
    let n = number_written w64 bytes_of_64 field v (address_there field v is).0 in
    (n.0, ((address_there field v is).1, n.1))
told_written (KindOfRing true) field v is = (kind_word field v is, tt)
told_written (KindOfRing false) field v is = search (rules, cond_there)

told_read : (k : Kind) (field : List ℕ) (v : Told k) → Fits k v → may_be_written (kind_field k v) field ≡ true → (told k field ≡ Some v) × (is_known k field ≡ true)
told_read Byte field v fits is = (number_read w8 bytes_of_8 field v fits is, refl)
told_read Number field v fits is = (number_read w32 bytes_of_32 field v fits is, refl)
told_read Long field v fits is = (number_read w64 bytes_of_64 field v fits is, refl)
told_read WordAddress field v fits is = (address_of_number field v (number_read w64 bytes_of_64 field v fits.1 is) fits.0, refl)
told_read (KindOfRing true) field v fits is = let kind = word_kind field v is in (kind, ap is_some kind)
told_read (KindOfRing false) field v fits is = search rules

-- ---- the fields that come last

abbrev pub BehindFits : (tail : Tail) → Behind tail → Type 0
BehindFits Nothing v = Unit {0}
BehindFits Event v = IsBlock v
BehindFits RegisterValue v = (v.1 < 2 ^ 64) × (is_wide v.0 ≢ true → v.1 < 2 ^ 32)
BehindFits Blocks v = All IsBlock v × (0 < length v)
BehindFits Segments v = All FitsSegment v × (0 < length v)

abbrev pub behind_fields : (tail : Tail) → Behind tail → List Field
behind_fields Nothing v = []
behind_fields Event v = block_fields v
behind_fields RegisterValue v = Word (register_name v.0) ∷ Digits (digits_of w64 v.1) ∷ []
behind_fields Blocks v = flat_map block_fields v
behind_fields Segments v = map segment_field v

behind_written : (tail : Tail) (fields : List (List ℕ)) (v : Behind tail) → are_behind tail fields ≡ true → behind tail fields ≡ Some v → (are_written (behind_fields tail v) fields ≡ true) × BehindFits tail v
behind_written Nothing [] v are is = (refl, tt)
behind_written Nothing (field ∷ fields) v are is = cc are
behind_written Event fields v are is = event_written fields v is
behind_written RegisterValue [] v are is = cc is
behind_written RegisterValue (name ∷ []) v are is = cc is
behind_written RegisterValue (name ∷ value ∷ []) v are is =
    let p = then_there (λ r. option_map (λ v. (r, v)) (register_value_of r value)) (register_named name) v is in
    let q = mapped_there (λ v. (p.0, v)) (register_value_of p.0 value) v p.2 in
    let n = number_written w64 bytes_of_64 value q.0 (value_there p.0 value q.0 q.1).0 in
    rw (← q.2) (two_written (Word (register_name p.0)) (Digits (digits_of w64 q.0)) name value (register_word name p.0 p.1) n.0, (n.1, (value_there p.0 value q.0 q.1).1))
behind_written RegisterValue (name ∷ value ∷ more ∷ rest) v are is = cc is
behind_written Blocks fields v are is = let p = blocks_written fields v is in (p.written, (p.fit, some_blocks fields v are p.count))
behind_written Segments [] v are is = cc are
behind_written Segments (field ∷ fields) v are is = let p = segments_written (field ∷ fields) v is in (p.0, (p.1, omega (arith, p.2)))

behind_read : (tail : Tail) (fields : List (List ℕ)) (v : Behind tail) → BehindFits tail v → are_written (behind_fields tail v) fields ≡ true → (behind tail fields ≡ Some v) × (are_behind tail fields ≡ true)
behind_read Nothing fields v fits is = (refl, ap (λ (xs : List (List ℕ)). are_behind Nothing xs) (only fields is))
behind_read Event fields v fits is = let p = event_read v fields fits is in (p.0, eq-eqb (length fields) 4 p.1)
behind_read RegisterValue fields v fits is = search (rules, two_of, word_register, value_of_number, number_read, bytes_of_64)
behind_read Blocks fields v fits is = let p = blocks_read v fields fits.0 is in (p.0, four_for_each fields v fits.1 p.1)
behind_read Segments fields v fits is = search (rules, segments_read, segments_written)

-- ---- all fields behind the first word

abbrev pub AllFit : (ks : List Kind) (tail : Tail) → Values ks tail → Type 0
AllFit [] tail v = BehindFits tail v
AllFit (k ∷ ks) tail v = Fits k v.0 × AllFit ks tail v.1

abbrev pub all_fields : (ks : List Kind) (tail : Tail) → Values ks tail → List Field
all_fields [] tail v = behind_fields tail v
all_fields (k ∷ ks) tail v = kind_field k v.0 ∷ all_fields ks tail v.1

all_written : (ks : List Kind) (tail : Tail) (fields : List (List ℕ)) (v : Values ks tail) → are_fields ks tail fields ≡ true → values ks tail fields ≡ Some v →
    (are_written (all_fields ks tail v) fields ≡ true) × AllFit ks tail v
all_written [] tail fields v are is = behind_written tail fields v are is
all_written (k ∷ ks) tail [] v are is = cc is
all_written (k ∷ ks) tail (field ∷ fields) v are is =
    let p = both_there (λ a b. (a, b)) (told k field) (values ks tail fields) v is in
    let here = told_written k field p.0 p.2 in
    grind (arith, and_parts, and_from, all_written ks tail fields p.1 (and_parts (is_known k field) (are_fields ks tail fields) are).1 p.3)

all_read : (ks : List Kind) (tail : Tail) (fields : List (List ℕ)) (v : Values ks tail) → AllFit ks tail v → are_written (all_fields ks tail v) fields ≡ true →
    (values ks tail fields ≡ Some v) × (are_fields ks tail fields ≡ true)
all_read [] tail fields v fits is = behind_read tail fields v fits is
all_read (k ∷ ks) tail [] v fits is = cc is
all_read (k ∷ ks) tail (field ∷ fields) v fits is =
    let p = and_parts (may_be_written (kind_field k v.0) field) (are_written (all_fields ks tail v.1) fields) is in
    let rest = all_read ks tail fields v.1 fits.1 p.1 in (
      both_of (λ a b. (a, b)) (told k field) (values ks tail fields) v.0 v.1 (told_read k field v.0 fits.0 p.0).0 rest.0,
      and_from (is_known k field) (are_fields ks tail fields) (told_read k field v.0 fits.0 p.0).1 rest.1,
    )

-- ---- a table of lines

module _ {T : Type 0} (fields_said : T → List Field) (FitsValue : T → Type 0) where
  -- what a line says is spelled by its word and its fields
  abbrev pub IsLine : Line T → Type 0
  IsLine l = (v : Values l.kinds l.tail) → (fields_said (l.make v) ≡ Word l.word ∷ all_fields l.kinds l.tail v) × (AllFit l.kinds l.tail v → FitsValue (l.make v))

  abbrev pub AreLines : List (Line T) → Type 0
  AreLines [] = Unit {0}
  AreLines (l ∷ ls) = IsLine l × AreLines ls

  -- one of the lines says the value
  pub record IsSaid (lines : List (Line T)) (t : T) : Type 0 where
    pub line : Line T
    pub says : Values line.kinds line.tail
    pub makes : FitsValue t → line.make says ≡ t
    pub named : line_named lines line.word ≡ Some line
    pub spelled : fields_said t ≡ Word line.word ∷ all_fields line.kinds line.tail says
    pub fits : FitsValue t → AllFit line.kinds line.tail says

  one_of : (ls : List (Line T)) → AreLines ls → (word : List ℕ) (l : Line T) → line_named ls word ≡ Some l → (word ≡ l.word) × IsLine l
  one_of [] are word l is = cc is
  one_of (x ∷ ls) are word l is =
      elim (cases_Bool (bytes_eq word x.word)) [
        | inl same ↦ let p : x ≡ l = cc (rw same at is) in subst (λ (y : Line T). (word ≡ y.word) × IsLine y) p (same_bytes word x.word same, are.0)
        | inr other ↦ one_of ls are.1 word l (rw other at is)
      ]

  module _ (lines : List (Line T)) where
    pub table_written : AreLines lines → (fields : List (List ℕ)) (form : FormOf T) (t : T) → form_in lines fields ≡ Some form → value_in form ≡ Some t →
        (are_written (fields_said t) fields ≡ true) × FitsValue t
    table_written are [] form t is says = cc is
    table_written are (word ∷ fields) form t is says =
        let p = then_there (λ l. form_as l fields) (line_named lines word) form is in
        let q = cond_there (are_fields p.0.kinds p.0.tail fields) (p.0, fields) form p.2 in
        let r = mapped_there p.0.make (values p.0.kinds p.0.tail fields) t (ap value_in q.1 ∙ says) in
        let w = all_written p.0.kinds p.0.tail fields r.0 q.0 r.1 in
        grind (arith, one_of, and_from, are_same_bytes)

    pub said_read : (t : T) → IsSaid lines t → (fields : List (List ℕ)) → FitsValue t → are_written (fields_said t) fields ≡ true →
        (form : FormOf T) × (form_in lines fields ≡ Some form) × (value_in form ≡ Some t)
    said_read t said fields fits written = by_said said fields fits (sym (ap (λ (fs : List Field). are_written fs fields) said.spelled) ∙ written)
      where
        by_said : (s : IsSaid lines t) (fields : List (List ℕ)) → FitsValue t → are_written (Word s.line.word ∷ all_fields s.line.kinds s.line.tail s.says) fields ≡ true →
            (form : FormOf T) × (form_in lines fields ≡ Some form) × (value_in form ≡ Some t)
        by_said s [] fits is = cc is
        by_said s (word ∷ fields) fits is =
            let p = and_parts (bytes_eq word s.line.word) (are_written (all_fields s.line.kinds s.line.tail s.says) fields) is in
            let r = all_read s.line.kinds s.line.tail fields s.says (s.fits fits) p.1 in
            let named : line_named lines word ≡ Some s.line = ap (λ (w : List ℕ). line_named lines w) (same_bytes word s.line.word p.0) ∙ s.named in
            ((s.line, fields), ap (λ o. option_and_then (λ l. form_as l fields) o) named ∙ (rw r.1 refl), ap (λ o. option_map s.line.make o) r.0 ∙ ap (λ (x : T). Some x) (s.makes fits))

    pub table_read : ((t : T) → IsSaid lines t) → (fields : List (List ℕ)) (t : T) → FitsValue t → are_written (fields_said t) fields ≡ true →
        (form : FormOf T) × (form_in lines fields ≡ Some form) × (value_in form ≡ Some t)
    table_read said fields t fits written = said_read t (said t) fields fits written
