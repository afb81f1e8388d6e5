-- Lines as data: a first word, the kinds of the fields behind it, and what comes last
use Rattle.std.specs.Prelude.{ℕ, ◌==◌, ◌&&◌, Bool, true, false, List, [], ◌∷◌, length, Option, Some, None, is_some, if◌then◌else◌}
use Rattle.std.specs.Int.{w8, w32, w64}
use Rattle.std.specs.Option.{option_map, option_and_then}
use Rattle.std.specs.Str.{bytes_eq}
use Rattle.line_text.specs.Numbers.{number_of}
use Rattle.segments.specs.declared.segment.Segment.{Segment}
use Rattle.trb.specs.declared.block.Block.{Block}
use Rattle.trb.specs.declared.ring_kind.RingKind.{RingKind}
use Rattle.traces.specs.declared.register.Register.{Register}
use Rattle.trace_reader.specs.Forms.{are_blocks, kind_among, register_named}
use Rattle.trace_reader.specs.Values.{both, blocks_of, event_of, register_value_of, segments_of, word_address_of}

-- one field: a number by its digits, the address of a word, the kind of a ring (any, or that of a transfer ring alone)
pub data Kind : Type 0 where
  Byte : Kind
  Number : Kind
  Long : Kind
  WordAddress : Kind
  KindOfRing : (any : Bool) → Kind

-- the fields that come last
pub data Tail : Type 0 where
  Nothing : Tail
  Event : Tail
  RegisterValue : Tail
  Blocks : Tail
  Segments : Tail

-- what a field says
abbrev pub Told : Kind → Type 0
Told Byte = ℕ
Told Number = ℕ
Told Long = ℕ
Told WordAddress = ℕ
Told (KindOfRing any) = RingKind

abbrev pub Behind : Tail → Type 0
Behind Nothing = Unit {0}
Behind Event = Block
Behind RegisterValue = Register × ℕ
Behind Blocks = List Block
Behind Segments = List Segment

abbrev pub Values : List Kind → Tail → Type 0
Values [] tail = Behind tail
Values (k ∷ ks) tail = Told k × Values ks tail

-- a word is one of those that are known
abbrev pub is_known : Kind → List ℕ → Bool
is_known (KindOfRing any) field = is_some (kind_among any field)
is_known Byte field = true
is_known Number field = true
is_known Long field = true
is_known WordAddress field = true

abbrev pub are_behind : Tail → List (List ℕ) → Bool
are_behind Nothing [] = true
are_behind Nothing (field ∷ fields) = false
are_behind Event fields = length fields == 4
are_behind RegisterValue (name ∷ value ∷ []) = is_some (register_named name)
are_behind RegisterValue _ = false
are_behind Blocks fields = are_blocks fields
are_behind Segments [] = false
are_behind Segments (field ∷ fields) = true

-- so many fields, and known words
abbrev pub are_fields : List Kind → Tail → List (List ℕ) → Bool
are_fields [] tail fields = are_behind tail fields
are_fields (k ∷ ks) tail [] = false
are_fields (k ∷ ks) tail (field ∷ fields) = is_known k field && are_fields ks tail fields

abbrev pub told : (k : Kind) → List ℕ → Option (Told k)
told Byte field = number_of w8 field
told Number field = number_of w32 field
told Long field = number_of w64 field
told WordAddress field = word_address_of field
told (KindOfRing any) field = kind_among any field

abbrev pub register_behind : List (List ℕ) → Option (Register × ℕ)
register_behind (name ∷ value ∷ []) = option_and_then (λ r. option_map (λ v. (r, v)) (register_value_of r value)) (register_named name)
register_behind _ = None

abbrev pub behind : (tail : Tail) → List (List ℕ) → Option (Behind tail)
behind Nothing fields = Some tt
behind Event fields = event_of fields
behind RegisterValue fields = register_behind fields
behind Blocks fields = blocks_of fields
behind Segments fields = segments_of fields

abbrev pub values : (ks : List Kind) (tail : Tail) → List (List ℕ) → Option (Values ks tail)
values [] tail fields = behind tail fields
values (k ∷ ks) tail [] = None
values (k ∷ ks) tail (field ∷ fields) = both (λ a b. (a, b)) (told k field) (values ks tail fields)

pub record Line (T : Type 0) : Type 0 where
  pub word : List ℕ
  pub kinds : List Kind
  pub tail : Tail
  pub make : Values kinds tail → T

-- a line with the fields behind its word
abbrev pub FormOf : Type 0 → Type 0
FormOf T = Line T × List (List ℕ)

abbrev pub form_as : {T : Type 0} → Line T → List (List ℕ) → Option (FormOf T)
form_as l fields = if are_fields l.kinds l.tail fields then Some (l, fields) else None

abbrev pub line_named : {T : Type 0} → List (Line T) → List ℕ → Option (Line T)
line_named [] word = None
line_named (l ∷ ls) word = if bytes_eq word l.word then Some l else line_named ls word

-- None: an unknown first word, another unknown word, or a wrong number of fields
abbrev pub form_in : {T : Type 0} → List (Line T) → List (List ℕ) → Option (FormOf T)
form_in ls [] = None
form_in ls (word ∷ fields) = option_and_then (λ l. form_as l fields) (line_named ls word)

abbrev pub value_in : {T : Type 0} → FormOf T → Option T
value_in form = option_map form.0.make (values form.0.kinds form.0.tail form.1)
