-- The bytes that were read ahead, and those that the device still holds
use Rattle.std.specs.Prelude.{◌≡◌, ◌⊎◌, ◌<◌, ℕ, Bool, true, false, List, [], ◌∷◌, ◌++◌, drop, take, length, Option, Some, None}
use Rattle.std.specs.Io.KnownBytes.{Consumes, IsAtEnd}
use Rattle.traces.specs.Limits.{most_trace_bytes}
use Rattle.trace_reader.specs.declared.row_reader.ahead.Ahead.{Ahead}

abbrev pub ahead_of : Ahead → List ℕ
ahead_of ahead = drop ahead.done (take ahead.end ahead.bytes.items)

-- bytes came from the device, and stand behind those that were ahead
abbrev pub Comes : Option (List ℕ) → Option (List ℕ) → List ℕ → List ℕ → Type 0
Comes held held' ahead ahead' = (came : List ℕ) × Consumes held held' came × (ahead' ≡ ahead ++ came)

-- so it is behind one read, which had some bytes or none
abbrev pub has_come : Bool → Option (List ℕ) → Option (List ℕ) → List ℕ → List ℕ → Type 0
has_come true held held' ahead ahead' = Comes held held' ahead ahead' × (length ahead < length ahead')
has_come false held held' ahead ahead' = Comes held held' ahead ahead' × IsAtEnd held'

-- a line feed stands among the bytes, or they are too many for one line
abbrev pub IsLong : List ℕ → Type 0
IsLong bytes = ((content : List ℕ) × (rest : List ℕ) × (bytes ≡ content ++ 10 ∷ rest)) ⊎ (most_trace_bytes < length bytes)

-- the first line stands among the bytes, as far as it counts; or none is left
abbrev pub IsFilled : Bool → Option (List ℕ) → List ℕ → Type 0
IsFilled true held ahead = (0 < length ahead) × (IsLong ahead ⊎ IsAtEnd held)
IsFilled false held ahead = (ahead ≡ []) × IsAtEnd held

-- what the device still holds; where that isn't known it may be any text
abbrev pub IsHeld : Option (List ℕ) → List ℕ → Type 0
IsHeld None later = Unit {0}
IsHeld (Some bytes) later = later ≡ bytes

-- so it is with all texts that may still come, where the reading goes on; where it has ended, with what the device still holds
abbrev pub OfLater : Bool → Option (List ℕ) → (List ℕ → Type 0) → Type 0
OfLater false held P = (later : List ℕ) → P later
OfLater true held P = (later : List ℕ) × IsHeld held later × P later

-- bytes came from the device; and so it is of the text that begins with those that were ahead and these, and of what is left of it
abbrev pub OfText : Bool → Option (List ℕ) → Option (List ℕ) → List ℕ → List ℕ → (List ℕ → List ℕ → Type 0) → Type 0
OfText ended held held' ahead ahead' P = (came : List ℕ) × Consumes held held' came × OfLater ended held' (λ later. P (ahead ++ came ++ later) (ahead' ++ later))
