-- What a command is about: a slot as a whole, or one of its endpoints
use Rattle.std.specs.Prelude.{◌≡◌, ℕ, ◌<◌, ◌==◌, ◌&&◌, Bool, true, false, Option, Some, None}
use Rattle.commands.specs.declared.command.Command.{Command}
use Rattle.commands.specs.Command.{named_endpoint, named_slot}

abbrev pub is_slot : ℕ → Option ℕ → Bool
is_slot s None = false
is_slot s (Some t) = s == t

-- the command names slot s
abbrev pub names : ℕ → Command → Bool
names s c = is_slot s (named_slot c)

abbrev pub endpoint_index : Option (ℕ × ℕ) → ℕ
endpoint_index None = 0
endpoint_index (Some e) = e.1

-- the Device Context Index (DCI) of what a command is about: of the endpoint that it names, else that of the slot, 0 (xHCI 4.5.1)
abbrev pub index_of : Command → ℕ
index_of c = endpoint_index (named_endpoint c)

-- the command is about what has this index in slot s
abbrev pub is_about : ℕ → ℕ → Command → Bool
is_about s i c = names s c && index_of c == i

abbrev pub IsEndpoint : Option (ℕ × ℕ) → Type 0
IsEndpoint None = Unit {0}
IsEndpoint (Some e) = (0 < e.1) × (e.1 < 32)

-- the endpoint that a command names, if it names one, is one that a slot has
abbrev pub NamesEndpoint : Command → Type 0
NamesEndpoint c = IsEndpoint (named_endpoint c)

-- the test holds of commands alone that are about this index of slot s
abbrev pub IsOnlyAbout : ℕ → ℕ → (Command → Bool) → Type 0
IsOnlyAbout s i p = (c : Command) → p c ≡ true → is_about s i c ≡ true
