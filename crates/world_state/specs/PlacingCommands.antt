-- What a command has to be like so that its success can be followed, and which endpoints it places: xHCI 4.6, 6.2.5, 6.4.3
use Rattle.std.specs.Prelude.{◌≡◌, ℕ, ◌+◌, ◌-◌, ◌%◌, ◌<◌, ◌≤◌, ◌^◌, false, List, map, filter}
use Rattle.std.specs.List.{range_with_len}
use Rattle.contexts.specs.declared.size.ContextSize.{ContextSize}
use Rattle.contexts.specs.Contexts.{input_add_flag, input_context_bytes}
use Rattle.commands.specs.declared.command.Command.{Command}
use Rattle.commands.specs.declared.command.Command.TheVariants.{AddressDevice, ConfigureEndpoint, ResetEndpoint, StopEndpoint, SetTrDequeue}
use Rattle.commands.specs.Changes.{Change, placed_by_context}

-- addresses and indices as a block has them: contexts and pointers on 16-byte boundaries, indices below 32
abbrev pub IsWell : Command → Type 0
IsWell (AddressDevice s bsr c) = c % 16 ≡ 0
IsWell (ConfigureEndpoint s dc c) = c % 16 ≡ 0
IsWell (ResetEndpoint s i) = i < 32
IsWell (StopEndpoint s i) = i < 32
IsWell (SetTrDequeue s i p c) = (i < 32) × (p % 16 ≡ 0)
IsWell _ = Unit {0}

-- the input context that is read ends at or below 2^64
abbrev pub HasRoom : ContextSize → Command → Type 0
HasRoom size (AddressDevice s bsr c) = c + input_context_bytes size ≤ 2 ^ 64
HasRoom size (ConfigureEndpoint s false c) = c + input_context_bytes size ≤ 2 ^ 64
HasRoom size _ = Unit {0}

-- the endpoints from index i on get the rings that the input context at c adds
abbrev pub places_from : ContextSize → (ℕ → ℕ) → ℕ → ℕ → ℕ → List Change
places_from size memory s c i = map (placed_by_context size memory s c) (filter (input_add_flag memory c) (range_with_len i (32 - i)))
