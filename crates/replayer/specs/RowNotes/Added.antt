-- The rings that endpoints get which a Configure Endpoint adds: xHCI 4.6.6
use Rattle.std.specs.Prelude.{ℕ, ◌-◌, List, Option, Some, None, filter}
use Rattle.std.specs.List.{filter_map, range_with_len}
use Rattle.contexts.specs.Contexts.{context_pointer, input_add_flag}
use Rattle.commands.specs.declared.command.Command.{Command}
use Rattle.traces.specs.declared.header.Header.{Header}
use Rattle.traces.specs.Header.{ring_having}
use Rattle.world_state.specs.PlacingCommands.{HasRoom}
use Rattle.ring_knowledge.specs.Known.{Known}
use Rattle.safety.specs.Placings.{StillHolds}
use Rattle.safety.specs.RingsKeep.{RingsKeep}

-- those of the endpoints from index i on that the input context at address a adds: each has the block at the pointer of the endpoint's context
unfoldable pub rings_added : Header → (ℕ → ℕ) → ℕ → ℕ → List ℕ
rings_added h memory a i =
    filter_map (λ j. ring_having h (context_pointer h.context_size memory a j)) (filter (input_add_flag memory a) (range_with_len i (32 - i)))

-- what was tested of a command holds still, its input context ends within the address space, and what the rules keep of rings is kept
abbrev pub MayPlace : Header → Known → Option Command → Type 0
MayPlace h k None = Unit {0}
MayPlace h k (Some c) = StillHolds h k c × HasRoom h.context_size c × RingsKeep h k
