-- The rings of the endpoints that a command drops: xHCI 4.6.6
use Rattle.std.specs.Prelude.{◌≡◌, ℕ, ◌&&◌, Bool, false, nat_le}
use Rattle.std.specs.List.{list_any, range_with_len}
use Rattle.contexts.specs.Contexts.{has_flag, is_dropped}
use Rattle.commands.specs.declared.command.Command.{Command}
use Rattle.commands.specs.declared.command.Command.TheVariants.{ConfigureEndpoint}
use Rattle.traces.specs.Header.{is_ring}
use Rattle.ring_knowledge.specs.Known.{Known}
use Rattle.trace_record.specs.declared.ring_set.RingSet.{RingSet}
use Rattle.trace_record.specs.RingSets.{has}

-- the flags drop the endpoint of slot s with index i, one above the default control endpoint, which has ring r
abbrev pub is_left : Known → ℕ → ℕ → ℕ → ℕ → Bool
is_left k flags s i r = (nat_le 2 i && has_flag flags i) && is_ring r (k.ring_of s i)

-- the command drops the endpoint of its slot with index i, which has ring r
abbrev pub leaves : Known → Command → ℕ → ℕ → Bool
leaves k (ConfigureEndpoint s false c) i r = is_dropped k.memory c i && is_ring r (k.ring_of s i)
leaves k _ i r = false

-- they are in the set, and no others
abbrev pub HoldsDropped : Known → Command → RingSet → Type 0
HoldsDropped k c rings = (r : ℕ) → has rings r ≡ list_any (λ i. leaves k c i r) (range_with_len 2 30)
