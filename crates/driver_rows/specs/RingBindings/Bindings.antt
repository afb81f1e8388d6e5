-- The rings that commands bind endpoints to, in the order of the endpoints: xHCI 4.6.5, 4.6.6
use Rattle.std.specs.Prelude.{ℕ, ◌-◌, ◌||◌, Bool, false, not, List, map, Option, Some, None}
use Rattle.std.specs.List.{filter_map, list_any, range_with_len}
use Rattle.std.specs.Option.{option_map}
use Rattle.commands.specs.declared.command.Command.{Command}
use Rattle.traces.specs.declared.header.Header.{Header}
use Rattle.traces.specs.Header.{is_ring, ring_having}
use Rattle.ring_knowledge.specs.Known.{Known}
use Rattle.ownership_rules.specs.Moves.{Binding, has_repeats, is_kept, is_placed, was_ring_bound}
use Rattle.driver_rows.specs.declared.bindings.binding.RingBinding.{RingBinding}
use Rattle.driver_rows.specs.declared.bindings.context.Dequeue.{Dequeue}
use Rattle.trace_record.specs.declared.ring_set.RingSet.{RingSet}
use Rattle.driver_rows.specs.RingBindings.Contexts.{dequeue_at}
use Rattle.trace_record.specs.RingSets.{has}

abbrev pub binding_of : Header → Dequeue → RingBinding
binding_of h d = record { ring = ring_having h d.pointer; dequeue = d }

-- what the command binds the endpoint of index i to
abbrev pub binding_at : Header → Known → Command → ℕ → Option RingBinding
binding_at h k c i = option_map (binding_of h) (dequeue_at h k c i)

-- what it binds the endpoints to from index i on
unfoldable pub bindings_from : Header → Known → Command → ℕ → List RingBinding
bindings_from h k c i = filter_map (binding_at h k c) (range_with_len i (32 - i))

-- the binding is one to ring r
abbrev pub is_to : ℕ → RingBinding → Bool
is_to r b = is_ring r b.ring

-- its ring was bound before
abbrev pub was_bound : Known → RingBinding → Bool
was_bound k b = was_ring_bound k b.ring

abbrev pub as_binding : Dequeue → Binding
as_binding d = record { pointer = d.pointer; cycle = d.cycle }

abbrev pub is_kept_ring : Header → Known → Command → Option ℕ → Bool
is_kept_ring h k c None = false
is_kept_ring h k c (Some r) = is_kept h k c r

-- an endpoint keeps the ring, or the ring doesn't stand still there
abbrev pub is_misplaced : Header → Known → Command → RingBinding → Bool
is_misplaced h k c b = is_kept_ring h k c b.ring || not (is_placed h k b.ring (as_binding b.dequeue))

-- the ring is in the set
abbrev pub is_in_set : RingSet → Option ℕ → Bool
is_in_set taken None = false
is_in_set taken (Some r) = has taken r

-- the binding is bad by a test, or its ring is taken
abbrev pub is_bad : (RingBinding → Bool) → RingSet → RingBinding → Bool
is_bad bad taken b = is_in_set taken b.ring || bad b

-- one of the bindings is bad, or two are to one ring
abbrev pub are_bad : (RingBinding → Bool) → RingSet → List RingBinding → Bool
are_bad bad taken bs = list_any (is_bad bad taken) bs || has_repeats (map (λ b. b.ring) bs)
