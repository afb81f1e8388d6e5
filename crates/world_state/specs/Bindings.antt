-- The effect of commands on slots, endpoints and their rings: xHCI 4.5.3, 4.6, 4.8.3
use Rattle.std.specs.Prelude.{ℕ, ◌==◌, ◌&&◌, if◌then◌else◌, Bool, false, not, List, [], ◌∷◌, length, Option, Some, None, option_and_then}
use Rattle.std.specs.List.{list_any, range_with_len}
use Rattle.guest_memory.specs.Memory.{put, put_pair}
use Rattle.commands.specs.declared.command.Command.{Command}
use Rattle.commands.specs.declared.state.EndpointState.{EndpointState}
use Rattle.commands.specs.declared.state.EndpointState.TheVariants.{Disabled as Off, Stopped}
use Rattle.commands.specs.Changes.{Change, SlotGoesOn, DeviceLeft, Types, Disables, Places, Stops, Resets, changes, slot_gone_on}
use Rattle.traces.specs.declared.header.Header.{Header}
use Rattle.traces.specs.Header.{is_ring, ring_having}
use Rattle.world_state.specs.World.{World, Placed}
use Rattle.world_state.specs.Takes.{takes_of}

-- another endpoint has the ring
unfoldable pub is_had_by_another : World → ℕ → ℕ → ℕ → Bool
is_had_by_another w s i r =
    list_any (λ t. list_any (λ j. not (t == s && j == i) && is_ring r (w.ring_of t j)) (range_with_len 1 31)) (range_with_len 1 255)

-- the ring, if there is one, is inactive
unfoldable pub inactive : World → Option ℕ → World
inactive w None = w
inactive w (Some r) = record w { is_active = put w.is_active r false }

-- an endpoint gets the ring r, its pointer at a with cycle state c; nothing is active, all takes count as reported
unfoldable pub placed : World → ℕ → ℕ → ℕ → ℕ → Bool → EndpointState → World
placed w s i r a c state = record (inactive (inactive w (w.ring_of s i)) (Some r)) {
  endpoint_state = put_pair w.endpoint_state s i state;
  ring_of = put_pair w.ring_of s i (Some r);
  pointer_of = put w.pointer_of r a;
  cycle_state = put w.cycle_state r (if c then 1 else 0);
  events = put w.events r (Placed a ∷ w.events r);
  reported = put w.reported r (length (takes_of (w.events r)));
}

unfoldable pub placed_on : World → ℕ → ℕ → ℕ → Bool → EndpointState → Option ℕ → Option World
placed_on w s i a c state None = None
placed_on w s i a c state (Some r) = if is_had_by_another w s i r then None else Some (placed w s i r a c state)

unfoldable pub has_one_of : World → ℕ → (ℕ → Bool) → ℕ → Bool
has_one_of w s which r = list_any (λ i. which i && is_ring r (w.ring_of s i)) (range_with_len 1 31)

-- the endpoints of a slot that a test names are disabled: they have no ring, and it is inactive
unfoldable pub disabled : World → ℕ → (ℕ → Bool) → World
disabled w s which = record w {
  endpoint_state = λ t i. if t == s && which i then Off else w.endpoint_state t i;
  ring_of = λ t i. if t == s && which i then None else w.ring_of t i;
  is_active = λ r. w.is_active r && not (has_one_of w s which r);
}

-- of the endpoints of a slot that a test names those are isochronous that another one names
unfoldable pub typed : World → ℕ → (ℕ → Bool) → (ℕ → Bool) → World
typed w s which isochronous = record w { isochronous = λ t i. if t == s && which i then isochronous i else w.isochronous t i }

unfoldable pub in_state : World → ℕ → ℕ → EndpointState → World
in_state w s i state = record w { endpoint_state = put_pair w.endpoint_state s i state }

module _ (h : Header) where
  -- one thing that a success does; a pointer must name a declared transfer ring that no other endpoint has
  unfoldable pub changed_by : Command → World → Change → Option World
  changed_by c w (SlotGoesOn s) = Some (record w { slot_state = slot_gone_on c w.slot_state s })
  changed_by c w (DeviceLeft s) = Some (record w { scribbles = put w.scribbles s false })
  changed_by c w (Types s which isochronous) = Some (typed w s which isochronous)
  changed_by c w (Disables s which) = Some (disabled w s which)
  changed_by c w (Places s i p cycle state) = placed_on w s i p cycle state (ring_having h p)
  changed_by c w (Stops s i) = Some (inactive (in_state w s i Stopped) (w.ring_of s i))
  changed_by c w (Resets s i) = Some (in_state w s i Stopped)

  -- one after another, each seeing those before it
  unfoldable pub changed_by_all : Command → World → List Change → Option World
  changed_by_all c w [] = Some w
  changed_by_all c w (change ∷ rest) = option_and_then (λ v. changed_by_all c v rest) (changed_by c w change)

  -- the effect of success, where it is possible; n is the slot of the event
  unfoldable pub effect : World → ℕ → Command → Option World
  effect w n c = changed_by_all c w (changes h.context_size w.memory n c)
