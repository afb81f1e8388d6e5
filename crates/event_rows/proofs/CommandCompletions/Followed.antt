-- What the record of a trace holds behind a completion
use Rattle.event_rows.proofs.LowerLaws.{arith, rules, ◌≡◌, ℕ, Option, RingChange, device_context_bytes, input_context_bytes, Header, EventState, RegisterRecord, Known, on_ring, unfinished, FollowsRegisters, FollowsRings, FollowsDevices, FollowsUnfinished, follows_beside, HoldsAreas, HoldsSoiled, TraceRecord, FollowsEvents, FollowsTrace, device_contexts, inputs_of, HoldsBound, IsRest}

module _ (k l : Known) (f : ℕ → Option ℕ) (rest : IsRest k l f) where
  registers_still : (r : RegisterRecord) → FollowsRegisters k r → FollowsRegisters l r
  registers_still r g = search rules

  events_still : (h : Header) (o : Option EventState) → FollowsEvents h k o → FollowsEvents h l o
  events_still h o e = search rules

module _ (h : Header) (k l : Known) (r : ℕ) (change : RingChange) (t new : TraceRecord) (memory : ℕ → ℕ) (follows : FollowsTrace h k t memory) where
  abbrev pub behind : Known
  behind = on_ring h l r change

  on_devices : FollowsDevices l new.devices → FollowsDevices behind new.devices
  unfolding on_ring
  on_devices f = follows_beside l behind new.devices f

  on_contexts : HoldsAreas (device_context_bytes h.context_size) (device_contexts l) new.contexts → HoldsAreas (device_context_bytes h.context_size) (device_contexts behind) new.contexts
  unfolding on_ring
  on_contexts holds = holds

  -- from what the rest of the record holds
  pub followed_behind : (f : ℕ → Option ℕ) → IsRest k l f → new.registers ≡ t.registers → new.events ≡ t.events → new.soiled ≡ t.soiled →
      FollowsRings h behind new.rings.items → FollowsDevices l new.devices → FollowsUnfinished (unfinished h behind) new.commands → HoldsBound h behind new.bound →
      HoldsAreas (input_context_bytes h.context_size) (inputs_of (unfinished h behind)) new.inputs →
      HoldsAreas (device_context_bytes h.context_size) (device_contexts l) new.contexts → FollowsTrace h behind new memory
  unfolding on_ring
  followed_behind f rest registers events soiled rings devices commands bound inputs contexts =
      let on : IsRest k behind f = (search rules) in
      grind (arith, FollowsRegisters, registers_still, Option, EventState, FollowsEvents, events_still, on_devices, on_contexts, HoldsSoiled)
