-- What the changes of a command's success keep: that states, endpoints and their rings are known as they are in the world
use Rattle.safety.proofs.Words.{◌≡◌, ◌≢◌, ◌<◌, ◌∙◌, ℕ, true, Some, None, arith, sym, inl, inr, none-some, Header, IsHeader, command_id, World, Known, DriverKeeps, state_of, EndpointRing, Matches, rules}
use Rattle.safety.proofs.HeaderRings.Headers.{transfer_not_command}

-- the endpoints that have rings have numbers of slots and endpoints: 8 and 5 bits
abbrev pub AreNumbered : Known → Type 0
AreNumbered k = (s i r : ℕ) → k.ring_of s i ≡ Some r → (s < 256) × (i < 32)

-- the parts of what is known, and of the world, that a success changes: with those of another
abbrev pub known_changed : Known → Known → Known
known_changed k m = record k {
  ring = m.ring;
  was_bound = m.was_bound;
  slot_state = m.slot_state;
  endpoint_state = m.endpoint_state;
  ring_of = m.ring_of;
  isochronous = m.isochronous;
  must_move = m.must_move;
  device = m.device;
}

abbrev pub world_changed : World → World → World
world_changed w v = record w {
  slot_state = v.slot_state;
  endpoint_state = v.endpoint_state;
  ring_of = v.ring_of;
  isochronous = v.isochronous;
  scribbles = v.scribbles;
  pointer_of = v.pointer_of;
  cycle_state = v.cycle_state;
  is_active = v.is_active;
  events = v.events;
  reported = v.reported;
}

module _ (h : Header) where
  -- what is known of states, endpoints and their rings is so in the world; each of these rings is one endpoint's alone
  pub record StatesMatch (k : Known) (w : World) : Type 0 where
    pub slots : (s : ℕ) → w.slot_state s ≡ k.slot_state s
    pub endpoints : (s i : ℕ) → w.endpoint_state s i ≡ k.endpoint_state s i
    pub ring_of : (s i : ℕ) → w.ring_of s i ≡ k.ring_of s i
    pub isochronous : (s i : ℕ) → w.isochronous s i ≡ k.isochronous s i
    pub rings : (r : ℕ) → r ≢ command_id h → EndpointRing h k w r
    pub scribbles : (s : ℕ) → w.scribbles s ≡ true → k.device s ≢ None
    pub apart : (s i r : ℕ) → k.ring_of s i ≡ Some r → r ≢ command_id h
    pub one_endpoint : (s i t j r : ℕ) → k.ring_of s i ≡ Some r → k.ring_of t j ≡ Some r → (s ≡ t) × (i ≡ j)
    pub within : (s i r : ℕ) → k.ring_of s i ≡ Some r → (0 < s) × (s < 256) × (0 < i) × (i < 32)

  -- m and v are k and w, but for states and for the rings of endpoints
  pub record LeavesRest (k m : Known) (w v : World) : Type 0 where
    pub known : m ≡ known_changed k m
    pub world : v ≡ world_changed w v
    pub queues : (r : ℕ) → (m.ring r).queue ≡ (k.ring r).queue
    pub lengths : (r : ℕ) → (m.ring r).lengths ≡ (k.ring r).lengths
    pub command_known : m.ring (command_id h) ≡ k.ring (command_id h)
    pub command_world : state_of v (command_id h) ≡ state_of w (command_id h)

  pub record ChangeKeeps (k m : Known) (w v : World) : Type 0 where
    pub states : StatesMatch m v
    pub rest : LeavesRest k m w v

  -- no change, and one after the other
  pub none_keeps : (k : Known) (w : World) → StatesMatch k w → ChangeKeeps k k w w
  none_keeps k w s = search rules

  pub both_keep : (k l m : Known) (w u v : World) → LeavesRest k l w u → ChangeKeeps l m u v → ChangeKeeps k m w v
  both_keep k l m w u v one two = search (rules, two.rest, one.queues, one.lengths)

  -- before the first change
  pub states_match : IsHeader h → (k : Known) (w : World) → DriverKeeps h k → AreNumbered k → Matches h k w → StatesMatch k w
  states_match is k w d numbered m = record {
    slots = m.slots;
    endpoints = m.endpoints;
    ring_of = m.ring_of;
    isochronous = m.isochronous;
    rings = m.rings;
    scribbles = m.scribbles;
    apart = λ s i r at. transfer_not_command h is r (d.states.transfer s i r at);
    one_endpoint = d.states.one_endpoint;
    within = λ s i r at.
        let high = numbered s i r at in (
          some_number s (λ none. none-some r (sym (d.states.no_endpoint s i (inl none)) ∙ at)),
          high.0,
          some_number i (λ none. none-some r (sym (d.states.no_endpoint s i (inr none)) ∙ at)),
          high.1,
        );
  }
    where
      some_number : (n : ℕ) → n ≢ 0 → 0 < n
      some_number n other = omega (arith, other)
