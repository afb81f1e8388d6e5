-- States of endpoints that change alike in what is known and in the world
use Rattle.safety.proofs.LowerLaws.{◌≡◌, ℕ, Bool, List, refl, EndpointState, Header, Block, World, Known, Stands, EventsStand, Matches, under_way_same, unfinished_same}
use Rattle.world_state.specs.World as of_world

-- with these states of endpoints, and these endpoints whose ring must be moved
abbrev pub known_states : Known → (ℕ → ℕ → EndpointState) → (ℕ → ℕ → Bool) → Known
known_states k e must = record k { endpoint_state = e; must_move = must }

abbrev pub world_states : World → (ℕ → ℕ → EndpointState) → World
world_states w e = record w { endpoint_state = e }

module _ (h : Header) (k : Known) (w : World) (e f : ℕ → ℕ → EndpointState) (must : ℕ → ℕ → Bool) where
  pub stands_states : Stands h k w → Stands h (known_states k e must) (world_states w f)
  stands_states s = record { started = s.started; stopped = s.stopped; halting = s.halting; halted = s.halted; told = s.told; registers = s.registers; queues = s.queues; lengths = s.lengths; dequeue = s.dequeue; quiet = s.quiet }

  pub events_states : (unread : List Block) → EventsStand h w unread → EventsStand h (world_states w f) unread
  unfolding of_world.event_at
  events_states unread v = record { order = v.order; count = v.count; places = v.places; started = v.started; ring = v.ring }

  pub matches_states : ((s i : ℕ) → f s i ≡ e s i) → Matches h k w → Matches h (known_states k e must) (world_states w f)
  matches_states same m = record {
    slots = m.slots;
    endpoints = same;
    ring_of = m.ring_of;
    isochronous = m.isochronous;
    rings = m.rings;
    before = λ off. let b = m.before off in record { rests = b.rests; none = b.none };
    new = m.new;
    command = λ on. let c = m.command on in record { spot = c.spot; ring = c.ring; under_way = under_way_same h k (known_states k e must) refl refl c.spot w.under_way c.under_way };
    scribbles = m.scribbles;
    contexts = λ p c u. m.contexts p c (unfinished_same h k (known_states k e must) refl refl p c u);
    inside = m.inside;
    there = m.there;
  }
