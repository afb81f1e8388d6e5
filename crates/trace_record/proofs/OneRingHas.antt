-- Of the rings of a header only the one that has a word can own it, or give something by its write
use Rattle.trace_record.proofs.MiddleLaws.{inl, inr, ap, rules, ◌≡◌, ◌%◌, ◌++◌, ◌∙◌, ℕ, [], true, false, sym, map, append-nil, list_any, RingKind, is_inside, touches, overlap, address_of, link_address, positions_given, crossings_given, leased_positions, leased_crossings, touches-word, Ring, Header, IsHeader, is_driver_kind, is_event_kind, shape_or, driver_rings, event_ring, event_shape, Known, Position, Crossing, given_of, given_by, false_unless, or_false, any_append, any_map, IsAmong, Apart, same_or_apart, together, shape_allowed, shape_there, event_here, find_some, one_driver, no_driver, all_from_one, nothing_from, is_owned, rings_have, not_owned, gives_no_position, gives_no_crossing}
use Rattle.trace_record.proofs.BesideFree.{not_beside}
use Rattle.ring_knowledge.specs.BesideFree as of_ring
use Rattle.ownership_rules.specs.OpenLeases as leases
use Rattle.ownership_rules.specs.Older.{stands_beside_free}

pub no_driver_event : (kind : RingKind) → is_driver_kind kind ≡ true → is_event_kind kind ≡ true → ⊥
no_driver_event kind h1 h2 = search rules

module _ (h : Header) (headed : IsHeader h) (k : Known) (a : ℕ) (aligned : a % 4 ≡ 0) where
  pub inside_is : (q : Ring) → IsAmong q h.rings → touches q.shape a 4 ≡ is_inside q.shape a
  inside_is q among = touches-word q.shape (shape_allowed h headed q among) a aligned

  -- the leases of one ring
  owned_on : (q : Ring) → IsAmong q h.rings → list_any (leases.covers h a 4) (leases.open_on h k q) ≡ is_owned q.shape (k.ring q.id) a
  unfolding leases.open_on leases.covers leases.lease_start leases.lease_bytes
  owned_on q among = search (rules, any_append, map, leased_positions, leased_crossings, any_map, list_any, overlap, address_of, link_address, shape_there)

  segments_cover : list_any (leases.covers h a 4) (leases.segment_ranges h) ≡ touches (event_shape h) a 4
  unfolding leases.segment_ranges leases.covers leases.lease_start leases.lease_bytes
  segments_cover = any_map (leases.covers h a 4) _ (event_shape h).segments

  -- where a ring hasn't the word
  unowned : (q : Ring) → IsAmong q h.rings → is_inside q.shape a ≡ false → list_any (leases.covers h a 4) (leases.open_on h k q) ≡ false
  unowned q among outside = owned_on q among ∙ not_owned q.shape (shape_allowed h headed q among) a aligned outside (k.ring q.id)

  none_beside : (q : Ring) → IsAmong q h.rings → is_inside q.shape a ≡ false → of_ring.stands_beside_free q.shape (k.ring q.id) a ≡ false
  none_beside q among outside = not_beside q.shape (k.ring q.id) a (shape_allowed h headed q among) aligned outside

  given_here : (w : ℕ) (q : Ring) → IsAmong q h.rings → given_of h k a w q.id
      ≡ map (Position q.id) (positions_given q.shape (k.ring q.id) a w) ++ map (Crossing q.id) (crossings_given q.shape (k.ring q.id) a w)
  unfolding given_of
  given_here w q among = search (rules, map, positions_given, crossings_given, shape_there)

  none_given : (w : ℕ) (q : Ring) → IsAmong q h.rings → is_inside q.shape a ≡ false → given_of h k a w q.id ≡ []
  none_given w q among outside = search (rules, given_here, gives_no_position, shape_allowed, gives_no_crossing)

  -- an event segment has the word only where the event ring has
  not_in_events : ((q : Ring) → IsAmong q h.rings → is_event_kind q.shape.kind ≡ true → is_inside q.shape a ≡ false) → touches (event_shape h) a 4 ≡ false
  unfolding event_shape event_ring
  not_in_events never = search (rules, event_ring, touches, shape_or, find_some, is_event_kind, inside_is)

  -- no ring has it
  module _ (none : (q : Ring) → IsAmong q h.rings → touches q.shape a 4 ≡ false) where
    outside : (q : Ring) → IsAmong q h.rings → is_inside q.shape a ≡ false
    outside q among = sym (inside_is q among) ∙ none q among

    pub rings_nowhere : false ≡ rings_have h k a
    unfolding driver_rings
    rings_nowhere = search (rules, no_driver, list_any, unowned, outside, segments_cover, not_in_events)

    pub beside_nowhere : false ≡ stands_beside_free h k a
    unfolding stands_beside_free driver_rings
    beside_nowhere = sym (no_driver (λ q. of_ring.stands_beside_free q.shape (k.ring q.id) a) h.rings (λ q among driver. none_beside q among (outside q among)))

    pub given_nowhere : (w : ℕ) → given_by h k a w ≡ []
    unfolding given_by driver_rings
    given_nowhere w = nothing_from (λ q. given_of h k a w q.id) h.rings (λ q among driver. none_given w q among (outside q among))

  -- the event ring has it
  pub rings_in_events : (e : Ring) → IsAmong e h.rings → is_event_kind e.shape.kind ≡ true → touches e.shape a 4 ≡ true → true ≡ rings_have h k a
  rings_in_events e among event touched = search (rules, segments_cover, event_here h headed e among event, list_any, touches)

  pub beside_in_events : (e : Ring) → IsAmong e h.rings → is_event_kind e.shape.kind ≡ true → touches e.shape a 4 ≡ true → false ≡ stands_beside_free h k a
  unfolding stands_beside_free driver_rings
  beside_in_events e among event touched = sym (no_driver (λ q. of_ring.stands_beside_free q.shape (k.ring q.id) a) h.rings none)
    where
      none : (q : Ring) → IsAmong q h.rings → is_driver_kind q.shape.kind ≡ true → of_ring.stands_beside_free q.shape (k.ring q.id) a ≡ false
      none q there driver = elim (same_or_apart h.rings (together h headed) e q among there) [
        | inl same ↦ absurd (no_driver_event q.shape.kind driver (ap (λ r. is_event_kind r.shape.kind) same ∙ event))
        | inr apart ↦ none_beside q there (false_unless (is_inside q.shape a) (λ inside. apart.memory a (sym (inside_is e among) ∙ touched) inside))
      ]

  -- a command or transfer ring has it
  module _ (r : Ring) (among : IsAmong r h.rings) (driver : is_driver_kind r.shape.kind ≡ true) (has : touches r.shape a 4 ≡ true) where
    inside : is_inside r.shape a ≡ true
    inside = sym (inside_is r among) ∙ has

    others : (q : Ring) → IsAmong q h.rings → Apart r q → is_inside q.shape a ≡ false
    others q there apart = false_unless (is_inside q.shape a) (λ e. apart.memory a inside e)

    pub rings_here : is_owned r.shape (k.ring r.id) a ≡ rings_have h k a
    unfolding driver_rings
    rings_here = search (rules, one_driver, list_any, together, unowned, others, segments_cover, not_in_events, same_or_apart, no_driver_event, is_driver_kind, owned_on, or_false, is_owned)

    pub beside_here : of_ring.stands_beside_free r.shape (k.ring r.id) a ≡ stands_beside_free h k a
    unfolding stands_beside_free driver_rings
    beside_here =
        sym (one_driver (λ q. of_ring.stands_beside_free q.shape (k.ring q.id) a) h.rings (together h headed) r among driver (λ q there apart. none_beside q there (others q there apart)))

    pub given_by_one : (w : ℕ) → given_by h k a w ≡ map (Position r.id) (positions_given r.shape (k.ring r.id) a w) ++ map (Crossing r.id) (crossings_given r.shape (k.ring r.id) a w)
    unfolding given_by driver_rings
    given_by_one w =
        search (rules, all_from_one (λ q. given_of h k a w q.id) h.rings (together h headed) r among driver, none_given, others, append-nil, given_here)
