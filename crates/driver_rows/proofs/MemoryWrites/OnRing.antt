-- Of the rings of a header only the one that has a word gives something by its write; a word of an event segment is the controller's
use Rattle.driver_rows.proofs.Words.{rules, ◌≡◌, ℕ, ◌%◌, List, [], ◌++◌, Bool, true, false, ap, sym, ◌∙◌, ◌||◌, map, list_any, append-nil, is_inside, touches, positions_given, crossings_given, touches-word, Ring, Header, IsHeader, is_driver_kind, is_event_kind, driver_rings, event_shape, Known, given_of, given_by, false_unless, any_append, any_map, IsAmong, Apart, together, shape_allowed, shape_there, event_here, all_from_one, nothing_from, gives_no_position, gives_no_crossing}
use Rattle.ring_knowledge.specs.Rings.{Position, Crossing}
use Rattle.ownership_rules.specs.OpenLeases as leases

any_first : {X : Type 0} (f : X → Bool) (xs ys : List X) → list_any f xs ≡ true → list_any f (xs ++ ys) ≡ true
any_first f xs ys e = any_append f xs ys ∙ ap (λ b. b || list_any f ys) e

module _ (h : Header) (headed : IsHeader h) (k : Known) (a : ℕ) (aligned : a % 4 ≡ 0) where
  pub inside_is : (q : Ring) → IsAmong q h.rings → touches q.shape a 4 ≡ is_inside q.shape a
  inside_is q among = touches-word q.shape (shape_allowed h headed q among) a aligned

  segments_cover : list_any (leases.covers h a 4) (leases.segment_ranges h) ≡ touches (event_shape h) a 4
  unfolding leases.segment_ranges leases.covers leases.lease_start leases.lease_bytes
  segments_cover = any_map (leases.covers h a 4) _ (event_shape h).segments

  -- the event ring has the word
  pub owned_in_events : (e : Ring) → IsAmong e h.rings → is_event_kind e.shape.kind ≡ true → touches e.shape a 4 ≡ true → leases.is_the_controllers h k a ≡ true
  unfolding leases.is_the_controllers
  owned_in_events e among event touched = search (rules, any_first, segments_cover, event_here)

  given_here : (w : ℕ) (q : Ring) → IsAmong q h.rings → given_of h k a w q.id
      ≡ map (Position q.id) (positions_given q.shape (k.ring q.id) a w) ++ map (Crossing q.id) (crossings_given q.shape (k.ring q.id) a w)
  unfolding given_of
  given_here w q among = search (rules, shape_there)

  none_given : (w : ℕ) (q : Ring) → IsAmong q h.rings → is_inside q.shape a ≡ false → given_of h k a w q.id ≡ []
  none_given w q among outside = search (rules, given_here, gives_no_position, shape_allowed, gives_no_crossing)

  -- no ring has it
  pub given_nowhere : ((q : Ring) → IsAmong q h.rings → touches q.shape a 4 ≡ false) → (w : ℕ) → given_by h k a w ≡ []
  unfolding given_by driver_rings
  given_nowhere none w = nothing_from (λ q. given_of h k a w q.id) h.rings (λ q among driver. none_given w q among (sym (inside_is q among) ∙ none q among))

  -- a command or transfer ring has it
  module _ (r : Ring) (among : IsAmong r h.rings) (driver : is_driver_kind r.shape.kind ≡ true) (has : touches r.shape a 4 ≡ true) where
    pub inside : is_inside r.shape a ≡ true
    inside = sym (inside_is r among) ∙ has

    others : (q : Ring) → IsAmong q h.rings → Apart r q → is_inside q.shape a ≡ false
    others q there apart = false_unless (is_inside q.shape a) (λ e. apart.memory a inside e)

    pub given_by_one : (w : ℕ) → given_by h k a w ≡ map (Position r.id) (positions_given r.shape (k.ring r.id) a w) ++ map (Crossing r.id) (crossings_given r.shape (k.ring r.id) a w)
    unfolding given_by driver_rings
    given_by_one w =
        all_from_one (λ q. given_of h k a w q.id) h.rings (together h headed) r among driver (λ q there apart. none_given w q there (others q there apart))
        ∙ append-nil (given_of h k a w r.id) ∙ given_here w r among
