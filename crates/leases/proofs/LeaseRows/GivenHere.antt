-- What a write gives, by the ring that has the word
use Rattle.leases.proofs.BaseWords.{rules, ◌≡◌, ◌%◌, ◌++◌, ◌∙◌, ℕ, [], true, false, Option, Some, None, refl, ap, sym, map, append-nil, Xfer, is_inside, touches, positions_given, crossings_given, due_positions, Ring, Header, IsHeader, command_id, command_ring, driver_rings, is_command_kind, is_driver_kind, is_event_kind, shape_of, shape_or, Known, given_of, given_by, false_unless, IsAmong, Apart, same_or_apart, all_from_one, nothing_from, shape_allowed, shape_there, together, command_found, Position, Crossing, command_id_is, commands_among, driven, no_ring, gives_no_position, gives_no_crossing, inside_is, no_driver_event, arith}

module _ (h : Header) (headed : IsHeader h) where
  module _ (k : Known) (a : ℕ) (aligned : a % 4 ≡ 0) (w : ℕ) where
    given_here : (q : Ring) → IsAmong q h.rings → given_of h k a w q.id ≡ map (Position q.id) (positions_given q.shape (k.ring q.id) a w) ++ map (Crossing q.id) (crossings_given q.shape (k.ring q.id) a w)
    unfolding given_of
    given_here q among = search (rules, map, Position, positions_given, Crossing, crossings_given, shape_there)

    none_given : (q : Ring) → IsAmong q h.rings → is_inside q.shape a ≡ false → given_of h k a w q.id ≡ []
    none_given q among outside = search (rules, given_here, gives_no_position, shape_allowed, gives_no_crossing)

    -- no position of the command ring where that hasn't the word
    no_commands : ((c : Ring) → command_ring h ≡ Some c → is_inside c.shape a ≡ false) → positions_given (shape_of h (command_id h)) (k.ring (command_id h)) a w ≡ []
    unfolding shape_of positions_given due_positions
    no_commands outside = by (command_ring h) refl
      where
        by : (o : Option Ring) → command_ring h ≡ o → positions_given (shape_of h (command_id h)) (k.ring (command_id h)) a w ≡ []
        by None none = ap (λ o. positions_given (shape_or Xfer o) (k.ring (command_id h)) a w) (no_ring h headed none)
        by (Some c) there =
            let among = (commands_among h c there).0 in
            rw (command_id_is h c there, shape_there h headed c among) (gives_no_position c.shape (shape_allowed h headed c among) a aligned (outside c there) (k.ring c.id) w)

    -- no driver's ring has the word
    module _ (outside : (q : Ring) → IsAmong q h.rings → is_driver_kind q.shape.kind ≡ true → is_inside q.shape a ≡ false) where
      pub given_nowhere : given_by h k a w ≡ []
      unfolding given_by driver_rings
      given_nowhere = nothing_from (λ q. given_of h k a w q.id) h.rings (λ q among driver. none_given q among (outside q among driver))

      pub commanded_nowhere : positions_given (shape_of h (command_id h)) (k.ring (command_id h)) a w ≡ []
      commanded_nowhere = no_commands (λ c there. let found = commands_among h c there in outside c found.0 (driven c.shape.kind found.1))

    pub not_touched : ((q : Ring) → IsAmong q h.rings → touches q.shape a 4 ≡ false) → (q : Ring) → IsAmong q h.rings → is_driver_kind q.shape.kind ≡ true → is_inside q.shape a ≡ false
    not_touched none q among driver = sym (inside_is h headed k a aligned q among) ∙ none q among

    -- the event ring has it
    pub in_events : (e : Ring) → IsAmong e h.rings → is_event_kind e.shape.kind ≡ true → touches e.shape a 4 ≡ true → (q : Ring) → IsAmong q h.rings → is_driver_kind q.shape.kind ≡ true → is_inside q.shape a ≡ false
    in_events e among event has q there driver = grind (arith, same_or_apart h.rings (together h headed) e q among there, no_driver_event q.shape.kind driver, inside_is h headed k a aligned e among)

    -- a command or transfer ring has it
    module _ (r : Ring) (among : IsAmong r h.rings) (driver : is_driver_kind r.shape.kind ≡ true) (has : touches r.shape a 4 ≡ true) where
      others : (q : Ring) → IsAmong q h.rings → Apart r q → is_inside q.shape a ≡ false
      others q there apart = false_unless (is_inside q.shape a) (λ e. apart.memory a (sym (inside_is h headed k a aligned r among) ∙ has) e)

      pub given_by_one : given_by h k a w ≡ map (Position r.id) (positions_given r.shape (k.ring r.id) a w) ++ map (Crossing r.id) (crossings_given r.shape (k.ring r.id) a w)
      unfolding given_by driver_rings
      given_by_one = all_from_one (λ q. given_of h k a w q.id) h.rings (together h headed) r among driver (search (rules, none_given, others)) ∙ append-nil (given_of h k a w r.id)
          ∙ given_here r among

      pub commanded_here : is_command_kind r.shape.kind ≡ true → positions_given (shape_of h (command_id h)) (k.ring (command_id h)) a w ≡ positions_given r.shape (k.ring r.id) a w
      commanded_here command = search (rules, positions_given, shape_of, command_id_is, command_found, shape_there)

      pub commanded_elsewhere : is_command_kind r.shape.kind ≡ false → positions_given (shape_of h (command_id h)) (k.ring (command_id h)) a w ≡ []
      commanded_elsewhere other = no_commands (λ c there. grind (arith, commands_among h c there, same_or_apart h.rings (together h headed) r c among, others c))
