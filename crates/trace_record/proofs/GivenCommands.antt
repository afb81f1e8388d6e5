-- Which command a write gives, by the ring that has the word, and which one is finished next
use Rattle.trace_record.proofs.UpperLaws.{rules, ◌≡◌, ◌%◌, ℕ, List, true, false, Option, None, Some, refl, ap, false≢true, RingKind, Shape, floor_number, is_inside, positions_given, due_positions, Ring, Header, IsHeader, is_event_kind, command_id, shape_of, shape_or, Known, positions_of, RingGiving, false_unless, IsAmong, same_or_apart, shape_allowed, shape_there, together, if◌then◌else◌, command_ring, is_command_kind, command_at, next_command, command_given, command_in, command_on, command_found, gives_no_position}
use Rattle.trace_record.proofs.RingFinder.CommandRings.{command_id_is, commands_among, no_ring}

pub no_command_event : (kind : RingKind) → is_event_kind kind ≡ true → is_command_kind kind ≡ false
no_command_event kind h1 = search rules

-- a word of another ring isn't in it
not_in_commands : (h : Header) → IsHeader h → (ring : Ring) → IsAmong ring h.rings → is_command_kind ring.shape.kind ≡ false → (a : ℕ) → is_inside ring.shape a ≡ true →
    (c : Ring) → command_ring h ≡ Some c → is_inside c.shape a ≡ false
not_in_commands h headed ring among other a has c there = search (rules, commands_among, same_or_apart, together, false≢true, Ring, is_command_kind, false_unless, is_inside, commands_among h c there, same_or_apart h.rings (together h headed) ring c among (commands_among h c there).0)

module _ (h : Header) (headed : IsHeader h) (k : Known) where
  -- the next command stands on the command ring
  pub next_is : (c : Ring) → command_ring h ≡ Some c → command_at h k (next_command h k) ≡ command_in (k.ring c.id).queue (floor_number (k.ring c.id))
  unfolding command_at next_command
  next_is c there = ap (λ i. command_in (k.ring i).queue (floor_number (k.ring i))) (command_id_is h c there)

  module _ (a w : ℕ) where
    abbrev given_on : Shape → ℕ → List ℕ
    given_on shape i = positions_given shape (k.ring i) a w

    given_is : command_given h k a w ≡ command_on (k.ring (command_id h)) (given_on (shape_of h (command_id h)) (command_id h))
    unfolding command_given command_at
    given_is = refl

    -- of the command ring
    given_there : (c : Ring) → command_ring h ≡ Some c → command_given h k a w ≡ command_on (k.ring c.id) (positions_given c.shape (k.ring c.id) a w)
    given_there c there = rw (given_is, command_id_is h c there, shape_there h headed c (commands_among h c there).0) refl

    -- outside the command ring none is given
    pub none_outside : a % 4 ≡ 0 → ((c : Ring) → command_ring h ≡ Some c → is_inside c.shape a ≡ false) → command_given h k a w ≡ None
    unfolding shape_of positions_given due_positions
    none_outside aligned outside = by (command_ring h) refl
      where
        by : (o : Option Ring) → command_ring h ≡ o → command_given h k a w ≡ None
        by None none = (search (rules, given_is, command_id, shape_or, no_ring))
        by (Some c) there = rw (given_there c there, gives_no_position c.shape (shape_allowed h headed c (commands_among h c there).0) a aligned (outside c there) (k.ring c.id) w) refl

    -- no ring has the word
    pub none_nowhere : a % 4 ≡ 0 → ((q : Ring) → IsAmong q h.rings → is_inside q.shape a ≡ false) → command_given h k a w ≡ None
    none_nowhere aligned none = none_outside aligned (λ c there. none c (commands_among h c there).0)

    -- a ring that has the word
    pub command_is : a % 4 ≡ 0 → (r : Ring) → IsAmong r h.rings → is_inside r.shape a ≡ true →
        command_given h k a w ≡ (if is_command_kind r.shape.kind then command_on (k.ring r.id) (positions_given r.shape (k.ring r.id) a w) else None)
    command_is aligned r among has = search (rules, given_there, command_found, positions_given, none_outside, not_in_commands)

    -- the event ring has it
    pub none_in_events : a % 4 ≡ 0 → (r : Ring) → IsAmong r h.rings → is_inside r.shape a ≡ true → is_event_kind r.shape.kind ≡ true → command_given h k a w ≡ None
    none_in_events aligned r among has event = search (rules, command_is, positions_given, no_command_event)

    -- by what the write gives of the ring
    pub given_by_ring : a % 4 ≡ 0 → (r : Ring) → IsAmong r h.rings → is_inside r.shape a ≡ true → (giving : Option RingGiving) → positions_given r.shape (k.ring r.id) a w ≡ positions_of giving →
        command_given h k a w ≡ (if is_command_kind r.shape.kind then command_on (k.ring r.id) (positions_of giving) else None)
    given_by_ring aligned r among has giving gives = search (rules, command_is)
