-- Which rules a write breaks
use Rattle.driver_rows.proofs.LowerLaws.{rules, ◌≡◌, ℕ, ◌%◌, ◌&&◌, not, List, [], ◌∷◌, Bool, true, false, Option, None, Some, refl, ap, ◌∙◌, ◌||◌, list_any, touches, positions_given, crossings_given, is_other_than_declared, is_not_declared, is_not_whole, leads_wrong, interrupts, Ring, Header, Write, IsHeader, is_driver_kind, is_event_kind, shape_of, is_lenient, Command, Known, command_given, positions_of, crossings_of, RingGiving, Position, WriteToOwned, NotAsSubmitted, NotDeclared, NotWhole, LinkFault, BadCommand, Busy, NotInProfile, BadMove, Test, first_of, first_broken, is_the_controllers, has_busy_slot, has_left_out_endpoint, older, places_badly, stricter, writes_to_owned, write_tests, changes_owned, some_given, some_crossed, some_command, holds_of, on_position, on_crossing, broken, lenient_tests, tests, IsLeast, or_left, or_right, or_false, any_append, any_map, any_nowhere, IsAmong, shape_there, GivesOnPosition, given_tests, first_broken-is, given_by_one, given_nowhere, owned_in_events, or_assoc}
use Rattle.ownership_rules.specs.Commands as commands
use Rattle.ownership_rules.specs.Moves as moves
use Rattle.ownership_rules.specs.Older.{is_busy_before}

-- the tests of a write that isn't to what the controller owns, of what is given of one ring
module _ (h : Header) (k : Known) (a w : ℕ) (r : Ring) where
  -- no command moves or binds it
  abbrev pub IsStill : Type 0
  IsStill = (moves.is_being_moved h k r.id ≡ false) × (moves.awaits_binding h k r.id ≡ false)

  abbrev pub of_ring : Option RingGiving → Option Command → List Test
  of_ring giving command =
      (WriteToOwned, false)
      ∷ (NotAsSubmitted, list_any (is_other_than_declared r.shape (k.ring r.id) k.memory a w) (positions_of giving))
      ∷ (NotDeclared, list_any (is_not_declared (k.ring r.id)) (positions_of giving))
      ∷ (NotWhole, list_any (is_not_whole r.shape (k.ring r.id)) (positions_of giving))
      ∷ (LinkFault, list_any (leads_wrong r.shape k.memory a w) (crossings_of giving))
      ∷ (BadCommand, holds_of (commands.is_bad_command h k) command)
      ∷ (Busy, holds_of (has_busy_slot h k) command || list_any (λ p. moves.is_being_moved h k r.id || moves.awaits_binding h k r.id) (positions_of giving) || list_any (λ q. moves.awaits_binding h k r.id) (crossings_of giving))
      ∷ (NotInProfile, holds_of (has_left_out_endpoint h k) command || list_any (interrupts r.shape k.memory a w) (crossings_of giving))
      ∷ (BadMove, holds_of (places_badly h k) command) ∷ []

  quiet_is : (giving : Option RingGiving) → positions_of giving ≡ [] → first_broken (of_ring giving None) ≡ first_broken (given_tests h k r k.memory a w giving None)
  unfolding holds_of
  quiet_is giving e = search rules

  placed_is : (p : ℕ) (command : Option Command) → ((c : Command) → command ≡ Some c → IsStill) →
      first_broken (of_ring (Some (Position p)) command) ≡ first_broken (given_tests h k r k.memory a w (Some (Position p)) command)
  unfolding holds_of
  placed_is p command e = search (rules, or_false)

  pub tests_are : (giving : Option RingGiving) (command : Option Command) → GivesOnPosition giving command →
      ((c : Command) → command ≡ Some c → IsStill) → first_broken (of_ring giving command) ≡ first_broken (given_tests h k r k.memory a w giving command)
  tests_are giving command e f = search (rules, quiet_is, placed_is)

module _ (h : Header) (headed : IsHeader h) (k : Known) (on : k.stopped ≡ false) (a w : ℕ) where
  -- the rules of the trace's version
  abbrev version_tests_with : Bool → Bool → Bool → List Test
  version_tests_with busy left_out badly_placed =
      (WriteToOwned, writes_to_owned h k a w)
      ∷ (NotAsSubmitted, some_given h k a w (λ r p. is_other_than_declared (shape_of h r) (k.ring r) k.memory a w p))
      ∷ (NotDeclared, some_given h k a w (λ r p. is_not_declared (k.ring r) p))
      ∷ (NotWhole, some_given h k a w (λ r p. is_not_whole (shape_of h r) (k.ring r) p))
      ∷ (LinkFault, some_crossed h k a w (λ r q. leads_wrong (shape_of h r) k.memory a w q))
      ∷ (BadCommand, some_command h k a w (commands.is_bad_command h k))
      ∷ (Busy, busy)
      ∷ (NotInProfile, left_out)
      ∷ (BadMove, badly_placed) ∷ []

  abbrev version_tests : List Test
  version_tests =
      version_tests_with
      (holds_of (has_busy_slot h k) (command_given h k a w) || some_given h k a w (λ r p. moves.is_being_moved h k r || moves.awaits_binding h k r) || some_crossed h k a w (λ r q. moves.awaits_binding h k r))
      (holds_of (has_left_out_endpoint h k) (command_given h k a w) || some_crossed h k a w (λ r q. interrupts (shape_of h r) k.memory a w q))
      (holds_of (places_badly h k) (command_given h k a w))

  -- the rule on commands of one slot, as the trace's version has it
  busy_is : (c : Option Command) (given crossed : Bool) →
      (holds_of (is_busy_before h k) c || (holds_of (commands.is_busy h k) c || given || crossed)) ≡ (holds_of (has_busy_slot h k) c || given || crossed)
  unfolding holds_of has_busy_slot
  busy_is c given crossed = search (rules, or_assoc)

  -- and that on left-out endpoints
  left_out_is : (c : Option Command) (later : Bool) →
      ((holds_of (commands.adds_isochronous h k) c && not (is_lenient h.version)) || (holds_of (commands.adds_streams h k) c || later)) ≡ (holds_of (has_left_out_endpoint h k) c || later)
  unfolding holds_of has_left_out_endpoint
  left_out_is c later = search (rules, or_assoc)

  -- and that on bindings
  badly_placed_is : (c : Option Command) →
      ((holds_of (moves.binds_again h k) c && not (is_lenient h.version)) || holds_of (λ d. moves.is_bad_binding h k d || moves.is_bad_move h k d) c) ≡ holds_of (places_badly h k) c
  unfolding holds_of places_badly
  badly_placed_is c = search (rules, or_assoc)

  pub least_is : first_of (broken h k (Write a w)) ≡ first_broken version_tests
  unfolding broken tests lenient_tests write_tests older stricter writes_to_owned some_command
  least_is = search (rules, busy_is, left_out_is, badly_placed_is, first_broken-is)

  -- the write is to what the controller owns
  pub owned : writes_to_owned h k a w ≡ true → IsLeast h k (Write a w) WriteToOwned
  unfolding write_tests
  owned owns = least_is ∙ rw owns refl

  -- whatever the version, nobody but the controller may write the word
  the_controllers : is_the_controllers h k a ≡ true → writes_to_owned h k a w ≡ true
  unfolding writes_to_owned changes_owned
  the_controllers owns = search (rules, or_right, or_left)

  module _ (aligned : a % 4 ≡ 0) where
    -- an event segment has it
    pub owned_by_events : (e : Ring) → IsAmong e h.rings → is_event_kind e.shape.kind ≡ true → touches e.shape a 4 ≡ true → IsLeast h k (Write a w) WriteToOwned
    owned_by_events e among event has = owned (the_controllers (owned_in_events h headed k a aligned e among event has))

    -- no ring has it
    pub nothing_breaks : ((q : Ring) → IsAmong q h.rings → touches q.shape a 4 ≡ false) → writes_to_owned h k a w ≡ false → command_given h k a w ≡ None → first_of (broken h k (Write a w)) ≡ None
    unfolding write_tests some_given some_crossed some_command holds_of
    nothing_breaks none free no_command = least_is ∙ rw (free, given_nowhere h headed k a aligned none w, no_command) refl

    -- a command or transfer ring has it
    module _ (r : Ring) (among : IsAmong r h.rings) (driver : is_driver_kind r.shape.kind ≡ true) (has : touches r.shape a 4 ≡ true) (free : writes_to_owned h k a w ≡ false) where
      given_is : (test : ℕ → ℕ → Bool) → some_given h k a w test ≡ list_any (test r.id) (positions_given r.shape (k.ring r.id) a w)
      unfolding some_given on_position
      given_is test = search (rules, given_by_one h headed k a aligned r among driver has w, any_append, any_map, any_nowhere, or_false)

      crossed_is : (test : ℕ → ℕ → Bool) → some_crossed h k a w test ≡ list_any (test r.id) (crossings_given r.shape (k.ring r.id) a w)
      unfolding some_crossed on_crossing
      crossed_is test = search (rules, given_by_one h headed k a aligned r among driver has w, any_append, any_map, any_nowhere)

      module _ (giving : Option RingGiving) (command : Option Command) (positions : positions_given r.shape (k.ring r.id) a w ≡ positions_of giving)
          (crossings : crossings_given r.shape (k.ring r.id) a w ≡ crossings_of giving) (gives : command_given h k a w ≡ command) where
        all_are : version_tests ≡ of_ring h k a w r giving command
        unfolding write_tests some_command
        all_are = search (rules, given_is, crossed_is, shape_there)

        -- the least rule that it breaks
        pub least_of_ring : GivesOnPosition giving command → ((c : Command) → command ≡ Some c → IsStill h k a w r) →
            first_of (broken h k (Write a w)) ≡ first_broken (given_tests h k r k.memory a w giving command)
        least_of_ring quiet still = least_is ∙ ap first_broken all_are ∙ tests_are h k a w r giving command quiet still
