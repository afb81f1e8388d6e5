-- The command that a write gives, by the ring that has the word
use Rattle.driver_rows.proofs.LowerLaws.{arith, rules, ◌≡◌, ◌∙◌, ℕ, Bool, true, false, if◌then◌else◌, [], Option, Some, None, refl, ap, sym, subst, slice_get, RingKind, touches, positions_given, Command, SetTrDequeue, Header, Ring, Row, Write, Bell, IsHeader, is_command_kind, is_driver_kind, Known, command_given, positions_of, Position, none_here, among_at, RowPlace, IsGivenBy, IsGivenOn, IsPlacedSo, ring_moved, ring_restored, some_flips, GivesCommandAt, command_on, command_is, none_nowhere, inside_is, found_at}

pub command_drives : (kind : RingKind) → is_command_kind kind ≡ true → is_driver_kind kind ≡ true
command_drives kind e = search rules

module _ (h : Header) (headed : IsHeader h) (k : Known) (a w : ℕ) (place : RowPlace) (placed : IsPlacedSo h k a w place) where
  -- no ring has the word
  none_without : place.ring ≡ None → command_given h k a w ≡ None
  none_without none =
      none_nowhere h headed k a w placed.aligned (λ q among. sym (inside_is h headed k a placed.aligned q among) ∙ none_here h (λ q. touches q.shape a 4) h.rings (sym placed.ring ∙ none) refl q among)

  -- one has it
  module _ (n : ℕ) (ring : Ring) (there : slice_get h.rings n ≡ Some ring) (has : touches ring.shape a 4 ≡ true) where
    by_ring : command_given h k a w ≡ (if is_command_kind ring.shape.kind then command_on (k.ring ring.id) (positions_given ring.shape (k.ring ring.id) a w) else None)
    by_ring = command_is h headed k a w placed.aligned ring (among_at h.rings n ring there) (sym (inside_is h headed k a placed.aligned ring (among_at h.rings n ring there)) ∙ has)

    none_on : is_command_kind ring.shape.kind ≡ false → command_given h k a w ≡ None
    none_on other = by_ring ∙ ap (λ (b : Bool). if b then command_on (k.ring ring.id) (positions_given ring.shape (k.ring ring.id) a w) else None) other

    module _ (at : place.ring ≡ Some n) (command : is_command_kind ring.shape.kind ≡ true) where
      pub positions_are : positions_given ring.shape (k.ring ring.id) a w ≡ positions_of place.giving
      positions_are = grind (arith, IsGivenOn, Option, IsGivenBy, command_drives, subst (λ (o : Option ℕ). IsGivenBy h k a w o place.giving) at placed.given ring there)

      given_on : command_given h k a w ≡ command_on (k.ring ring.id) (positions_of place.giving)
      given_on = search (rules, by_ring, positions_are)

  -- ---- the write moves a ring

  module _ (r : ℕ) (moves : ring_restored h k (Write a w) ≡ Some r) where
    not_none : command_given h k a w ≡ None → ⊥
    unfolding ring_restored ring_moved
    not_none none = let e : None ≡ Some r = sym (ap (ring_moved k) none) ∙ moves in cc e

    pub no_ring_moves : place.ring ≡ None → ⊥
    no_ring_moves none = not_none (none_without none)

    module _ (n : ℕ) (at : place.ring ≡ Some n) where
      touched : (q : Ring) × (slice_get h.rings n ≡ Some q) × (touches q.shape a 4 ≡ true)
      touched = found_at (λ q. touches q.shape a 4) h.rings n (sym placed.ring ∙ at)

      commands : is_command_kind touched.0.shape.kind ≡ true
      commands = search (rules, touched, not_none, none_on)

      pub nothing_moves : positions_of place.giving ≡ [] → ⊥
      nothing_moves none = not_none (given_on n touched.0 touched.1 touched.2 at commands ∙ ap (command_on (k.ring touched.0.id)) none)

      pub gives_at : (p : ℕ) → place.giving ≡ Some (Position p) → GivesCommandAt h k a w n p
      gives_at p giving = search (rules, touched, commands, positions_are)

-- ---- by the kinds of commands and rows

pub moved_by_others : (k : Known) (c : Command) → ((s i p : ℕ) (cycle : Bool) → c ≡ SetTrDequeue s i p cycle → ⊥) → ring_moved k (Some c) ≡ None
unfolding ring_moved
moved_by_others k c e = search rules

module _ (h : Header) (k : Known) where
  pub restored_by_others : (row : Row) → ((a w : ℕ) → row ≡ Write a w → ⊥) → ((s t : ℕ) → row ≡ Bell s t → ⊥) → ring_restored h k row ≡ None
  unfolding ring_restored
  restored_by_others row e f = search rules

  pub flips_by_others : (row : Row) → ((a w : ℕ) → row ≡ Write a w → ⊥) → some_flips h k row ≡ false
  unfolding some_flips
  flips_by_others row e = search rules
