-- What is lent after a clean write: what it gives comes under lease, at a free place, and the ranges that its command takes
use Rattle.leases.proofs.UpperLaws.{not-true, ◌≡◌, ◌+◌, ◌<◌, ◌≤◌, ◌%◌, ◌^◌, ◌∷◌, ◌++◌, ◌∙◌, ◌&&◌, ℕ, List, [], true, false, None, Some, Option, refl, ap, sym, arith, inl, inr, subst, nat_lt, length, not, map, max, option_and_then, slice_get, eqb-true, ltb-true, leb-true, get_or, cases_Bool, flat_map, and_parts, or_cases, nat_tests, slice_get_read, put, Command, named_context, is_crossing, is_inside, place_count, touches, crossings_given, due_crossings, due_positions, floor_number, gives, gives_crossing, is_crossing_due, positions_given, link_of, Ring, Header, Write, IsHeader, command_id, is_command_kind, is_driver_kind, is_event_kind, shape_of, RingGiving, RingRecord, FollowsRing, crossings_of, positions_of, Known, command_given, entry_of, taken_device, noted_past, Leased, Block, Link, InputContext, range_of_command, range_of_context, as_lease, comes_before, IsIn, from_filter, DriverKeeps, area_parts, written_devices, taking, rules_of, written_device, Lent, in_turn, is_place_free, precedes, with_begun, with_leased, is_use_free, command_found, ring_here, shape_allowed, shape_there, and_false, IsAmong, among_at, same_number, TraceRecord, RowPlace, FollowsTrace, IsGivenBy, IsPlacedSo, EntryFits, SlotIsFree, command_taken, slot_taken, IsNextRow, grown, slice_get_cases, slice_get_within, command_id_is, rules, block_free, from_range, lease_given, among_drivers, are_shaped, commanded_elsewhere, commanded_here, commanded_nowhere, given_by_one, given_nowhere, begun_none, still_free}
use Rattle.ring_knowledge.specs.declared.ring_record.RingGiving.TheVariants.{Position, Crossing}
use Rattle.leases.proofs.LeaseBooks.FreeLinks.{NoneAhead, link_free}
use Rattle.leases.proofs.LeaseBooks.FreeRanges.{context_free, device_free, entry_free}
use Rattle.leases.proofs.LeaseBooks.GivingCommands.{MayTake, device_taken, entry_taken, lent_commands}
use Rattle.leases.proofs.LeaseRows.TransferRows.{driver_there}
use Rattle.ring_knowledge.specs.Rings as rings

-- a lap ahead of the least crossing none is given
pub none_ahead : (q : Ring) (k : Known) (r : RingRecord) → FollowsRing q.shape (k.ring q.id) r → NoneAhead q.shape (k.ring q.id)
none_ahead q k r f m far = search (rules, is_crossing, noted_past, link_of, and_false)

-- ---- the order of leases that begin at one row: a block, and then ranges by their bytes

command_in_turn : (h : Header) (k : Known) (r p : ℕ) (c : Option ℕ) (o : Option (ℕ × ℕ)) →
    in_turn (Block r p ∷ ((range_of_context h p c ++ []) ++ entry_taken k o ++ device_taken h o)) ≡ Block r p ∷ (slot_taken h k o ++ range_of_context h p c)
unfolding range_of_context in_turn with_leased precedes comes_before as_lease
command_in_turn h k r p c o = grind arith

put_there : (f : ℕ → Option ℕ) (s : ℕ) (o : Option ℕ) → put f s o s ≡ o
put_there f s o = rw (same_number s) refl

low_end : (a n : ℕ) → nat_lt a n ≡ false → n ≤ a
low_end a n e = grind (arith, nat_tests, e)

module _ (h : Header) (headed : IsHeader h) (k : Known) (ts : List Lent) (a w number : ℕ) (t : TraceRecord) (memory : ℕ → ℕ) (next : IsNextRow h k ts (Write a w) t memory) where
  keeps : DriverKeeps h k
  keeps = next.keeps

  abbrev taken : Option (ℕ × ℕ)
  taken = option_and_then (taken_device k) (command_given h k a w)

  may_take : (o : Option (ℕ × ℕ)) → taken ≡ o → MayTake k o
  may_take None is = tt
  may_take (Some e) is = search (rules, taking h k a w e next.clean is, written_device, put_there, written_devices h headed k keeps a w next.clean e.0 e.1)

  fits : (o : Option (ℕ × ℕ)) → taken ≡ o → EntryFits k o
  fits None is = tt
  fits (Some e) is = low_end (2 ^ 64) (entry_of k e.0 + 8) (area_parts h k (entry_of k e.0) 8 (rules_of h headed k keeps a w next.clean e is).entry_area).ends

  taken_at : List ℕ → Option (ℕ × ℕ)
  taken_at ps = option_and_then (taken_device k) (option_and_then (rings.command_at h k) (slice_get ps 0))

  begun_of : List rings.Given → List ℕ → List Leased
  begun_of gs ps = in_turn (map lease_given gs ++ (flat_map (λ p. range_of_command h p (rings.command_at h k p)) ps ++ entry_taken k (taken_at ps) ++ device_taken h (taken_at ps)))

  lent_of : (gs : List rings.Given) (ps : List ℕ) → rings.given_by h k a w ≡ gs → positions_given (shape_of h (command_id h)) (k.ring (command_id h)) a w ≡ ps →
      grown h k (Write a w) number ts ≡ with_begun number ts (begun_of gs ps)
  unfolding command_given begun_of taken_at
  lent_of gs ps given positions = search (rules, lent_commands, are_shaped, keeps, driver_there, may_take, with_begun, begun_of, positions_given, shape_of, command_id)

  nothing_begun : rings.given_by h k a w ≡ [] → positions_given (shape_of h (command_id h)) (k.ring (command_id h)) a w ≡ [] → grown h k (Write a w) number ts ≡ ts
  unfolding in_turn begun_of taken_at
  nothing_begun given positions = lent_of [] [] given positions ∙ begun_none number ts

  alone_begun : (g : rings.Given) → rings.given_by h k a w ≡ g ∷ [] → positions_given (shape_of h (command_id h)) (k.ring (command_id h)) a w ≡ [] → grown h k (Write a w) number ts ≡ with_begun number ts (lease_given g ∷ [])
  unfolding in_turn with_leased begun_of taken_at
  alone_begun g given positions = lent_of (g ∷ []) [] given positions

  -- no command or transfer ring has the word
  module _ (aligned : a % 4 ≡ 0) where
    pub lent_nowhere : ((q : Ring) → IsAmong q h.rings → is_driver_kind q.shape.kind ≡ true → is_inside q.shape a ≡ false) → grown h k (Write a w) number ts ≡ ts
    lent_nowhere outside = nothing_begun (given_nowhere h headed k a aligned w outside) (commanded_nowhere h headed k a aligned w outside)

    -- one has it
    module _ (q : Ring) (among : IsAmong q h.rings) (driver : is_driver_kind q.shape.kind ≡ true) (has : touches q.shape a 4 ≡ true) (giving : Option RingGiving)
        (positions : positions_given q.shape (k.ring q.id) a w ≡ positions_of giving) (crossings : crossings_given q.shape (k.ring q.id) a w ≡ crossings_of giving) where
      given_is : (g : Option RingGiving) → giving ≡ g → rings.given_by h k a w ≡ map (rings.Position q.id) (positions_of g) ++ map (rings.Crossing q.id) (crossings_of g)
      given_is g is = search (rules, given_by_one, crossings_given, positions_of, crossings_of)

      -- of the command ring nothing is given where that is another, or where no position is given
      commanded_none : positions_of giving ≡ [] → positions_given (shape_of h (command_id h)) (k.ring (command_id h)) a w ≡ []
      commanded_none none = search (rules, is_command_kind, positions_given, shape_of, command_id, commanded_here, commanded_elsewhere)

      pub lent_none : giving ≡ None → grown h k (Write a w) number ts ≡ ts
      lent_none is = nothing_begun (given_is None is) (commanded_none (ap positions_of is))

      pub lent_link : (c : ℕ) → giving ≡ Some (Crossing c) → grown h k (Write a w) number ts ≡ with_begun number ts (Link q.id c ∷ [])
      lent_link c is = alone_begun (rings.Crossing q.id c) (given_is (Some (Crossing c)) is) (commanded_none (ap positions_of is))

      module _ (p : ℕ) (is : giving ≡ Some (Position p)) where
        lent_block : is_command_kind q.shape.kind ≡ false → grown h k (Write a w) number ts ≡ with_begun number ts (Block q.id p ∷ [])
        lent_block other = alone_begun (rings.Position q.id p) (given_is (Some (Position p)) is) (commanded_elsewhere h headed k a aligned w q among driver has other)

        module _ (command : is_command_kind q.shape.kind ≡ true) where
          pub is_there : command_id h ≡ q.id
          is_there = command_id_is h q (command_found h headed q among command)

          pub shape_is : shape_of h (command_id h) ≡ q.shape
          shape_is = ap (shape_of h) is_there ∙ shape_there h headed q among

          commanded : positions_given (shape_of h (command_id h)) (k.ring (command_id h)) a w ≡ p ∷ []
          commanded = commanded_here h headed k a aligned w q among driver has command ∙ positions ∙ ap positions_of is

          command_is : (o : Option Command) → rings.command_at h k p ≡ o → command_given h k a w ≡ o
          unfolding command_given
          command_is o at = ap (λ ps. option_and_then (rings.command_at h k) (slice_get ps 0)) commanded ∙ at

          taken_is : (c : Command) → rings.command_at h k p ≡ Some c → taken ≡ taken_device k c
          taken_is c at = ap (option_and_then (taken_device k)) (command_is (Some c) at)

          lent_undeclared : rings.command_at h k p ≡ None → grown h k (Write a w) number ts ≡ with_begun number ts (Block q.id p ∷ [])
          unfolding begun_of taken_at range_of_command range_of_context with_begun
          lent_undeclared none = lent_of (rings.Position q.id p ∷ []) (p ∷ []) (given_is (Some (Position p)) is) commanded
              ∙ rw none (ap (with_begun number ts) (command_in_turn h k q.id p None None))

          pub lent_command : (c : Command) → rings.command_at h k p ≡ Some c → grown h k (Write a w) number ts ≡ with_begun number ts ((Block q.id p ∷ []) ++ command_taken h k p c)
          unfolding begun_of taken_at range_of_command range_of_context with_begun
          lent_command c at = lent_of (rings.Position q.id p ∷ []) (p ∷ []) (given_is (Some (Position p)) is) commanded
              ∙ rw at (ap (with_begun number ts) (command_in_turn h k q.id p (named_context c) (taken_device k c)))

          pub command_fits : (c : Command) → rings.command_at h k p ≡ Some c → EntryFits k (taken_device k c)
          command_fits c at = fits (taken_device k c) (taken_is c at)

          slot_free : (o : Option (ℕ × ℕ)) → MayTake k o → SlotIsFree h (with_begun number ts (Block q.id p ∷ [])) o
          slot_free o may = grind (arith, still_free, entry_free, device_free)

          pub command_slot_free : (c : Command) → rings.command_at h k p ≡ Some c → SlotIsFree h (with_begun number ts (Block q.id p ∷ [])) (taken_device k c)
          command_slot_free c at = slot_free (taken_device k c) (may_take (taken_device k c) (taken_is c at))

        -- of a ring that isn't the command ring no command is given
        none_elsewhere : is_command_kind q.shape.kind ≡ false → command_given h k a w ≡ None
        unfolding command_given
        none_elsewhere other = ap (λ ps. option_and_then (rings.command_at h k) (slice_get ps 0)) (commanded_elsewhere h headed k a aligned w q among driver has other)

        pub given_kind : (c : Command) → command_given h k a w ≡ Some c → is_command_kind q.shape.kind ≡ true
        given_kind c some = search (rules, is_command_kind, none_elsewhere)

        pub given_there_is : is_command_kind q.shape.kind ≡ true → (o : Option Command) → command_given h k a w ≡ o → rings.command_at h k p ≡ o
        given_there_is command o said = sym (command_is command (rings.command_at h k p) refl) ∙ said

        pub lent_without : command_given h k a w ≡ None → grown h k (Write a w) number ts ≡ with_begun number ts (Block q.id p ∷ [])
        lent_without none = grind (arith, cases_Bool, is_command_kind, lent_undeclared, given_there_is, lent_block)

        -- a position that is given is due, and wasn't given before
        due_now : (floor_number (k.ring q.id) ≤ p) × (p < floor_number (k.ring q.id) + place_count q.shape) × ((k.ring q.id).given p ≡ false)
        unfolding positions_given due_positions
        due_now = search (rules, from_filter (λ m. not ((k.ring q.id).given m) && gives q.shape (k.ring q.id).floor m a w) (due_positions q.shape (k.ring q.id)) p (subst (IsIn p) (sym (positions ∙ ap positions_of is)) (inl refl)), from_range, not-true, and_parts)

        pub place_free : is_place_free h ts (Block q.id p) ≡ true
        place_free = search (rules, block_free, are_shaped, among_drivers, shape_allowed, due_now)

        pub command_context_free : is_command_kind q.shape.kind ≡ true → is_use_free h (with_begun number ts (Block q.id p ∷ [])) (InputContext p) ≡ true
        command_context_free command = search (rules, is_there, shape_is, shape_of, command_id, still_free, context_free, shape_allowed, due_now)

      module _ (r : RingRecord) (f : FollowsRing q.shape (k.ring q.id) r) (c : ℕ) (is : giving ≡ Some (Crossing c)) where
        given_there : (not ((k.ring q.id).crossed c) ≡ true) × (gives_crossing q.shape (k.ring q.id).floor c a w ≡ true)
        unfolding crossings_given due_crossings
        given_there = and_parts _ _ (from_filter (λ m. not ((k.ring q.id).crossed m) && gives_crossing q.shape (k.ring q.id).floor m a w) (due_crossings q.shape (k.ring q.id)) c
            (subst (IsIn c) (sym (crossings ∙ ap crossings_of is)) (inl refl))).1

        due : is_crossing_due q.shape (k.ring q.id).floor c ≡ true
        due = (and_parts _ _ (and_parts (is_crossing_due q.shape (k.ring q.id).floor c && _) _ given_there.1).0).0

        parts : (is_crossing q.shape c ≡ true) × (floor_number (k.ring q.id) ≤ c) × (c < max (floor_number (k.ring q.id)) 1 + place_count q.shape)
        parts = search (rules, and_parts, is_crossing, due, leb-true, or_cases, ltb-true, eqb-true)

        pub crosses : is_crossing q.shape c ≡ true
        crosses = parts.0

        pub link_is_free : is_place_free h ts (Link q.id c) ≡ true
        link_is_free = grind (arith, link_free, are_shaped, among_drivers, shape_allowed, none_ahead, parts, not-true, given_there)

-- there is a record of each ring
record_at : (h : Header) (items : List RingRecord) (n : ℕ) (q : Ring) → length items ≡ length h.rings → slice_get h.rings n ≡ Some q → (r : RingRecord) × (slice_get items n ≡ Some r)
record_at h items n q as_many at = elim (slice_get_cases items n).1 [ inl found ↦ (found.0, found.2) | inr past ↦ absurd (omega (arith, as_many, past.0, slice_get_within h.rings n q at)) ]

-- the ring that a row's word lies in, its record, and what the write gives of it
pub record AtRing (h : Header) (k : Known) (a w : ℕ) (q : Ring) (giving : Option RingGiving) : Type 0 where
  pub among : IsAmong q h.rings
  pub driver : is_driver_kind q.shape.kind ≡ true
  pub has : touches q.shape a 4 ≡ true
  pub known : RingRecord
  pub follows : FollowsRing q.shape (k.ring q.id) known
  pub positions : positions_given q.shape (k.ring q.id) a w ≡ positions_of giving
  pub crossings : crossings_given q.shape (k.ring q.id) a w ≡ crossings_of giving

pub at_ring : (h : Header) (k : Known) (t : TraceRecord) (memory : ℕ → ℕ) → FollowsTrace h k t memory → (a w n : ℕ) (p : RowPlace) (q : Ring) → IsPlacedSo h k a w p → p.ring ≡ Some n →
    q ≡ get_or h.rings n q → is_event_kind q.shape.kind ≡ false → AtRing h k a w q p.giving
at_ring h k t memory follows a w n p q placed is item other =
    let here = ring_here h (λ x. touches x.shape a 4) h.rings n q (sym placed.ring ∙ is) refl item in
    let given = subst (λ (o : Option ℕ). IsGivenBy h k a w o p.giving) is placed.given q here.0 in
    let record_of = record_at h t.rings.items n q follows.rings.as_many here.0 in
    search (rules, among_at h.rings n q here.0, ap not other, follows.rings.each n q record_of.0 here.0 record_of.1, given.positions, given.crossings)

-- what a look-up has found
pub record_there : (xs ys : List RingRecord) (n : ℕ) (r : RingRecord) → xs ≡ ys → true ≡ nat_lt n (length xs) → r ≡ get_or xs n r → slice_get ys n ≡ Some r
record_there xs ys n r same below item = ap (λ zs. slice_get zs n) (sym same) ∙ slice_get_read xs (length xs) n r refl (ltb-true n (length xs) (sym below)) item
