-- What is lent behind a reset: the leases end of the ranges of slots, of the segment table and of input contexts, and of all that was given of the
-- command ring
use Rattle.leases.proofs.UpperLaws.{arith, not, ◌≡◌, ◌≢◌, ◌+◌, ◌<◌, ◌≤◌, ◌==◌, ◌&&◌, ◌||◌, ◌∷◌, ◌∙◌, ℕ, Bool, true, false, List, [], None, map, filter, nat_le, nat_lt, refl, sym, ap, subst, inl, inr, le-leb, and_from, and_parts, or_parts, cases_Bool, cases_option, false≢true, nat_tests, flat_map, slots, RingKeeps, RingView, Shape, due_positions, floor_number, place_count, Header, IsHeader, Ring, Known, DriverKeeps, IsDriverRing, Reg, Erstba, command_id, command_ring, driver_rings, shape_of, open_leases, context_ranges, device_ranges, entry_ranges, table_range, range_of_device, range_of_entry, Leased, Block, Link, Range, IsIn, from_filter, is_among, among_is, in_among, both_ways, Lent, AreOpen, ended_where, grown, passed_on, is_passed, is_input_context, is_of_slot, lenient, register_facts, ring_found, ring_shape, none-some, reset, resets, given_up, held_at_given, is_bad_register, due_has_ring, floor_given, ring_with, no_ring, is_crossing, lt-ltb, range_of_command, not-true, if◌then◌else◌, learned, open_on, Usbcmd, given_count, any_of, reset_bit, is_done, is_ring, id_of, false_from_ne_true, cond_both, InOn, block, from_flat_map, from_range, in_on, in_range, link, IsRange, each_open, open_are_ranges, ring_open, segment_open, AreLent, IsAmong, command_found, command_id_is, driven_kind, is_command_kind, or_false, still_lent, all_twice, ended_alike, only_passed, all_ended, flat_none, are_shaped, from_drivers, contexts_are, devices_are, entries_are, is_segment, is_table, open_context, part_of, rings_no_range, segments_are, tables_are, floor_behind, table_open, IsInStep}
use Rattle.leases.proofs.RingLeases.OpenParts.OpenPart.{context, device, entry, on_ring, segment, table}
use Rattle.ownership_rules.specs.Registers as registers
use Rattle.safety.proofs.ResetRuns.ResetKeeps as behind
use Rattle.ring_knowledge.specs.Rings as rings

no_positions : (p : ℕ → Bool) (xs : List ℕ) → ((x : ℕ) → IsIn x xs → p x ≡ false) → filter p xs ≡ []
no_positions p [] none = refl
no_positions p (x ∷ xs) none = rw (none x (inl refl)) (no_positions p xs (λ y at. none y (inr at)))

-- a ring that isn't the command ring is held
on_held : (q : Ring) (s : Shape) (v : RingView) (l : Leased) → InOn q (held_at_given s v) l → InOn q v l
unfolding held_at_given
on_held q s v _ (block p low high given) = block p low high given
on_held q s v _ (link c low high crossed) = link c low high crossed

held_on : (q : Ring) (s : Shape) (v : RingView) (l : Leased) → InOn q v l → InOn q (held_at_given s v) l
unfolding held_at_given
held_on q s v _ (block p low high given) = block p low high given
held_on q s v _ (link c low high crossed) = link c low high crossed

passed_not : (r s from to p : ℕ) → to ≤ p → (r == s && nat_le from p && nat_lt p to) ≡ false
passed_not r s from to p late = grind (arith, nat_tests, late)

passed_other : (r s from to p : ℕ) → r ≢ s → (r == s && nat_le from p && nat_lt p to) ≡ false
passed_other r s from to p other = grind (arith, nat_tests, other)

passed_late : (r from to p : ℕ) → (r == r && nat_le from p && nat_lt p to) ≡ false → from ≤ p → to ≤ p
passed_late r from to p none low = grind (arith, nat_tests, none, low)

-- the command ring of a header is one of the driver's
pub command_there : (h : Header) → IsHeader h → (q : Ring) → IsAmong q h.rings → is_command_kind q.shape.kind ≡ true → IsDriverRing h (command_id h)
command_there h is q among command = record { ring = q; found = ap (ring_with h) (command_id_is h q (command_found h is q among command)) ∙ ring_found h is q among; kind = driven_kind q.shape.kind command }

module _ (h : Header) (is : IsHeader h) (k : Known) (d : DriverKeeps h k) (value : ℕ) (clean : lenient h k (Reg Usbcmd value) ≡ []) (on : resets k Usbcmd value ≡ true) where
  abbrev c : ℕ
  c = command_id h

  abbrev v : RingView
  v = k.ring c

  abbrev shape : Shape
  shape = shape_of h c

  abbrev count : ℕ
  count = given_count shape v

  abbrev k' : Known
  k' = reset h k

  no_gap : registers.has_gap h k ≡ false
  unfolding is_bad_register registers.is_bad_command_register registers.is_early_reset resets
  no_gap =
      let parts = and_parts (is_done k.halt) (reset_bit value) on in
      let good = (register_facts h k Usbcmd value clean).good in
      let asked = behind.done_asked k.halt parts.0 in
      let started = d.run.started asked in
      let again = d.run.again asked in
      (grind arith)

  -- ---- the command ring

  module _ (there : IsDriverRing h c) where
    keeps : RingKeeps shape k.memory v
    keeps = d.rings c there

    pub floor_below : floor_number v ≤ count
    floor_below = floor_given shape (ring_shape h is c there).is k.memory v keeps

    -- what is given lies below the count
    below_count : (p : ℕ) → v.given p ≡ true → count ≤ p → ⊥
    unfolding registers.has_gap due_positions
    below_count p given from =
        let low = floor_below in
        false≢true (sym no_gap ∙ any_of (λ q. v.given q && nat_le count q) (due_positions shape v) p (in_range (floor_number v) (place_count shape) p (omega arith) (keeps.given_within p given))
        (and_from (v.given p) (nat_le count p) given (le-leb count p from)))

    crossed_near : (q : ℕ) → v.crossed q ≡ true → q < floor_number v + (place_count shape + 1)
    crossed_near q crossed = elim (keeps.crossed_within q crossed) [ inl near ↦ omega arith | inr end ↦ omega (arith, end.0) ]

  -- ---- the rings

  abbrev pub passes : Leased → Bool
  passes l = is_passed c (floor_number v) count l

  module _ (q : Ring) (at : IsIn q (driver_rings h)) where
    driven : IsDriverRing h q.id
    driven = let among = from_drivers h q at in record { ring = q; found = ring_found h is q among.0; kind = among.1 }

    shaped : shape_of h q.id ≡ q.shape
    shaped = are_shaped h is q at

    module _ (same : is_ring q.id (id_of (command_ring h)) ≡ true) where
      id : q.id ≡ c
      id = behind.is_command h q.id is same

      there : IsDriverRing h c
      there = subst (IsDriverRing h) id driven

      view : k'.ring q.id ≡ given_up (shape_of h q.id) (k.ring q.id)
      view = behind.view_command h k q.id same

      floor_now : floor_number (k'.ring q.id) ≡ count
      floor_now = ap (λ w. floor_number w) view ∙ floor_behind (shape_of h q.id) (k.ring q.id) ∙ ap (λ (n : ℕ). given_count (shape_of h n) (k.ring n)) id

      given_now : (p : ℕ) → (k'.ring q.id).given p ≡ v.given p
      unfolding given_up
      given_now p = ap (λ w. w.given p) view ∙ ap (λ (n : ℕ). (k.ring n).given p) id

      crossed_now : (p : ℕ) → (k'.ring q.id).crossed p ≡ v.crossed p
      unfolding given_up
      crossed_now p = ap (λ w. w.crossed p) view ∙ ap (λ (n : ℕ). (k.ring n).crossed p) id

      places_here : place_count q.shape ≡ place_count shape
      places_here = ap place_count (sym shaped ∙ ap (shape_of h) id)

      was_command : (l : Leased) → InOn q (k'.ring q.id) l → InOn q (k.ring q.id) l × (passes l ≡ false)
      was_command _ (block p low high given) =
          absurd (below_count there p (sym (given_now p) ∙ (and_parts ((k'.ring q.id).given p) _ given).0) (omega (arith, low, floor_now)))
      was_command _ (link e low high crossed) =
          let parts = and_parts (is_crossing q.shape e) ((k'.ring q.id).crossed e) crossed in
          let was : v.crossed e ≡ true = sym (crossed_now e) ∙ parts.1 in
          let floor_is : floor_number (k.ring q.id) ≡ floor_number v = ap (λ (n : ℕ). floor_number (k.ring n)) id in (
            link e (omega (arith, low, floor_now, floor_below there, floor_is)) (omega (arith, crossed_near there e was, places_here, floor_is))
                (and_from (is_crossing q.shape e) ((k.ring q.id).crossed e) parts.0 (ap (λ (n : ℕ). (k.ring n).crossed e) id ∙ was)),
            passed_not c q.id (floor_number v) count e (omega (arith, low, floor_now)),
          )

      stays_command : (l : Leased) → InOn q (k.ring q.id) l → passes l ≡ false → InOn q (k'.ring q.id) l
      stays_command _ (block p low high given) none =
          let floor_is : floor_number (k.ring q.id) ≡ floor_number v = ap (λ (n : ℕ). floor_number (k.ring n)) id in
          let was : v.given p ≡ true = ap (λ (n : ℕ). (k.ring n).given p) (sym id) ∙ (and_parts ((k.ring q.id).given p) _ given).0 in
          absurd (below_count there p was
          (passed_late c (floor_number v) count p (subst (λ (n : ℕ). (c == n && nat_le (floor_number v) p && nat_lt p count) ≡ false) id none) (omega (arith, low, floor_is))))
      stays_command _ (link e low high crossed) none =
          let floor_is : floor_number (k.ring q.id) ≡ floor_number v = ap (λ (n : ℕ). floor_number (k.ring n)) id in
          let parts = and_parts (is_crossing q.shape e) ((k.ring q.id).crossed e) crossed in
          let late = passed_late c (floor_number v) count e (subst (λ (n : ℕ). (c == n && nat_le (floor_number v) e && nat_lt e count) ≡ false) id none) (omega (arith, low, floor_is)) in
          link e (omega (arith, late, floor_now)) (omega (arith, high, floor_is, floor_now, floor_below there))
          (and_from (is_crossing q.shape e) ((k'.ring q.id).crossed e) parts.0 (crossed_now e ∙ ap (λ (n : ℕ). (k.ring n).crossed e) (sym id) ∙ parts.1))

    module _ (apart : is_ring q.id (id_of (command_ring h)) ≡ false) where
      other_id : c ≢ q.id
      other_id same = elim (cases_option (command_ring h)) [
        | inl none ↦ none-some driven.ring (sym (no_ring h is none) ∙ ap (ring_with h) same ∙ driven.found)
        | inr some ↦ false≢true (sym apart ∙ ap (λ (n : ℕ). is_ring n (id_of (command_ring h))) (sym same) ∙ behind.here h some.0 is some.1)
      ]

      view_held : k'.ring q.id ≡ held_at_given (shape_of h q.id) (k.ring q.id)
      view_held = behind.view_other h k q.id apart

      other_passes : (l : Leased) (w : RingView) → InOn q w l → passes l ≡ false
      other_passes _ w (block p low high given) = passed_other c q.id (floor_number v) count p other_id
      other_passes _ w (link e low high crossed) = passed_other c q.id (floor_number v) count e other_id

      was_other : (l : Leased) → InOn q (k'.ring q.id) l → InOn q (k.ring q.id) l × (passes l ≡ false)
      was_other l on_it = (on_held q (shape_of h q.id) (k.ring q.id) l (subst (λ w. InOn q w l) view_held on_it), other_passes l (k'.ring q.id) on_it)

      stays_other : (l : Leased) → InOn q (k.ring q.id) l → InOn q (k'.ring q.id) l
      stays_other l on_it = subst (λ w. InOn q w l) (sym view_held) (held_on q (shape_of h q.id) (k.ring q.id) l on_it)

    was_on : (l : Leased) → InOn q (k'.ring q.id) l → InOn q (k.ring q.id) l × (passes l ≡ false)
    was_on l on_it = elim (cases_Bool (is_ring q.id (id_of (command_ring h)))) [ inl same ↦ was_command same l on_it | inr apart ↦ was_other apart l on_it ]

    stays_on : (l : Leased) → InOn q (k.ring q.id) l → passes l ≡ false → InOn q (k'.ring q.id) l
    stays_on l on_it none = elim (cases_Bool (is_ring q.id (id_of (command_ring h)))) [ inl same ↦ stays_command same l on_it none | inr apart ↦ stays_other apart l on_it ]

  -- ---- the ranges

  given_stays : (p : ℕ) → (k'.ring c).given p ≡ v.given p
  unfolding reset given_up held_at_given
  given_stays p = cond_both (is_ring c (id_of (command_ring h))) _ _ (λ (w : RingView). w.given p ≡ v.given p) (λ _. refl) (λ _. refl)

  none_due : (p : ℕ) → IsIn p (due_positions shape (k'.ring c)) → (k'.ring c).given p ≡ false
  unfolding due_positions
  none_due p at =
      let range = from_range (floor_number (k'.ring c)) (place_count shape) p at in
      let there : IsDriverRing h c = due_has_ring h is (k'.ring c).floor p (and_from _ _ (le-leb (floor_number (k'.ring c)) p range.0) (lt-ltb p _ range.1)) in
      false_from_ne_true ((k'.ring c).given p) (λ given.
      elim (cases_Bool (is_ring c (id_of (command_ring h)))) [
        | inl same ↦
            let view = behind.view_command h k c same in
            below_count there p (sym (given_stays p) ∙ given) (omega (arith, range.0, ap (λ w. floor_number w) view ∙ floor_behind shape v))
        | inr apart ↦ elim (cases_option (command_ring h)) [
          | inl none ↦ none-some there.ring (sym (no_ring h is none) ∙ there.found)
          | inr some ↦ false≢true (sym apart ∙ behind.here h some.0 is some.1)
        ]
      ])

  no_contexts_left : context_ranges h k' ≡ []
  unfolding context_ranges rings.unfinished_positions
  no_contexts_left = ap (flat_map (λ p. range_of_command h p (rings.command_at h k' p))) (no_positions (k'.ring c).given (due_positions shape (k'.ring c)) none_due)

  no_table_left : table_range h (k'.register Erstba) ≡ []
  unfolding table_range reset
  no_table_left = refl

  no_entries_left : entry_ranges k' ≡ []
  unfolding entry_ranges range_of_entry reset
  no_entries_left = flat_none (λ s. []) slots (λ s. refl)

  no_devices_left : device_ranges h k' ≡ []
  unfolding device_ranges range_of_device reset
  no_devices_left = flat_none (λ s. []) slots (λ s. refl)

  -- ---- what is over

  abbrev pub table_now : List Leased
  table_now = table_range h (k.register Erstba)

  abbrev pub is_over : Leased → Bool
  is_over l = ((is_of_slot l || is_among table_now l) || is_input_context l) || passes l

  not_table : (l : Leased) → is_table l ≡ false → is_among table_now l ≡ false
  not_table l none = false_from_ne_true (is_among table_now l) (λ among. false≢true (sym none ∙ tables_are h (k.register Erstba) l (among_is table_now l among)))

  ring_stays : (l : Leased) → (IsRange l → ⊥) → passes l ≡ false → is_over l ≡ false
  ring_stays (Range n a e) none not_passed = absurd (none tt)
  ring_stays (Block r p) none not_passed = ap (λ b. (b || false) || passes (Block r p)) (not_table (Block r p) refl) ∙ not_passed
  ring_stays (Link r p) none not_passed = ap (λ b. (b || false) || passes (Link r p)) (not_table (Link r p) refl) ∙ not_passed

  segment_stays : (l : Leased) → is_segment l ≡ true → is_over l ≡ false
  segment_stays l of = grind (arith, not_table l, false≢true)

  record Remains (l : Leased) : Type 0 where
    pub slot : is_of_slot l ≡ false
    pub table : is_among table_now l ≡ false
    pub context : is_input_context l ≡ false
    pub passed : passes l ≡ false

  remains : (l : Leased) → is_over l ≡ false → Remains l
  remains l none =
      let one = or_parts ((is_of_slot l || is_among table_now l) || is_input_context l) (passes l) none in
      let two = or_parts (is_of_slot l || is_among table_now l) (is_input_context l) one.0 in
      let three = or_parts (is_of_slot l) (is_among table_now l) two.0 in
      record { slot = three.0; table = three.1; context = two.1; passed = one.1 }

  was_open : (l : Leased) → IsIn l (open_leases h k') → IsIn l (open_leases h k) × (is_over l ≡ false)
  was_open l at = elim (part_of h k' l at) [
    | on_ring here ↦
        let found = from_flat_map (open_on h k') (driver_rings h) l here in
        let was = was_on found.0 found.1 l (in_on h k' found.0 l found.2) in
        (ring_open h k l found.0 found.1 was.0, ring_stays l (rings_no_range h k' (driver_rings h) l here) was.1)
    | segment here ↦ (segment_open h k l here, segment_stays l (segments_are h l here))
    | table here ↦ absurd (subst (IsIn l) no_table_left here)
    | context here ↦ absurd (subst (IsIn l) no_contexts_left here)
    | entry here ↦ absurd (subst (IsIn l) no_entries_left here)
    | device here ↦ absurd (subst (IsIn l) no_devices_left here)
  ]

  stays_open : (l : Leased) → IsIn l (open_leases h k) → is_over l ≡ false → IsIn l (open_leases h k')
  stays_open l at none = elim (part_of h k l at) [
    | on_ring here ↦
        let found = from_flat_map (open_on h k) (driver_rings h) l here in
        ring_open h k' l found.0 found.1 (stays_on found.0 found.1 l (in_on h k found.0 l found.2) (remains l none).passed)
    | segment here ↦ segment_open h k' l here
    | table here ↦ absurd (false≢true (sym (remains l none).table ∙ in_among table_now l here))
    | context here ↦ absurd (false≢true (sym (remains l none).context ∙ contexts_are h k l here))
    | entry here ↦ absurd (false≢true (sym (remains l none).slot ∙ entries_are k l here))
    | device here ↦ absurd (false≢true (sym (remains l none).slot ∙ devices_are h k l here))
  ]

  narrows : (l : Leased) → is_among (open_leases h k') l ≡ (is_among (open_leases h k) l && not (is_over l))
  narrows l = both_ways _ _
      (λ among. let was = was_open l (among_is (open_leases h k') l among) in and_from (is_among (open_leases h k) l) (not (is_over l)) (in_among (open_leases h k) l was.0) (ap not was.1))
      (λ both. let parts = and_parts (is_among (open_leases h k) l) (not (is_over l)) both in
      in_among (open_leases h k') l (stays_open l (among_is (open_leases h k) l parts.0) (not-true (is_over l) parts.1)))

  pub reset_lent : (n : ℕ) (ts : List Lent) → AreOpen h k ts → grown h k (Reg Usbcmd value) n ts ≡ map (ended_where is_over n) ts
  unfolding grown
  reset_lent n ts opened =
      ap (λ b. passed_on (open_leases h k) (open_leases h (if b then reset h k else learned h k (Reg Usbcmd value))) n ts) on
      ∙ only_passed (open_leases h k) (open_leases h k') n ts opened is_over narrows

  -- ---- one part after another

  range_passes : (l : Leased) → IsRange l → passes l ≡ false
  range_passes (Range n a e) is = refl
  range_passes (Block r p) is = absurd is
  range_passes (Link r p) is = absurd is

  table_no_slot : (l : Leased) → is_table l ≡ true → is_of_slot l ≡ false
  table_no_slot l is = grind (arith, false≢true)

  context_no_slot : (l : Leased) → is_input_context l ≡ true → is_of_slot l ≡ false
  context_no_slot l is = grind (arith, false≢true)

  context_no_table : (l : Leased) → is_input_context l ≡ true → is_table l ≡ false
  context_no_table l is = grind (arith, false≢true)

  -- a context is that of a command of the command ring
  context_ring : (l : Leased) → IsIn l (context_ranges h k) → IsDriverRing h c
  unfolding context_ranges rings.unfinished_positions due_positions
  context_ring l at =
      let found = from_flat_map (λ p. range_of_command h p (rings.command_at h k p)) (rings.unfinished_positions h k) l at in
      let range = from_range (floor_number v) (place_count shape) found.0 (from_filter v.given (due_positions shape v) found.0 found.1).0 in
      due_has_ring h is v.floor found.0 (and_from _ _ (le-leb (floor_number v) found.0 range.0) (lt-ltb found.0 _ range.1))

  -- with no command ring nothing else is over
  module _ (none : command_ring h ≡ None) where
    no_context : (l : Leased) → IsIn l (open_leases h k) → is_input_context l ≡ false
    no_context l at = false_from_ne_true (is_input_context l) (λ of. let there = context_ring l (open_context h k l at of) in none-some there.ring (sym (no_ring h is none) ∙ there.found))

    no_pass : (l : Leased) → is_among (open_leases h k) l ≡ true → passes l ≡ false
    no_pass = each_open h k (λ l. passes l ≡ false) (λ q at l on_it. other_passes q at (ap (λ o. is_ring q.id (id_of o)) none) l (k.ring q.id) on_it) (λ l at. range_passes l (open_are_ranges h k l at))

    no_more : (l : Leased) → is_among (open_leases h k) l ≡ true → (is_of_slot l || is_among table_now l) ≡ is_over l
    no_more l among = rw (no_context l (among_is (open_leases h k) l among), no_pass l among) (sym (or_false (is_of_slot l || is_among table_now l)) ∙ sym (or_false ((is_of_slot l || is_among table_now l) || false)))

  module _ (n : ℕ) (ts : List Lent) where
    abbrev pub without_slots : List Lent
    without_slots = map (ended_where is_of_slot n) ts

    abbrev pub without_table : List Lent
    without_table = map (ended_where (is_among table_now) n) without_slots

    abbrev pub without_contexts : List Lent
    without_contexts = map (ended_where is_input_context n) without_table

    pub without_commands : AreOpen h k ts → command_ring h ≡ None → without_table ≡ map (ended_where is_over n) ts
    without_commands opened none =
        all_twice (is_among table_now) is_of_slot n ts
        ∙ ended_alike (λ i l. is_among (open_leases h k) l ≡ true) (λ l. is_of_slot l || is_among table_now l) is_over n 0 ts (λ i l is_open. no_more none l is_open) opened

    pub with_commands : (r from to : ℕ) → r ≡ c → from ≡ floor_number v → to ≡ count → map (ended_where (is_passed r from to) n) without_contexts ≡ map (ended_where is_over n) ts
    with_commands r from to same low high =
        (λ j. map (ended_where (is_passed (same j) (low j) (high j)) n) without_contexts)
        ∙ ap (map (ended_where passes n)) (ap (map (ended_where is_input_context n)) (all_twice (is_among table_now) is_of_slot n ts) ∙ all_twice is_input_context (λ l. is_of_slot l || is_among table_now l) n ts)
        ∙ all_twice passes (λ l. (is_of_slot l || is_among table_now l) || is_input_context l) n ts

    -- what ends later is still lent
    pub table_lent : AreLent ts table_now → AreLent without_slots table_now
    table_lent lent l at = still_lent is_of_slot n ts l (table_no_slot l (tables_are h (k.register Erstba) l at)) (lent l at)

    pub contexts_lent : AreLent ts (context_ranges h k) → AreLent without_table (context_ranges h k)
    contexts_lent lent l at =
        let of = contexts_are h k l at in
        still_lent (is_among table_now) n without_slots l (not_table l (context_no_table l of)) (still_lent is_of_slot n ts l (context_no_slot l of) (lent l at))

    pub still_open : AreOpen h k ts → AreOpen h k without_table
    still_open opened =
        let first = all_ended (λ i l. is_among (open_leases h k) l ≡ true) is_of_slot n 0 ts opened in
        all_ended (λ i l. is_among (open_leases h k) l ≡ true) (is_among table_now) n 0 without_slots first

    pub table_in_step : IsInStep h k ts → AreLent ts table_now
    table_in_step step l at = step.lent l (in_among (open_leases h k) l (table_open h k l at))
