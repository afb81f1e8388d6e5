-- Behind an event that may be read a write gives the same command as before it, and breaks no rule that speaks of no command
use Rattle.safety.proofs.UpperLaws.{[], ◌≡◌, ◌+◌, ◌&&◌, ◌∷◌, ◌++◌, ◌∙◌, ℕ, not, Bool, true, false, List, length, map, slice_get, nat_le, None, option_and_then, arith, refl, sym, ap, subst, inl, inr, ◌||◌, ◌==◌, eq-eqb, rules, MayCome, list_any, range_with_len, fun_ext, not-true, cases_Bool, cond-false, false≢true, false_from_ne_true, and_parts, and_from, or_parts, or_from, put, Block, block_at, Shape, place_count, address_of, cycle_of, RingView, floor_number, gives, gives_crossing, due_positions, due_crossings, positions_given, crossings_given, length_from, is_declared_as, is_other_than_declared, is_not_declared, descriptor_length, is_not_whole, leads_wrong, interrupts, gives_is, gives_crossing_is, positions_given-one, whole_more, Command, Header, Write, Read, IsHeader, shape_of, command_id, driver_rings, Known, Given, Position, Crossing, given_of, given_by, command_at, command_given, learned, Test, broken_of, lenient_tests, lenient, on_position, on_crossing, holds_of, some_given, some_crossed, some_command, write_tests, is_leased, awaits_binding, is_being_moved, or_cases, or_left, or_right, IsIn, some_of, any_of, in_filter, from_filter, DriverKeeps, and_left, and_right, is_the_controllers, changes_owned, AllFail, clean_tests, tests_fail, free_or_same, keeps_cycles, not_the_controllers, in_range, KeepsCycles, command_same, RingBehind, gives_behind, gives_before, crosses_before, Behind, both_fewer, flat_fewer, map_fewer, not_the_controllers_behind, still_free, event_behind, moved_before, none_fewer, ranges_fewer, covers, open_ranges, clears_chain, is_link_control, unchains}
use Rattle.safety.proofs.Behind.BoundBehind.{awaits_before}

-- ---- one ring

module _ (shape : Shape) (memory : ℕ → ℕ) (v u : RingView) (b : RingBehind shape memory v u) (a x : ℕ) (keeps : KeepsCycles shape v a x) where
  position_was : (p : ℕ) → IsIn p (positions_given shape u a x) → IsIn p (positions_given shape v a x)
  unfolding positions_given due_positions
  position_was p at =
      let found = from_filter (λ p. not (u.given p) && gives shape u.floor p a x) (range_with_len (floor_number u) (place_count shape)) p at in
      let parts = and_parts (not (u.given p)) (gives shape u.floor p a x) found.1 in
      let gives_then : gives shape v.floor p a x ≡ true = gives_before shape memory v u b a x keeps p parts.1 in
      let g = gives_is shape v.floor p a x gives_then in
      in_filter (λ p. not (v.given p) && gives shape v.floor p a x) (range_with_len (floor_number v) (place_count shape)) p
      (in_range (floor_number v) (place_count shape) p g.from g.within)
      (and_from (not (v.given p)) (gives shape v.floor p a x) (ap (λ f. not (f p)) (sym b.same.given) ∙ parts.0) gives_then)

  crossing_was : (q : ℕ) → IsIn q (crossings_given shape u a x) → IsIn q (crossings_given shape v a x)
  unfolding crossings_given due_crossings
  crossing_was q at =
      let found = from_filter (λ q. not (u.crossed q) && gives_crossing shape u.floor q a x) (range_with_len (floor_number u) (place_count shape + 1)) q at in
      let parts = and_parts (not (u.crossed q)) (gives_crossing shape u.floor q a x) found.1 in
      let gives_then : gives_crossing shape v.floor q a x ≡ true = crosses_before shape memory v u b a x keeps q parts.1 in
      let g = gives_crossing_is shape v.floor q a x gives_then in
      in_filter (λ q. not (v.crossed q) && gives_crossing shape v.floor q a x) (range_with_len (floor_number v) (place_count shape + 1)) q
      (in_range (floor_number v) (place_count shape + 1) q g.due.from (elim g.due.within [ inl near ↦ omega arith | inr first ↦ omega arith ]))
      (and_from (not (v.crossed q)) (gives_crossing shape v.floor q a x) (ap (λ f. not (f q)) (sym b.same.crossed) ∙ parts.0) gives_then)

  position_stays : (p : ℕ) → IsIn p (positions_given shape v a x) → IsIn p (positions_given shape u a x)
  unfolding positions_given due_positions
  position_stays p at =
      let found = from_filter (λ p. not (v.given p) && gives shape v.floor p a x) (range_with_len (floor_number v) (place_count shape)) p at in
      let parts = and_parts (not (v.given p)) (gives shape v.floor p a x) found.1 in
      let gives_then : gives shape u.floor p a x ≡ true = gives_behind shape memory v u b a x p (not-true (v.given p) parts.0) parts.1 in
      let g = gives_is shape u.floor p a x gives_then in
      in_filter (λ p. not (u.given p) && gives shape u.floor p a x) (range_with_len (floor_number u) (place_count shape)) p
      (in_range (floor_number u) (place_count shape) p g.from g.within)
      (and_from (not (u.given p)) (gives shape u.floor p a x) (ap (λ f. not (f p)) b.same.given ∙ parts.0) gives_then)

  pub positions_same : positions_given shape u a x ≡ positions_given shape v a x
  positions_same =
      elim (positions_given-one shape b.is u a x) [
        | inl empty ↦ elim (positions_given-one shape b.is v a x) [
          | inl none ↦ empty ∙ sym none
          | inr one ↦ absurd (subst (λ xs. IsIn one.0 xs) empty (position_stays one.0 (subst (λ xs. IsIn one.0 xs) (sym one.1) (inl refl))))
        ]
        | inr one ↦
            let was : IsIn one.0 (positions_given shape v a x) = position_was one.0 (subst (λ xs. IsIn one.0 xs) (sym one.1) (inl refl)) in
            elim (positions_given-one shape b.is v a x) [
              | inl none ↦ absurd (subst (λ xs. IsIn one.0 xs) none was)
              | inr other ↦
                  one.1 ∙ ap (λ p. p ∷ []) (elim (subst (λ xs. IsIn one.0 xs) other.1 was) [ inl here ↦ here | inr later ↦ absurd later ]) ∙ sym other.1
            ]
      ]

-- ---- the tests

pub broken_none : (r : List Test) → AllFail r → broken_of r ≡ []
broken_none [] fails = refl
broken_none (t ∷ rest) fails = by t.1 fails.0 (broken_none rest fails.1)
  where
    by : (b : Bool) → b ≡ false → broken_of rest ≡ [] → broken_of ((t.0, b) ∷ rest) ≡ []
    by false off none = none
    by true on none = absurd (false≢true (sym on))

position_passes : (s t : ℕ → ℕ → Bool) → ((r p : ℕ) → s r p ≡ true → t r p ≡ true) → (g : Given) → on_position s g ≡ true → on_position t g ≡ true
unfolding on_position
position_passes s t each o on = grind (arith, false≢true)

crossing_passes : (s t : ℕ → ℕ → Bool) → ((r p : ℕ) → s r p ≡ true → t r p ≡ true) → (g : Given) → on_crossing s g ≡ true → on_crossing t g ≡ true
unfolding on_crossing
crossing_passes s t each o on = grind (arith, false≢true)

fewer_pass : {X : Type 0} (s t : X → Bool) (xs ys : List X) → ((x : X) → s x ≡ true → t x ≡ true) → ((x : X) → IsIn x ys → IsIn x xs) → list_any t xs ≡ false → list_any s ys ≡ false
fewer_pass s t xs ys each fewer none = search (rules, false_from_ne_true, list_any, some_of, false≢true, any_of)

module _ (h : Header) (is : IsHeader h) (k : Known) (d : DriverKeeps h k) (a w : ℕ) (e : Block) (clean : MayCome h k (Write a w))
    (may : lenient h k (Read e) ≡ []) where
  abbrev l : Known
  l = learned h k (Read e)

  b : Behind h k l
  b = event_behind h is k d e may

  memory_same : l.memory ≡ k.memory
  memory_same = b.driver.memory

  given_fewer : (g : Given) → IsIn g (given_by h l a w) → IsIn g (given_by h k a w)
  unfolding given_by given_of
  given_fewer g at =
      flat_fewer (λ r. given_of h l a w r.id) (λ r. given_of h k a w r.id) (driver_rings h) g
      (λ r there here. elim (b.rings r.id) [
        | inl same ↦ subst (λ (v : RingView). IsIn g (map (Position r.id) (positions_given (shape_of h r.id) v a w) ++ map (Crossing r.id) (crossings_given (shape_of h r.id) v a w))) same here
        | inr on ↦
            let writes = keeps_cycles h is k a w clean r.id on.0 on.1.before in
            both_fewer g (map (Position r.id) (positions_given (shape_of h r.id) (l.ring r.id) a w)) (map (Crossing r.id) (crossings_given (shape_of h r.id) (l.ring r.id) a w))
            (map (Position r.id) (positions_given (shape_of h r.id) (k.ring r.id) a w)) (map (Crossing r.id) (crossings_given (shape_of h r.id) (k.ring r.id) a w))
            (map_fewer (Position r.id) (positions_given (shape_of h r.id) (l.ring r.id) a w) (positions_given (shape_of h r.id) (k.ring r.id) a w) g
            (position_was (shape_of h r.id) k.memory (k.ring r.id) (l.ring r.id) on.1 a w writes))
            (map_fewer (Crossing r.id) (crossings_given (shape_of h r.id) (l.ring r.id) a w) (crossings_given (shape_of h r.id) (k.ring r.id) a w) g
            (crossing_was (shape_of h r.id) k.memory (k.ring r.id) (l.ring r.id) on.1 a w writes)) here
      ]) at

  given_none : (s t : ℕ → ℕ → Bool) → ((r p : ℕ) → s r p ≡ true → t r p ≡ true) → some_given h k a w t ≡ false → some_given h l a w s ≡ false
  unfolding some_given
  given_none s t each fails = fewer_pass (on_position s) (on_position t) (given_by h k a w) (given_by h l a w) (position_passes s t each) given_fewer fails

  crossed_none : (s t : ℕ → ℕ → Bool) → ((r p : ℕ) → s r p ≡ true → t r p ≡ true) → some_crossed h k a w t ≡ false → some_crossed h l a w s ≡ false
  unfolding some_crossed
  crossed_none s t each fails = fewer_pass (on_crossing s) (on_crossing t) (given_by h k a w) (given_by h l a w) (crossing_passes s t each) given_fewer fails

  -- ---- what the tests read is the same

  other_was : (r p : ℕ) → is_other_than_declared (shape_of h r) (l.ring r) l.memory a w p ≡ true → is_other_than_declared (shape_of h r) (k.ring r) k.memory a w p ≡ true
  unfolding is_other_than_declared
  other_was r p on = search (rules, not, is_declared_as, block_at, put, address_of, shape_of, cycle_of, slice_get, b, memory_same)

  undeclared_was : (r p : ℕ) → is_not_declared (l.ring r) p ≡ true → is_not_declared (k.ring r) p ≡ true
  unfolding is_not_declared
  undeclared_was r p on = ap (λ q. nat_le (length q) p) (sym (b.driver.rings r).queue) ∙ on

  length_same : (r p : ℕ) → descriptor_length (l.ring r) p ≡ descriptor_length (k.ring r) p
  unfolding descriptor_length
  length_same r p = ap (λ n. length_from n 0 p) (b.driver.rings r).lengths

  partial_was : (r p : ℕ) → is_not_whole (shape_of h r) (l.ring r) p ≡ true → is_not_whole (shape_of h r) (k.ring r) p ≡ true
  partial_was r p on =
      elim (cases_Bool (is_not_whole (shape_of h r) (k.ring r) p)) [
        | inl was ↦ was
        | inr whole ↦
            absurd (false≢true (sym (whole_more (shape_of h r) (k.ring r) (l.ring r) p
            (record { given = λ q g. ap (λ f. f q) (b.driver.rings r).given ∙ g; crossed = λ q g. ap (λ f. f q) (b.driver.rings r).crossed ∙ g }) (length_same r p) whole) ∙ on))
      ]

  wrong_was : (r q : ℕ) → leads_wrong (shape_of h r) l.memory a w q ≡ true → leads_wrong (shape_of h r) k.memory a w q ≡ true
  wrong_was r q on = ap (λ m. leads_wrong (shape_of h r) m a w q) (sym memory_same) ∙ on

  interrupts_was : (r q : ℕ) → interrupts (shape_of h r) l.memory a w q ≡ true → interrupts (shape_of h r) k.memory a w q ≡ true
  interrupts_was r q on = ap (λ m. interrupts (shape_of h r) m a w q) (sym memory_same) ∙ on

  waits_before : (r : ℕ) → (is_being_moved h l r || awaits_binding h l r) ≡ true → (is_being_moved h k r || awaits_binding h k r) ≡ true
  waits_before r waits = search (rules, l, or_cases, or_left, moved_before, or_right, awaits_before)

  -- the rules that speak of no command
  pub record RingRules (m : Known) : Type 0 where
    pub unowned : changes_owned h m a w ≡ false
    pub declared_as : some_given h m a w (λ r p. is_other_than_declared (shape_of h r) (m.ring r) m.memory a w p) ≡ false
    pub declared : some_given h m a w (λ r p. is_not_declared (m.ring r) p) ≡ false
    pub whole : some_given h m a w (λ r p. is_not_whole (shape_of h r) (m.ring r) p) ≡ false
    pub leads : some_crossed h m a w (λ r q. leads_wrong (shape_of h r) m.memory a w q) ≡ false
    pub unmoved : some_given h m a w (λ r p. is_being_moved h m r || awaits_binding h m r) ≡ false
    pub unlinked : some_crossed h m a w (λ r q. awaits_binding h m r) ≡ false
    pub inside : some_crossed h m a w (λ r q. interrupts (shape_of h r) m.memory a w q) ≡ false

  fails : AllFail (write_tests h k a w)
  unfolding lenient_tests
  fails = tests_fail h k (Write a w) clean.0

  -- a Link that the write unchains is unchained then too
  still_unchained : unchains h k a w ≡ true → unchains h l a w ≡ true
  unfolding unchains
  still_unchained unchained =
      let was = and_parts (is_link_control h a && clears_chain (k.memory a) w) (not (list_any (covers h a 4) (open_ranges h k))) unchained in
      and_from (is_link_control h a && clears_chain (l.memory a) w) (not (list_any (covers h a 4) (open_ranges h l)))
      (ap (λ (m : ℕ → ℕ). is_link_control h a && clears_chain (m a) w) memory_same ∙ was.0)
      (ap not (none_fewer (covers h a 4) (open_ranges h k) (open_ranges h l) (ranges_fewer h is k l b) (not-true (list_any (covers h a 4) (open_ranges h k)) was.1)))

  still_same : (is_leased h l a && not (l.memory a == w) && not (unchains h l a w)) ≡ false
  still_same =
      elim (free_or_same h k a w clean.0) [
        | inl free ↦ and_left (is_leased h l a && not (l.memory a == w)) (not (unchains h l a w)) (and_left (is_leased h l a) (not (l.memory a == w)) (still_free h is k l b a free))
        | inr (inl same) ↦
            and_left (is_leased h l a && not (l.memory a == w)) (not (unchains h l a w))
            (and_right (is_leased h l a) (not (l.memory a == w)) (ap not (eq-eqb (l.memory a) w (ap (λ (m : ℕ → ℕ). m a) memory_same ∙ same))))
        | inr (inr unchained) ↦ and_right (is_leased h l a && not (l.memory a == w)) (not (unchains h l a w)) (ap not (still_unchained unchained))
      ]

  pub rules_behind : RingRules l
  unfolding write_tests changes_owned
  rules_behind =
      let all : AllFail (write_tests h k a w) = fails in
      let busy = or_parts _ _ all.1.1.1.1.1.1.0 in
      let profile = or_parts _ _ all.1.1.1.1.1.1.1.0 in
      record {
        unowned = search (rules, or_from, is_the_controllers, is_leased, not, not_the_controllers_behind, b, not_the_controllers, still_same);
        declared_as = given_none _ _ other_was all.1.0;
        declared = given_none _ _ undeclared_was all.1.1.0;
        whole = given_none _ _ partial_was all.1.1.1.0;
        leads = crossed_none _ _ wrong_was all.1.1.1.1.0;
        unmoved = given_none _ _ (λ r p. waits_before r) (or_parts _ _ busy.0).1;
        unlinked = crossed_none _ _ (λ r q. awaits_before h is k d e may r) busy.1;
        inside = crossed_none _ _ interrupts_was profile.1;
      }

  -- ---- behind the event the write gives the same command, if it gives one

  commands_same : command_at h l ≡ command_at h k
  commands_same = fun_ext (λ p. command_same h k l p (b.driver.rings (command_id h)).queue)

  listed_same : positions_given (shape_of h (command_id h)) (l.ring (command_id h)) a w ≡ positions_given (shape_of h (command_id h)) (k.ring (command_id h)) a w
  listed_same =
      elim (b.rings (command_id h)) [
        | inl same ↦ ap (λ (v : RingView). positions_given (shape_of h (command_id h)) v a w) same
        | inr on ↦
            positions_same (shape_of h (command_id h)) k.memory (k.ring (command_id h)) (l.ring (command_id h)) on.1 a w (keeps_cycles h is k a w clean (command_id h) on.0 on.1.before)
      ]

  pub command_behind : command_given h l a w ≡ command_given h k a w
  unfolding command_given
  command_behind =
      ap (λ f. option_and_then f (slice_get (positions_given (shape_of h (command_id h)) (l.ring (command_id h)) a w) 0)) commands_same
      ∙ ap (λ xs. option_and_then (command_at h k) (slice_get xs 0)) listed_same

  -- ---- the row

  module _ (none : command_given h k a w ≡ None) where
    no_command : (test : Command → Bool) → some_command h l a w test ≡ false
    unfolding some_command holds_of
    no_command test = ap (holds_of test) (command_behind ∙ none)

    pub write_behind : lenient h l (Write a w) ≡ []
    unfolding lenient lenient_tests write_tests
    write_behind = search (rules, l, rules_behind, b, clean_tests, cond-false, broken_none, no_command, or_from)
