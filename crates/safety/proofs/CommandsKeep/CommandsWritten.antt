-- A write keeps what is kept of unfinished commands, and of the command that it gives holds what was tested
use Rattle.safety.proofs.MiddleLaws.{[], ◌≡◌, ◌≢◌, ◌<◌, ◌∙◌, ℕ, Bool, true, false, Some, arith, sym, ap, subst, inl, inr, eq-eqb, ◌≤◌, rules, MovesRestored, command_given, list_any, or_parts, or_from, and_from, not_from_false, false≢true, false_from_ne_true, All-contains, Shape, RingView, Writes, changed, declared, floor_number, gives, ceiling, is_not_declared, cases_option, gives_is, position_given, gives_one, move-writes, ceiling_held, Command, AddressDevice, is_at_rest, is_running, Header, Write, IsHeader, shape_of, command_id, Known, unfinished, binds_ring, awaits_binding, is_being_bound, moves_ring, is_being_moved, crossings_given, crossing_given, gives_crossing, given_count_grows, step_more, GivesMore, is_placement, is_open, is_inside, address_inside, IsTransferRing, cases_Bool, or_cases, write_tests, lenient_tests, lenient, IsDriverRing, IsUnfinished, DriverKeeps, CommandsKeep, exclude, is_busy, AllFail, tests_fail, has_ring, ring_shape, transfer_driver, transfer_not_command, driver_test, transfer_ring, none_given, none_crossed, ceiling_open, held_open, bound_transfer, written_elsewhere, write_leaves, unfinished_fails, GivenFacts, given_facts, after_write, written_ring, GivesCommand, unfinished_written, Beside, Standing, PlacesStay, MovesAhead, OwnKeeps, PairKeeps, RingsBeside, own_keeps, pair_keeps, commands_stay, still_restored, excludes_turned, on_is, not, is_off, is_ring, refl}
use Rattle.safety.proofs.CommandsKeep.WriteBeside.{beside_old, beside_new}
use Rattle.safety.proofs.CommandsKeep.CommandsTransfer.{rest_not_running}

-- ---- one ring

ahead_written : (shape : Shape) (v : RingView) (a w m : ℕ) → v.held ≡ Some m → MovesAhead shape v (changed shape v (Writes a w))
ahead_written shape v a w m at p cycle moves = grind (arith, move-writes, ceiling_held)

-- where nothing more is given a ring stands still where it did
placing_written : (shape : Shape) (v : RingView) (a w : ℕ) → ceiling shape (changed shape v (Writes a w)) ≤ ceiling shape v → PlacesStay shape v (changed shape v (Writes a w))
unfolding is_placement
placing_written shape v a w less p cycle placed = search (rules, move-writes)

ceiling_written : (shape : Shape) (v : RingView) (a w : ℕ) → GivesMore (changed shape v (Writes a w)) v → ceiling shape (changed shape v (Writes a w)) ≤ ceiling shape v
ceiling_written shape v a w back = grind (arith, cases_option, given_count_grows, step_more, ceiling_open, ceiling_held)

held_written : (shape : Shape) (v : RingView) (a w m : ℕ) → v.held ≡ Some m → ceiling shape (changed shape v (Writes a w)) ≤ ceiling shape v
held_written shape v a w m at = omega (arith, ceiling_held shape v m at, ceiling_held shape (changed shape v (Writes a w)) m at)

-- a write that gives nothing of the ring
gives_none : (shape : Shape) (v : RingView) (a w : ℕ) → ((p : ℕ) → v.given p ≡ false → gives shape v.floor p a w ≡ true → ⊥) → ((q : ℕ) → v.crossed q ≡ false → gives_crossing shape v.floor q a w ≡ true → ⊥) →
    GivesMore (changed shape v (Writes a w)) v
gives_none shape v a w no_block no_link = search (rules, or_cases)

declared_is : (v : RingView) (p : ℕ) → is_not_declared v p ≡ false → p < declared v
unfolding is_not_declared
declared_is v p fails = search rules

module _ (h : Header) (is : IsHeader h) (k : Known) (d : DriverKeeps h k) (a w : ℕ) (clean : lenient h k (Write a w) ≡ []) where
  abbrev l : Known
  l = after_write h k a w

  -- ---- the rings that commands name

  -- the rule of a busy ring, of a block that is given
  none_waits : (r : ℕ) → IsDriverRing h r → (p : ℕ) → (k.ring r).given p ≡ false → gives (shape_of h r) (k.ring r).floor p a w ≡ true → (is_being_moved h k r ≡ false) × (awaits_binding h k r ≡ false)
  unfolding lenient_tests write_tests
  none_waits r ring p fresh now = grind (arith, AllFail, tests_fail, none_given, has_ring, driver_test, or_parts, All-contains, position_given, tests_fail h k (Write a w) clean)

  -- no block is given on a ring that an unfinished Address Device moves
  none_moved : (u s n r : ℕ) (bsr : Bool) → IsUnfinished h k u (AddressDevice s bsr n) → k.ring_of s 1 ≡ Some r → (p : ℕ) → (k.ring r).given p ≡ false →
      gives (shape_of h r) (k.ring r).floor p a w ≡ true → ⊥
  unfolding is_being_moved moves_ring
  none_moved u s n r bsr at has p fresh now =
      let none = unfinished_fails h k (moves_ring h k r) u (AddressDevice s bsr n) ((none_waits r (transfer_driver h r (d.states.transfer s 1 r has)) p fresh now).0) at in
      false≢true
      (sym none
      ∙ and_from (not (is_off (k.endpoint_state s 1))) (is_ring r (k.ring_of s 1)) (not_from_false (is_off (k.endpoint_state s 1)) (on_is (k.endpoint_state s 1) (d.states.on s 1 r has)))
      (ap (is_ring r) has ∙ eq-eqb r r refl))

  -- nor a block or a Link on an open ring that an unfinished command binds
  module _ (u r : ℕ) (c : Command) (at : IsUnfinished h k u c) (bound : binds_ring h k r c ≡ true) (opened : is_open (k.ring r) ≡ true) where
    waits : awaits_binding h k r ≡ true
    unfolding awaits_binding is_being_bound
    waits =
        and_from (is_open (k.ring r)) (list_any (binds_ring h k r) (unfinished h k)) opened
        (elim (cases_Bool (list_any (binds_ring h k r) (unfinished h k))) [
          | inl some ↦ some
          | inr none ↦ absurd (false≢true (sym (unfinished_fails h k (binds_ring h k r) u c none at) ∙ bound))
        ])

    driver : IsDriverRing h r
    driver = transfer_driver h r (transfer_ring h r (bound_transfer h is k r c bound))

    no_block : (p : ℕ) → (k.ring r).given p ≡ false → gives (shape_of h r) (k.ring r).floor p a w ≡ true → ⊥
    no_block p fresh now = false≢true (sym (none_waits r driver p fresh now).1 ∙ waits)

    no_link : (q : ℕ) → (k.ring r).crossed q ≡ false → gives_crossing (shape_of h r) (k.ring r).floor q a w ≡ true → ⊥
    unfolding lenient_tests write_tests
    no_link q fresh now =
        let each = none_crossed h k a w r (has_ring h r (driver_test h r driver)) (λ r q. awaits_binding h k r) (or_parts _ _ (tests_fail h k (Write a w) clean).1.1.1.1.1.1.0).1 in
        let idle : awaits_binding h k r ≡ false =
        All-contains (λ q. awaits_binding h k r ≡ false) (crossings_given (shape_of h r) (k.ring r) a w) q each (crossing_given (shape_of h r) (k.ring r) a w q fresh now) in
        false≢true (sym idle ∙ waits)

  -- so it stands still where it did
  still_old : (u : ℕ) (c : Command) → IsUnfinished h k u c → (r : ℕ) → binds_ring h k r c ≡ true → PlacesStay (shape_of h r) (k.ring r) (l.ring r)
  still_old u c at r bound =
      subst (λ v. PlacesStay (shape_of h r) (k.ring r) v) (sym (written_ring h k a w r))
      (elim (cases_option (k.ring r).held) [
        | inl none ↦
            let opened : is_open (k.ring r) ≡ true = held_open (k.ring r) none in
            placing_written (shape_of h r) (k.ring r) a w
            (ceiling_written (shape_of h r) (k.ring r) a w (gives_none (shape_of h r) (k.ring r) a w (no_block u r c at bound opened) (no_link u r c at bound opened)))
        | inr held ↦ placing_written (shape_of h r) (k.ring r) a w (held_written (shape_of h r) (k.ring r) a w held.0 held.1)
      ])

  -- a write of the command ring gives nothing of a transfer ring
  still_new : (p : ℕ) (c : Command) → GivesCommand h k a w p c → (r : ℕ) → binds_ring h k r c ≡ true → PlacesStay (shape_of h r) (k.ring r) (l.ring r)
  still_new p c g r bound =
      let transfer : IsTransferRing h r = transfer_ring h r (bound_transfer h is k r c bound) in
      let writes = gives_is (shape_of h (command_id h)) (k.ring (command_id h)).floor p a w g.gives in
      let inside : is_inside (shape_of h (command_id h)) a ≡ true =
      ap (λ y. is_inside (shape_of h (command_id h)) y) writes.at ∙ address_inside (shape_of h (command_id h)) (ring_shape h is (command_id h) g.ring).is p 12 (omega arith) in
      let back = written_elsewhere h is r (command_id h) (transfer_driver h r transfer) g.ring (transfer_not_command h is r transfer) (k.ring r) a w inside in
      subst (λ v. PlacesStay (shape_of h r) (k.ring r) v) (sym (written_ring h k a w r)) (placing_written (shape_of h r) (k.ring r) a w (ceiling_written (shape_of h r) (k.ring r) a w back))

  -- nor on one of which all that is declared was passed
  none_declared : (s r : ℕ) → k.ring_of s 1 ≡ Some r → declared (k.ring r) ≡ floor_number (k.ring r) → (p : ℕ) → (k.ring r).given p ≡ false →
      gives (shape_of h r) (k.ring r).floor p a w ≡ true → ⊥
  unfolding lenient_tests write_tests
  none_declared s r has end p fresh now =
      let fails : AllFail (write_tests h k a w) = tests_fail h k (Write a w) clean in
      let driver : IsDriverRing h r = transfer_driver h r (d.states.transfer s 1 r has) in
      grind (arith, none_given, has_ring, driver_test, declared_is, All-contains, position_given, gives_is)

  rings_with : (c : Command) → ((s n r : ℕ) (bsr : Bool) → c ≡ AddressDevice s bsr n → k.ring_of s 1 ≡ Some r → (p : ℕ) → (k.ring r).given p ≡ false →
      gives (shape_of h r) (k.ring r).floor p a w ≡ true → ⊥) → ((r : ℕ) → binds_ring h k r c ≡ true → PlacesStay (shape_of h r) (k.ring r) (l.ring r)) → RingsBeside h k l c
  rings_with c none still =
      let leaves = write_leaves h k a w in
      record {
        ring_of = λ s i at. ap (λ f. f s i) leaves.slots.ring_of;
        rest = λ s i p cycle at rests. ap (λ f. is_at_rest (f s i)) leaves.endpoint_state ∙ rests;
        ahead = λ s i p r cycle at has rests.
            elim (cases_option (k.ring r).held) [
              | inl none ↦ absurd (false≢true (sym (rest_not_running (k.endpoint_state s i) rests) ∙ ap is_running (d.states.open_runs s i r has none)))
              | inr held ↦ subst (λ v. MovesAhead (shape_of h r) (k.ring r) v) (sym (written_ring h k a w r)) (ahead_written (shape_of h r) (k.ring r) a w held.0 held.1)
            ];
        standing = λ s n r bsr at has.
            subst (λ v. Standing (shape_of h r) (k.ring r) v) (sym (written_ring h k a w r)) (search (rules, move-writes, or_from, false_from_ne_true));
        still = still;
        kept = λ r s i bound has. ap (λ f. f s i) (sym leaves.slots.ring_of) ∙ has;
        moved = still_restored k l c (λ s i at. ap (λ f. f s i) leaves.slots.ring_of) (λ r. ap (λ v. v.free) (written_ring h k a w r));
      }

  -- ---- one command, and two

  facts_of : (p : ℕ) (c : Command) → GivesCommand h k a w p c → GivenFacts h k c
  facts_of p c g = given_facts h k is d a w c clean g.command

  own : (p : ℕ) (c : Command) → IsUnfinished h l p c → OwnKeeps h k c
  own p c u =
      elim (unfinished_written h k a w is p c u) [
        | inl old ↦ own_keeps h k p c (d.unfinished p c old)
        | inr new ↦ (facts_of p c new).own
      ]

  -- a command that is given isn't excluded by an unfinished one
  not_busy : (p q : ℕ) (c e : Command) → GivesCommand h k a w p c → IsUnfinished h k q e → exclude k.memory c e ≡ false
  unfolding is_busy
  not_busy p q c e g u = unfinished_fails h k (exclude k.memory c) q e (facts_of p c g).busy u

  not_bound : (p q r : ℕ) (c e : Command) → GivesCommand h k a w p c → IsUnfinished h k q e → binds_ring h k r c ≡ true → binds_ring h k r e ≡ false
  unfolding is_being_bound
  not_bound p q r c e g u bound = unfinished_fails h k (binds_ring h k r) q e ((facts_of p c g).unshared r bound) u

  pair : (p q : ℕ) (c e : Command) → IsUnfinished h l p c → IsUnfinished h l q e → q ≢ p → PairKeeps h k c e
  pair p q c e u v other =
      elim (unfinished_written h k a w is p c u) [
        | inl old ↦ elim (unfinished_written h k a w is q e v) [
          | inl older ↦ pair_keeps h k p q c e (d.unfinished p c old) older other
          | inr new ↦ record {
            alone = not_busy q p e c new old;
            unshared = λ r bound. false_from_ne_true (binds_ring h k r e) (λ also. false≢true (sym (not_bound q p r e c new old also) ∙ bound));
          }
        ]
        | inr new ↦ elim (unfinished_written h k a w is q e v) [
          | inl old ↦ record {
            alone = excludes_turned k.memory e c ∙ not_busy p q c e new old;
            unshared = λ r bound. not_bound p q r c e new old bound;
          }
          | inr newer ↦
              absurd (other (gives_one (shape_of h (command_id h)) (ring_shape h is (command_id h) new.ring).is (k.ring (command_id h)).floor a w q p newer.gives new.gives))
        ]
      ]

  beside : (p : ℕ) (c : Command) → IsUnfinished h l p c → Beside h k l c
  beside p c u = grind (arith, unfinished_written, beside_old, beside_new, facts_of, unfinished_written h k a w is p c u)

  rings : (p : ℕ) (c : Command) → IsUnfinished h l p c → RingsBeside h k l c
  rings p c u =
      elim (unfinished_written h k a w is p c u) [
        | inl old ↦ rings_with c (λ s n r bsr same has. none_moved p s n r bsr (subst (λ x. IsUnfinished h k p x) same old) has) (still_old p c old)
        | inr new ↦ rings_with c (λ s n r bsr same has. none_declared s r has ((facts_of p c new).nothing_left s n r bsr same has)) (still_new p c new)
      ]

  -- where of a ring that the given command moves nothing is free
  pub written_commands : ((c : Command) → command_given h k a w ≡ Some c → MovesRestored k c) → CommandsKeep h (after_write h k a w)
  written_commands moved = commands_stay h k l own pair restored beside rings
    where
      restored : (p : ℕ) (c : Command) → IsUnfinished h l p c → MovesRestored k c
      restored p c u =
          elim (unfinished_written h k a w is p c u) [
            | inl old ↦ (d.unfinished p c old).restored
            | inr new ↦ moved c new.command
          ]
