-- Behind a reset the driver keeps what it kept
use Rattle.safety.proofs.MiddleLaws.{[], ◌≡◌, ◌≢◌, ◌≤◌, ◌&&◌, ◌∙◌, ℕ, not, true, false, nat_le, Some, None, arith, refl, sym, ap, subst, inl, inr, eq-eqb, eqb-true, le-leb, cases_Bool, cases_option, cond_both, cond-true, cond-false, and_from, and_parts, false≢true, false_from_ne_true, none-some, Shape, place_count, RingView, floor_number, given_count, due_positions, due_is, RingKeeps, IsRestored, given_up, held_at_given, Command, Header, Ring, Register, Reg, Usbcmd, IsHeader, ring_with, shape_of, command_ring, command_id, id_of, is_ring, reset_bit, is_asked, is_done, HaltState, Known, reset, resets, is_used, is_value, is_bad_register, is_bad_command_register, is_early_reset, has_gap, lenient, IsDriverRing, IsUnfinished, Unstarted, RunKeeps, StatesKeep, DriverKeeps, any_of, in_range, command_named, register_facts, ring_shape, floor_given, number, ceiling_held, All, All-nil, length, given_count_most, gives_up_keeps, held_keeps, last, last_to, command_driver, none_has_256, no_places, IsNobodys, no_id, slice_get_past, nobodys_unmoved}
use Rattle.safety.proofs.ResetRuns.GivenUp.{floor_behind}
use Rattle.safety.proofs.RingsKeep.KeptCommands.{ViewOfCommands, from_view}

-- how a row resets the controller
pub record IsReset (k : Known) (r : Register) (x : ℕ) : Type 0 where
  pub register : r ≡ Usbcmd
  pub done : is_done k.halt ≡ true
  pub bit : reset_bit x ≡ true

pub reset_is : (k : Known) (r : Register) (x : ℕ) → resets k r x ≡ true → IsReset k r x
unfolding resets
reset_is k Usbcmd x is = let parts = and_parts (is_done k.halt) (reset_bit x) is in record { register = refl; done = parts.0; bit = parts.1 }
reset_is k _ x is = absurd (false≢true is)

pub done_asked : (a : HaltState) → is_done a ≡ true → is_asked a ≡ true
done_asked a done = grind (arith, false≢true)

-- ---- which ring is the command ring

module _ (h : Header) where
  pub is_command : (r : ℕ) → IsHeader h → is_ring r (id_of (command_ring h)) ≡ true → r ≡ command_id h
  is_command r is same =
      elim (cases_option (command_ring h)) [
        | inl none ↦ absurd (false≢true (ap (λ o. is_ring r (id_of o)) (sym none) ∙ same))
        | inr some ↦ sym (command_named h is (Some some.0) some.1 ∙ eqb-true some.0.id r (ap (λ o. is_ring r (id_of o)) (sym some.1) ∙ same))
      ]

  pub not_command : (r : ℕ) → IsHeader h → r ≢ command_id h → is_ring r (id_of (command_ring h)) ≡ false
  not_command r is other = false_from_ne_true (is_ring r (id_of (command_ring h))) (λ same. other (is_command r is same))

  pub here : (c : Ring) → IsHeader h → command_ring h ≡ Some c → is_ring (command_id h) (id_of (command_ring h)) ≡ true
  here c is at = ap (λ o. is_ring (command_id h) (id_of o)) at ∙ eq-eqb c.id (command_id h) (sym (command_named h is (Some c) at))

  module _ (k : Known) where
    -- the view of each ring
    pub view_other : (r : ℕ) → is_ring r (id_of (command_ring h)) ≡ false → (reset h k).ring r ≡ held_at_given (shape_of h r) (k.ring r)
    unfolding reset
    view_other r other = cond-false (is_ring r (id_of (command_ring h))) (given_up (shape_of h r) (k.ring r)) (held_at_given (shape_of h r) (k.ring r)) other

    pub view_command : (r : ℕ) → is_ring r (id_of (command_ring h)) ≡ true → (reset h k).ring r ≡ given_up (shape_of h r) (k.ring r)
    unfolding reset
    view_command r same = cond-true (is_ring r (id_of (command_ring h))) (given_up (shape_of h r) (k.ring r)) (held_at_given (shape_of h r) (k.ring r)) same

  -- ---- where no command ring is there its ID is nobody's

  pub nobodys_unused : IsHeader h → (k : Known) → IsNobodys (k.ring no_id) → command_ring h ≡ None → is_used h k ≡ false
  nobodys_unused is k nobody none = ap (λ n. not (is_value 0 (k.ring n).held)) (command_named h is None none) ∙ ap (λ o. not (is_value 0 o)) nobody.held

  nobodys_view : (shape : Shape) → shape.offset ≡ 0 → (v : RingView) → IsNobodys v → ViewOfCommands shape v
  nobodys_view shape unmoved v nobody = record {
    commands = λ p d at. absurd (none-some d (sym (slice_get_past v.queue p (omega (arith, ap length nobody.queue))) ∙ at));
    alone = subst (All (λ n. n ≡ 1)) (sym nobody.lengths) (All-nil (λ n. n ≡ 1));
    held = inr (nobody.held, nobody.floor, unmoved);
  }

  module _ (is : IsHeader h) (k : Known) (d : DriverKeeps h k) where
    nobodys_last : last (shape_of h no_id) (k.ring no_id) ≡ 0
    nobodys_last =
        let v : RingView = k.ring no_id in
        let shape : Shape = shape_of h no_id in
        let nobody = d.nobody no_id refl in
        omega (arith, last_to shape v, given_count_most shape v, no_places h is, ap number nobody.floor, ceiling_held shape v 0 nobody.held)

    nobodys_other : is_ring no_id (id_of (command_ring h)) ≡ false
    nobodys_other =
        elim (cases_option (command_ring h)) [
          | inl none ↦ ap (λ o. is_ring no_id (id_of o)) none
          | inr some ↦
              let driver = command_driver h is some.0 some.1 in
              false_from_ne_true (is_ring no_id (id_of (command_ring h))) (λ same. none_has_256 h is driver.ring (ap (ring_with h) (is_command no_id is same) ∙ driver.found))
        ]

    nobody : IsNobodys ((reset h k).ring no_id)
    unfolding held_at_given
    nobody =
        let n = d.nobody no_id refl in
        subst IsNobodys (sym (view_other k no_id nobodys_other))
        (record { queue = n.queue; lengths = n.lengths; held = ap (λ m. Some m) nobodys_last; floor = n.floor; given = n.given; free = n.free })

    -- ---- rings

    rings : (r : ℕ) → IsDriverRing h r → RingKeeps (shape_of h r) k.memory ((reset h k).ring r)
    rings r ring =
        let allowed = (ring_shape h is r ring).is in
        elim (cases_Bool (is_ring r (id_of (command_ring h)))) [
          | inl same ↦
              subst (λ v. RingKeeps (shape_of h r) k.memory v) (sym (view_command k r same))
              (gives_up_keeps (shape_of h r) allowed k.memory (k.ring r) (d.rings r ring) (subst (λ q. IsRestored (k.ring q)) (sym (is_command r is same)) d.commands_stay))
          | inr other ↦ subst (λ v. RingKeeps (shape_of h r) k.memory v) (sym (view_other k r other)) (held_keeps (shape_of h r) allowed k.memory (k.ring r) (d.rings r ring))
        ]

    -- what is declared and given of each stays
    free_stays : (r p : ℕ) → ((reset h k).ring r).free p ≡ (k.ring r).free p
    unfolding reset given_up held_at_given
    free_stays r p = cond_both (is_ring r (id_of (command_ring h))) _ _ (λ (v : RingView). v.free p ≡ (k.ring r).free p) (λ _. refl) (λ _. refl)

    view_keeps : ViewOfCommands (shape_of h (command_id h)) ((reset h k).ring (command_id h))
    unfolding given_up
    view_keeps =
        elim (cases_option (command_ring h)) [
          | inl none ↦ subst (λ n. ViewOfCommands (shape_of h n) ((reset h k).ring n)) (sym (command_named h is None none)) (nobodys_view (shape_of h no_id) (nobodys_unmoved h is) ((reset h k).ring no_id) nobody)
          | inr some ↦
              subst (ViewOfCommands (shape_of h (command_id h))) (sym (view_command k (command_id h) (here some.0 is some.1)))
              (record { commands = d.command_ring.commands; alone = d.command_ring.alone; held = inl refl })
        ]

    -- ---- commands

    module _ (x : ℕ) (clean : lenient h k (Reg Usbcmd x) ≡ []) (done : is_done k.halt ≡ true) (bit : reset_bit x ≡ true) where
      no_gap : has_gap h k ≡ false
      unfolding is_bad_register is_bad_command_register is_early_reset
      no_gap =
          let good = (register_facts h k Usbcmd x clean).good in
          let asked = done_asked k.halt done in
          let started = d.run.started asked in
          let again = d.run.again asked in
          (grind arith)

      -- none is unfinished
      none_due : (p : ℕ) (c : Command) → IsUnfinished h (reset h k) p c → ⊥
      unfolding has_gap due_positions given_up held_at_given
      none_due p c u =
          let v : RingView = k.ring (command_id h) in
          let shape : Shape = shape_of h (command_id h) in
          elim (cases_option (command_ring h)) [
            | inl none ↦ absurd (false≢true (sym (nobody.given p) ∙ sym (ap (λ n. ((reset h k).ring n).given p) (command_named h is None none)) ∙ u.given))
            | inr some ↦
                let view = view_command k (command_id h) (here some.0 is some.1) in
                let driver = command_driver h is some.0 some.1 in
                let keeps = d.rings (command_id h) driver in
                let due = due_is shape ((reset h k).ring (command_id h)).floor p u.due in
                let from : given_count shape v ≤ p = omega (arith, due.0, ap (λ w. floor_number w) view, floor_behind shape v) in
                let low = floor_given shape (ring_shape h is (command_id h) driver).is k.memory v keeps in
                let given : v.given p ≡ true = sym (ap (λ w. w.given p) view) ∙ u.given in
                let gap = any_of (λ q. v.given q && nat_le (given_count shape v) q) (due_positions shape v) p (in_range (floor_number v) (place_count shape) p (omega arith) (keeps.given_within p given))
                (and_from (v.given p) (nat_le (given_count shape v) p) given (le-leb (given_count shape v) p from)) in
                absurd (false≢true (sym no_gap ∙ gap))
          ]

    -- ---- slots, endpoints and registers are as at the beginning

    states : StatesKeep h (reset h k)
    unfolding reset
    states = record {
      no_slot = refl;
      no_endpoint = λ s i none. refl;
      off = λ s i none. refl;
      on = λ s i r at. absurd (none-some r at);
      transfer = λ s i r at. absurd (none-some r at);
      one_endpoint = λ s i t j r at too. absurd (none-some r at);
      open_runs = λ s i r at opened. absurd (none-some r at);
      seen_command = λ s i seen. absurd (false≢true seen);
      seen_runs = λ s i seen. absurd (false≢true seen);
      seen_held = λ s i r seen at. absurd (none-some r at);
      slots = λ s i r at. absurd (none-some r at);
      first = λ s. inl refl;
      no_device = λ s none. refl;
    }

    unstarted : Unstarted h (reset h k)
    unfolding reset
    unstarted = record { reads = refl; dequeue = refl; slots = λ s. refl; rings = λ s i. refl; seen = λ s i. refl }

    -- a command ring that counts as started is there
    absent : is_used h (reset h k) ≡ true → IsDriverRing h (command_id h)
    absent used =
        elim (cases_option (command_ring h)) [
          | inl none ↦ absurd (false≢true (sym (nobodys_unused is (reset h k) nobody none) ∙ used))
          | inr some ↦ command_driver h is some.0 some.1
        ]

    run : RunKeeps h (reset h k)
    unfolding reset
    run = record {
      again = λ asked. absurd (false≢true asked);
      started = λ asked. absurd (false≢true asked);
      running = λ on runs. absurd (false≢true on);
      used = λ on used. absurd (false≢true on);
      named = λ named. absurd (false≢true named);
      absent = absent;
      unused = λ off named. absurd (false≢true named);
    }

    keeps : ((p : ℕ) (c : Command) → IsUnfinished h (reset h k) p c → ⊥) → DriverKeeps h (reset h k)
    unfolding reset
    keeps none = record {
      rings = rings;
      commands_stay = λ p. free_stays (command_id h) p ∙ d.commands_stay p;
      clean = d.clean;
      command_ring = from_view h (reset h k) view_keeps;
      states = states;
      numbered = λ s i r at. absurd (none-some r at);
      unstarted = λ off. unstarted;
      run = run;
      sized = λ written. absurd (false≢true written);
      erstsz_written = λ on. absurd (false≢true on);
      dequeued = omega arith;
      read_room = λ some. absurd (omega arith);
      devices = λ s a at. absurd (none-some a at);
      unfinished = λ p c u. absurd (none p c u);
      nobody = λ r same. subst (λ n. IsNobodys ((reset h k).ring n)) (sym same) nobody;
    }

    -- no command is left
    pub none_left : (r : Register) (x : ℕ) → lenient h k (Reg r x) ≡ [] → resets k r x ≡ true → (p : ℕ) (c : Command) → IsUnfinished h (reset h k) p c → ⊥
    none_left r x clean is = let how = reset_is k r x is in none_due x (subst (λ q. lenient h k (Reg q x) ≡ []) how.register clean) how.done how.bit

    pub reset_keeps : (r : Register) (x : ℕ) → lenient h k (Reg r x) ≡ [] → resets k r x ≡ true → DriverKeeps h (reset h k)
    reset_keeps r x clean is = keeps (none_left r x clean is)
