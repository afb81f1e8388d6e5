-- A write of any register, but one that stops or resets the controller, where all events are read: what is known agrees with the world
use Rattle.safety.proofs.LowerLaws.{has_runs, [], ◌≡◌, ◌≢◌, ◌<◌, ◌&&◌, ◌||◌, ◌⊎◌, if◌then◌else◌, ◌∙◌, ℕ, not, true, false, List, Option, None, Some, refl, sym, ap, subst, inl, inr, false≢true, Block, erdp_address, is_event_place, event_shape, Header, Register, Usbcmd, Crcr, Erdp, Reg, IsHeader, run_bit, reset_bit, World, counted, Known, learned, is_bad_register, lenient, DriverKeeps, Agrees, ◌∷◌, Bool, rules, Shape, Data, address_of, cycle_of, number, is_border, RingView, is_way_given, place_count_pos, cycle_of-first, shape_of, command_id, base_address, ring_cycle_state, RingEvent, Newest, state_of, RingMatches, UnderWay, UnderWayMatches, CommandMatches, Matches, EndpointRing, Spot, register_written, run_or_stop, runs_once, runs_again, valued, next_take, has_other_words, is_out_of_order, command_at, next_command, arith, register_facts, ring_shape, put_at, put_off, is_named, is_value, is_asked, is_done, HaltState, NotHalting, is_in_run, or_parts, cases_Bool, ceiling, none-some, ◌≤◌, unwrap_or, given_count, and_left, and_right, and_from, and_parts, ltb-true, nat_lt, is_stopping_now, may_be_taken, BoundRing, FreeRing, eqb-true, Took, Placed, NamesRing, names_ring, no_command_ring, told, is_bad_crcr}
use Rattle.safety.proofs.Rows.RowRegister.{ErdpReached, agrees_once_counted, same_matches, valued_agrees, with_same, erdp_agrees, erdp_stays}
use Rattle.world_state.specs.DriverRows as driver
use Rattle.world_state.specs.World as of_world

-- ---- the phase of the controller

module _ (h : Header) (k : Known) (unread : List Block) (w : World) (g : Agrees h k unread w) where
  -- the controller was started, and is that far in halting
  abbrev in_phase : Bool → HaltState → Known
  in_phase s a = record k { started = s; halt = a }

  abbrev world_phase : Bool → Bool → Bool → World
  world_phase s a b = record w { started = s; halting = a; halted = b }

  pub phase_agrees : (s : Bool) (a : HaltState) (b : Bool) → (is_done a ≡ true → b ≡ true) → (b ≡ true → is_asked a ≡ true) → (0 < w.posted → s ≡ true) →
      Agrees h (in_phase s a) unread (world_phase s (is_asked a) b)
  unfolding of_world.event_at
  phase_agrees s a b seen told posted = record {
    stands = record {
      started = refl;
      stopped = g.stands.stopped;
      halting = refl;
      halted = seen;
      told = told;
      registers = g.stands.registers;
      queues = g.stands.queues;
      lengths = g.stands.lengths;
      dequeue = g.stands.dequeue;
      quiet = g.stands.quiet;
    };
    events = record { order = g.events.order; count = g.events.count; places = g.events.places; started = posted; ring = g.events.ring };
    matches = same_matches h k (in_phase s a) w (world_phase s (is_asked a) b)
        (record { rings = refl; crcr = refl; slot_state = refl; endpoint_state = refl; ring_of = refl; isochronous = refl; was_bound = refl; stop_seen = refl; device = refl })
        (record { slot_state = refl; endpoint_state = refl; ring_of = refl; isochronous = refl; scribbles = refl; under_way = refl; inside = refl; there = refl; states = λ r. refl })
        refl refl g.matches;
    read = g.read;
    stamps = g.stamps;
  }

  told_done : (a : HaltState) (x : ℕ) → is_done (told a x) ≡ true → is_done a ≡ true
  told_done o x done = grind (arith, false≢true)

  told_asked : (a : HaltState) (x : ℕ) → is_asked (told a x) ≡ true
  told_asked o x = grind arith

  stands_in : (s : Bool) (a : HaltState) → (is_done a ≡ true → w.halted ≡ true) → (w.halted ≡ true → is_asked a ≡ true) → is_asked a ≡ w.halting → (0 < w.posted → s ≡ true) →
      Agrees h (in_phase s a) unread (record w { started = s })
  stands_in s a seen told same posted = subst (λ b. Agrees h (in_phase s a) unread (world_phase s b w.halted)) same (phase_agrees s a w.halted seen told posted)

  -- by whether it was started, and whether the value starts or stops it: one that runs but once
  once_known : Bool → Bool → Bool → Known
  once_known s a b = if not s then (if a then record k { started = true } else k) else (if b then record k { stopped = true } else k)

  once_world : Bool → Bool → Bool → World
  once_world s a b = if not s then (if a then record w { started = true } else w) else (if b then record w { stopped = true } else w)

  once_by : (s a b : Bool) → (once_known s a b).stopped ≡ false → Agrees h (once_known s a b) unread (once_world s a b)
  unfolding once_known once_world
  once_by true a true still = absurd (false≢true (sym still))
  once_by true a false still = g
  once_by false true b still = stands_in true k.halt g.stands.halted g.stands.told (sym g.stands.halting) (λ _. refl)
  once_by false false b still = g

  once_agrees : (x : ℕ) → (runs_once k x).stopped ≡ false → Agrees h (runs_once k x) unread (driver.runs_once h w x)
  unfolding runs_once driver.runs_once once_known once_world
  once_agrees x still =
      subst (λ s. Agrees h (runs_once k x) unread (once_world s (run_bit x && not (reset_bit x)) (not (run_bit x) || reset_bit x))) (sym g.stands.started)
      (once_by k.started (run_bit x && not (reset_bit x)) (not (run_bit x) || reset_bit x) still)

  -- one that runs again
  again_known : ℕ → Bool → Bool → Bool → Known
  again_known x r a s = if r then k else if a then record k { started = true; halt = NotHalting } else if s then record k { halt = told k.halt x } else k

  again_world : Bool → Bool → Bool → World
  again_world r a s = if r then w else if a then record w { started = true; halting = false; halted = false } else if s then record w { halting = true } else w

  again_by : (x : ℕ) (r a s : Bool) → Agrees h (again_known x r a s) unread (again_world r a s)
  unfolding again_known again_world
  again_by x true a s = g
  again_by x false true s = phase_agrees true NotHalting false (λ done. absurd (false≢true done)) (λ done. absurd (false≢true done)) (λ _. refl)
  again_by x false false true =
      let halt : HaltState = told k.halt x in
      let halts : Agrees h (in_phase k.started halt) unread (world_phase k.started (is_asked halt) w.halted) =
      phase_agrees k.started halt w.halted (λ done. g.stands.halted (told_done k.halt x done)) (λ done. told_asked k.halt x) (λ some. sym g.stands.started ∙ g.events.started some) in
      subst (λ a. Agrees h (record k { halt = halt }) unread (record w { halting = a })) (told_asked k.halt x)
      (subst (λ s. Agrees h (record k { halt = halt }) unread (world_phase s (is_asked halt) w.halted)) (sym g.stands.started) halts)
  again_by x false false false = g

  again_agrees : (x : ℕ) → Agrees h (runs_again k x) unread (driver.runs_again h w x)
  unfolding runs_again driver.runs_again again_known again_world
  again_agrees x = subst (λ s. Agrees h (runs_again k x) unread (again_world (reset_bit x) (run_bit x) s)) (sym g.stands.started) (again_by x (reset_bit x) (run_bit x) k.started)

  run_agrees : (x : ℕ) → (run_or_stop h k x).stopped ≡ false → Agrees h (run_or_stop h k x) unread (driver.run_or_stop h w x)
  unfolding run_or_stop driver.run_or_stop
  run_agrees x still =
      elim (cases_Bool (has_runs h.version)) [
        | inl again ↦
            subst (λ b. Agrees h (if b then runs_again k x else runs_once k x) unread (if b then driver.runs_again h w x else driver.runs_once h w x)) (sym again) (again_agrees x)
        | inr once ↦
            subst (λ b. Agrees h (if b then runs_again k x else runs_once k x) unread (if b then driver.runs_again h w x else driver.runs_once h w x)) (sym once)
            (once_agrees x (subst (λ b. (if b then runs_again k x else runs_once k x).stopped ≡ false) once still))
      ]

-- ---- CRCR

border_first : (lengths : List ℕ) → is_border lengths 0 0 ≡ true
unfolding is_border
border_first [] = refl
border_first (n ∷ rest) = refl

-- of a ring of which nothing was taken the newest event, where there is one, placed it
newest_none : (shape : Shape) (v : RingView) (events : List RingEvent) → next_take shape events ≡ 0 → Newest shape v 0 events
unfolding next_take
newest_none shape v [] none = border_first v.lengths
newest_none shape v (Placed a ∷ older) none = border_first v.lengths
newest_none shape v (Took a b d ∷ older) none = absurd (omega (arith, none))

-- the controller's pointer into command rings is set on one that wasn't started
module _ (h : Header) (is : IsHeader h) (k : Known) (unread : List Block) (w : World) (d : DriverKeeps h k) (g : Agrees h k unread w) (x : ℕ) (n : NamesRing h is k x) where
  m : Known
  m = valued k Crcr x

  v : World
  v = driver.command_placed h (driver.valued w Crcr x) x

  new : next_take (shape_of h (command_id h)) (w.events (command_id h)) ≡ 0
  new = g.matches.new n.unused

  -- its takes, of which there are none, are as they should be
  right : (is_out_of_order (shape_of h (command_id h)) (w.events (command_id h)) ≡ false) × (has_other_words (shape_of h (command_id h)) (w.events (command_id h)) ≡ false)
  right =
      elim (cases_Bool (is_named k)) [
        | inr off ↦ let rests = (g.matches.before off).rests in (rests.in_order, rests.as_declared)
        | inl on ↦ let ring = (g.matches.command on).ring in (ring.in_order, ring.as_declared)
      ]

  -- it is held where it begins
  held_is : (o : Option ℕ) → not (is_value 0 o) ≡ false → o ≡ Some 0
  held_is o unused = grind (arith, eqb-true, false≢true)

  held : (k.ring (command_id h)).held ≡ Some 0
  held = held_is (k.ring (command_id h)).held n.unused

  floor : (k.ring (command_id h)).floor ≡ Data 0
  floor = elim d.command_ring.held [ inl none ↦ absurd (none-some 0 (sym none ∙ held)) | inr first ↦ first.1 ]

  unmoved : (shape_of h (command_id h)).offset ≡ 0
  unmoved = elim d.command_ring.held [ inl none ↦ absurd (none-some 0 (sym none ∙ held)) | inr first ↦ first.2 ]

  no_ceiling : ceiling (shape_of h (command_id h)) (k.ring (command_id h)) ≡ 0
  unfolding ceiling
  no_ceiling = ap (λ o. unwrap_or o (given_count (shape_of h (command_id h)) (k.ring (command_id h)))) held

  next_zero : next_command h k ≡ 0
  unfolding next_command
  next_zero = ap (λ t. number t) floor

  idle : w.under_way ≡ None
  idle =
      elim (cases_Bool (is_named k)) [
        | inr off ↦ (g.matches.before off).none
        | inl on ↦ nothing_taken (g.matches.command on).spot w.under_way (g.matches.command on).ring.below (g.matches.command on).under_way
      ]
    where
      nothing_taken : (t : Spot) (o : Option UnderWay) → number t ≤ ceiling (shape_of h (command_id h)) (k.ring (command_id h)) → UnderWayMatches h k t o → o ≡ None
      nothing_taken t None below u = refl
      nothing_taken t (Some y) below u = absurd (omega (arith, below, u.0, no_ceiling))

  not_taken : (s i : ℕ) → is_stopping_now h k s i ≡ true → ⊥
  unfolding is_stopping_now may_be_taken
  not_taken s i stopping = search (rules, and_parts, ltb-true, no_ceiling, nat_lt)

  -- no Stop Endpoint is the next command
  seen : (s i : ℕ) → k.stop_seen s i ≡ false
  seen s i =
      elim (cases_Bool (k.stop_seen s i)) [
        | inr none ↦ none
        | inl stopped ↦ absurd (not_taken s i (d.states.seen_command s i stopped))
      ]

  pointer : v.pointer_of (command_id h) ≡ address_of (shape_of h (command_id h)) 0
  unfolding v driver.command_placed driver.valued
  pointer = put_at w.pointer_of (command_id h) (base_address x) ∙ n.base

  cycle : v.cycle_state (command_id h) ≡ cycle_of (shape_of h (command_id h)) 0
  unfolding v driver.command_placed driver.valued
  cycle = put_at w.cycle_state (command_id h) (ring_cycle_state x) ∙ n.cycle ∙ sym (cycle_of-first (shape_of h (command_id h)) unmoved 0 (place_count_pos (shape_of h (command_id h)) (ring_shape h is (command_id h) n.is_ring).is))

  -- it works once its doorbell is rung
  inactive : v.is_active (command_id h) ≡ false
  unfolding v driver.command_placed driver.valued
  inactive = elim (cases_Bool (w.is_active (command_id h))) [
    | inr off ↦ and_left (w.is_active (command_id h)) _ off
    | inl on ↦ elim (cases_Bool (is_named k)) [
      | inr off ↦ absurd (false≢true (sym (g.matches.before off).rests.inactive ∙ on))
      | inl named ↦ absurd (none-some 0 (sym ((g.matches.command named).ring.opened on) ∙ held))
    ]
  ]

  still_new : next_take (shape_of h (command_id h)) (v.events (command_id h)) ≡ 0
  unfolding v driver.command_placed driver.valued
  still_new = new

  still_right : (is_out_of_order (shape_of h (command_id h)) (v.events (command_id h)) ≡ false) × (has_other_words (shape_of h (command_id h)) (v.events (command_id h)) ≡ false)
  unfolding v driver.command_placed driver.valued
  still_right = right

  none : v.under_way ≡ None
  unfolding v driver.command_placed driver.valued
  none = idle

  first : RingMatches (shape_of h (command_id h)) (k.ring (command_id h)) (state_of v (command_id h)) (Data 0)
  unfolding is_way_given
  first = search (rules, v, pointer, cycle, is_way_given, true, number, false≢true, inactive, still_new, newest_none, still_right, floor)

  next_there : next_command h m ≡ 0
  unfolding next_command m valued
  next_there = ap (λ t. number t) floor

  command : CommandMatches h m v
  unfolding m valued
  command = record { spot = Data 0; ring = first; under_way = subst (λ o. UnderWayMatches h m (Data 0) o) (sym none) (sym next_there, seen) }

  -- the other rings are as they were
  others : (r : ℕ) → r ≢ command_id h → state_of v r ≡ state_of w r
  unfolding v driver.command_placed driver.valued
  others r other = λ j. record {
    pointer = put_off w.pointer_of (command_id h) (base_address x) r other j;
    cycle = put_off w.cycle_state (command_id h) (ring_cycle_state x) r other j;
    active = (ap (λ b. w.is_active r && not b) (no_command_ring h is r other) ∙ and_true (w.is_active r)) j;
    events = w.events r;
    reported = w.reported r;
  }
    where
      and_true : (b : Bool) → (b && true) ≡ b
      and_true o = grind arith

  other_ring : (r : ℕ) → r ≢ command_id h → EndpointRing h m v r
  unfolding m valued
  other_ring r other = elim (g.matches.rings r other) [
    | inl bound ↦ inl (subst (λ s. BoundRing (shape_of h r) k.ring_of (k.ring r) s r) (sym (others r other)) bound)
    | inr free ↦ inr (subst (λ s. FreeRing (shape_of h r) k.ring_of (k.ring r) s r) (sym (others r other)) free)
  ]

  placed_matches : Matches h m v
  unfolding m v valued driver.command_placed driver.valued command_at
  placed_matches = record {
    slots = g.matches.slots;
    endpoints = g.matches.endpoints;
    ring_of = g.matches.ring_of;
    isochronous = g.matches.isochronous;
    rings = other_ring;
    before = λ off. absurd (false≢true (sym off));
    command = λ _. command;
    new = λ _. still_new;
    scribbles = g.matches.scribbles;
    contexts = λ p c u. g.matches.contexts p c (record { due = u.due; given = u.given; command = u.command });
    inside = g.matches.inside;
    there = g.matches.there;
  }

  pub placed_agrees : Agrees h (valued k Crcr x) unread (driver.command_placed h (driver.valued w Crcr x) x)
  unfolding m v valued driver.command_placed driver.valued of_world.event_at
  placed_agrees = record {
    stands = record {
      started = g.stands.started;
      stopped = g.stands.stopped;
      halting = g.stands.halting;
      halted = g.stands.halted;
      told = g.stands.told;
      registers = λ q other. with_same h k unread w g Crcr q x other;
      queues = g.stands.queues;
      lengths = g.stands.lengths;
      dequeue = g.stands.dequeue;
      quiet = g.stands.quiet;
    };
    events = record { order = g.events.order; count = g.events.count; places = g.events.places; started = g.events.started; ring = g.events.ring };
    matches = placed_matches;
    read = g.read;
    stamps = g.stamps;
  }

-- where the controller isn't known to run it doesn't
idle_world : (h : Header) (k : Known) (unread : List Block) (w : World) → Agrees h k unread w → is_in_run k ≡ false → (w.started && not w.halted) ≡ false
idle_world h k unread w g idle =
    elim (cases_Bool k.started) [
      | inr off ↦ and_left w.started (not w.halted) (g.stands.started ∙ off)
      | inl on ↦ elim (cases_Bool (is_done k.halt)) [
        | inl done ↦ and_right w.started (not w.halted) (ap not (g.stands.halted done))
        | inr runs ↦ absurd (false≢true (sym idle ∙ and_from k.started (not (is_done k.halt)) on (ap not runs)))
      ]
    ]

-- where an ERDP may go, in the world as it is
unfoldable pub MayMove : Header → World → Register → ℕ → Type 0
MayMove h w Erdp x = ErdpReached h w (erdp_address x) ⊎ (is_event_place (event_shape h) (erdp_address x) ≡ false)
MayMove h w _ x = Unit {0}

reached_valued : (h : Header) (w : World) (r : Register) (x a : ℕ) → ErdpReached h w a → ErdpReached h (driver.valued w r x) a
unfolding driver.valued
reached_valued h w r x a e = record { more = e.more; reached = e.reached; within = e.within }

module _ (h : Header) (is : IsHeader h) (k : Known) (unread : List Block) (w : World) (d : DriverKeeps h k) (g : Agrees h k unread w) where
  idle_valued : (x : ℕ) → is_in_run k ≡ false → ((driver.valued w Crcr x).started && not (driver.valued w Crcr x).halted) ≡ false
  unfolding driver.valued
  idle_valued x idle = idle_world h k unread w g idle

  register_by : (r : Register) (x : ℕ) → MayMove h w r x → is_bad_register h k r x ≡ false → (register_written h k r x).stopped ≡ false →
      Agrees h (register_written h k r x) unread (driver.register_row h w r x)
  unfolding register_written driver.register_row driver.with_command_ring MayMove is_bad_register valued
  register_by Usbcmd x may good still =
      run_agrees h (valued k Usbcmd x) unread (driver.valued w Usbcmd x) (valued_agrees h k unread w g Usbcmd x (λ e. cc)) x still
  register_by Crcr x may good still =
      let parts = or_parts (is_in_run k) (is_bad_crcr h k x) good in
      subst (λ b. Agrees h (valued k Crcr x) unread (if b then driver.valued w Crcr x else driver.command_placed h (driver.valued w Crcr x) x)) (sym (idle_valued x parts.0))
      (placed_agrees h is k unread w d g x (names_ring h is k x parts.1))
  register_by Erdp x may good still =
      elim may [
        | inl reached ↦
            erdp_agrees h (valued k Erdp x) unread (driver.valued w Erdp x) (valued_agrees h k unread w g Erdp x (λ e. cc)) (erdp_address x)
            (reached_valued h w Erdp x (erdp_address x) reached)
        | inr none ↦ erdp_stays h (valued k Erdp x) unread (driver.valued w Erdp x) (valued_agrees h k unread w g Erdp x (λ e. cc)) (erdp_address x) none
      ]
  register_by r x may good still = valued_agrees h k unread w g r x (λ e. cc)

  pub register_agrees : (r : Register) (x : ℕ) → MayMove h w r x → lenient h k (Reg r x) ≡ [] → (learned h k (Reg r x)).stopped ≡ false →
      Agrees h (learned h k (Reg r x)) unread (counted h (driver.register_row h w r x))
  unfolding learned
  register_agrees r x may clean still =
      agrees_once_counted h (register_written h k r x) unread (driver.register_row h w r x)
      (register_by r x may (register_facts h k r x clean).good still)
