-- A Transfer Event, whatever its code: the lazy run brings its ring to where the event says, reports it, and reads it; and with that the lazy law
use Rattle.safety.proofs.UpperLaws.{stop_by_address, can_post, may_post, is_off, post_of, made, event_read, transfer_read, transferred_at, transfer_kind, Report, code_told, code, reported, reported_on, report_runs, ServiceFacts, Header, LazyLaw, AllAreRead, EventLaw, [], ◌||◌, inl, inr, cases_Bool, is_success, is_halting, is_trb_error, is_transfer_event, ◌≡◌, ◌≢◌, ◌≤◌, ◌&&◌, ◌∷◌, ◌∙◌, ℕ, true, false, List, Option, Some, arith, sym, ap, subst, false≢true, not-false, and_from, Block, IsBlock, kind, slot, endpoint, is_stopping, Spot, Data, is_open, floor_number, MayReach, rank, number, after, ceiling_within, after_reached, next_later, Read, Row, IsHeader, shape_of, command_id, World, Known, learned, lenient, RingSpot, transferred, IsDriverRing, DriverKeeps, Agrees, transfer_driver, ring_shape, is_held_ring, is_late, brought, ◌+◌, ◌-◌, ◌<◌, ◌==◌, not, length, None, refl, ltb-true, eq-eqb, rules, and_parts, cond-true, cond-false, not_from_true, pointer, ceiling, cycle_of_bit, command_of, is_stop_of, is_running, UnderWay, unreported, command_at, next_command, is_stopping_now, may_be_taken, UnderWayMatches, CommandMatches, event_facts, put_off, at_floor, command_is_ring, command_at_is, command_of-with_cycle, StopCode, stored, stored_block, names_last, is_stop_under_way, posts_posted, report_code, report_stop, stopped_with, with_reported, ne_eqb, cases_lt, put, number-after, stop_spot_reached, rank_least, rank_most, transfer_not_command, put_at, next_is, goals, further, report_goals, command_taken, taken_up_to, stop_goal, need, ◌++◌, reverse, flat_map, looks_to, StandsAt, IsActiveIfOpen, Follows, Carries, Leads, Past, Traced, traced_behind, TransferFacts, NamesBlock, success_names, error_names, commands_open, CommandsOpen, AreTimely, IsHeld, need_of_held, timely_then, StopsThere, stop_names, stop_code, agrees_now, transfer_facts, is_named, is_done, named_if_taken, error_goes_on, success_goes_on}
use Rattle.safety.proofs.DriverHistories.{run_keeps}
use Rattle.safety.proofs.LazyRuns.PostStep.{IsSilent, running_named, running_now, timely_running, silent_step, event_law, EventLawOf, EventLearns, pointers_transfer, report_step}
use Rattle.safety.proofs.LazyRuns.Completions.{completion_law}
use Rattle.safety.proofs.LazyRuns.Induction.{lazy_from_events, all_read_from_events}
use Rattle.safety.proofs.LazyRuns.LooksRun.{AllFit, further_then, further_not, Fits, AreApart, AllBrought, goals_reached}
use Rattle.safety.proofs.LazyRuns.TransferGoals.{Reports, there as spot_there, reached, at_address, success_reports, error_reports, block_goal, brought_here, brought_off, read_is, learns, success_floor, error_ring, report_at, IsHeldAt, further_is, taken_behind, goals_are, stop_ring, no_command as off_command}

module _ (h : Header) where
  -- the next command may be taken, and is a Stop Endpoint for the endpoint
  pub record StopIsNext (k : Known) (s i : ℕ) : Type 0 where
    pub below : next_command h k < ceiling (shape_of h (command_id h)) (k.ring (command_id h))
    pub stop : is_stop_of s i (command_at h k (next_command h k)) ≡ true

  pub stop_is_next : (k : Known) (s i : ℕ) → is_stopping_now h k s i ≡ true → StopIsNext k s i
  unfolding is_stopping_now may_be_taken
  stop_is_next k s i now = search (rules, and_parts, may_be_taken, is_stop_of, command_at, next_command, ltb-true, ceiling, shape_of, command_id)

  module _ (is : IsHeader h) (k : Known) (w : World) (b : Block) (block : IsBlock b) (d : DriverKeeps h k) (g : Agrees h k [] w) (clean : lenient h k (Read b) ≡ []) (transfer : is_transfer_event (kind b) ≡ true)
      (f : TransferFacts h k b) (next : StopIsNext k (slot b) (endpoint b)) (t : Spot) (commands : StandsAt h w (command_id h) t) (taken : next_command h k + 1 ≤ number t) where
    is_called : is_named k ≡ true
    is_called = named_if_taken h k d (event_facts h k b clean).started next.below

    -- the command that was taken is that Stop Endpoint
    command_is : (y : UnderWay) (c : CommandMatches h k w) → w.under_way ≡ Some y → command_of y.block ≡ command_at h k (next_command h k)
    command_is y c at =
        let under : UnderWayMatches h k c.spot (Some y) = subst (λ o. UnderWayMatches h k c.spot o) at c.under_way in
        let l = at_floor h is k d (command_is_ring h k d is_called) (commands_open h k d next.below).given in
        ap (λ e. command_of e) (under.1.words l.block l.queued) ∙ command_of-with_cycle l.block _ (cycle_of_bit (shape_of h (command_id h)) (next_command h k))
        ∙ sym (command_at_is h k (next_command h k) l.block l.queued)

    under_by : (o : Option UnderWay) (c : CommandMatches h k w) → w.under_way ≡ o → is_stop_under_way h (slot b) (endpoint b) o ≡ true
    unfolding is_stop_under_way
    under_by None c at = search (rules, command_is)
    under_by (Some y) c at = search (rules, command_is)

    under : is_stop_under_way h (slot b) (endpoint b) w.under_way ≡ true
    under = under_by w.under_way (g.matches.command is_called) refl

    module _ (stop : StopCode (code_told h k b)) (runs : is_running (k.endpoint_state (slot b) (endpoint b)) ≡ true) (on : w.is_active f.ring ≡ true) (here : pointer b ≡ w.pointer_of f.ring) where
      abbrev u : World
      u = posts_posted h w b

      -- it names the last take, or the pointer
      abbrev stopped : ℕ → World
      stopped n = stopped_with h u f.ring n

      stop_leaves : (n : ℕ) → report_stop h u (slot b) (endpoint b) f.ring b ≡ Some (stopped n) → Reports h w b f.ring
      unfolding report_code stopped_with with_reported posts_posted stored_block stored
      stop_leaves n made = record {
        world = stopped n;
        at = report_at h is k w b block d g clean transfer f (stopped n)
            (cond-false _ _ _ stop.success ∙ cond-false _ _ _ stop.halting ∙ cond-false _ _ _ stop.error ∙ cond-true _ _ _ stop.stopping ∙ made);
        leaves = record { memory = refl; posted = refl; reads = refl; pointers = refl; cycles = refl; events = refl; halted = refl; active = λ q other. put_off w.is_active f.ring false q other };
      }

      may_stop : not (is_stop_under_way h (slot b) (endpoint b) u.under_way && is_running (u.endpoint_state (slot b) (endpoint b)) && u.is_active f.ring) ≡ false
      unfolding posts_posted stored_block stored
      may_stop = search (rules, not_from_true, and_from, w.is_active, is_running, w.endpoint_state, slot, endpoint, under, g.matches.endpoints)

      at_pointer : (pointer b == u.pointer_of f.ring) ≡ true
      unfolding posts_posted stored_block stored
      at_pointer = eq-eqb (pointer b) (w.pointer_of f.ring) here

      pub stop_reports : Reports h w b f.ring
      unfolding report_stop
      stop_reports =
          elim (cases_Bool (names_last b (unreported u f.ring))) [
            | inl last ↦ stop_leaves (u.reported f.ring + length (unreported u f.ring) - 1) (cond-false _ None _ may_stop ∙ cond-true _ _ _ last)
            | inr other ↦ stop_leaves (u.reported f.ring + length (unreported u f.ring)) (cond-false _ None _ may_stop ∙ cond-false _ _ _ other ∙ cond-true _ _ None at_pointer)
          ]

module _ (h : Header) where
  -- where no event is late, the ring of a success is open
  open_ring : (k : Known) (o : Option ℕ) (r : ℕ) → o ≡ Some r → is_held_ring k o ≡ false → is_open (k.ring r) ≡ true
  unfolding is_held_ring
  open_ring k o r at timely = not-false (is_open (k.ring r)) (ap (λ x. is_held_ring k x) (sym at) ∙ timely)

  success_open : (k : Known) (b : Block) (r : ℕ) → k.ring_of (slot b) (endpoint b) ≡ Some r → is_transfer_event (kind b) ≡ true → is_success (code_told h k b) ≡ true →
      is_late h k (Read b) ≡ false → is_open (k.ring r) ≡ true
  unfolding is_late
  success_open k b r bound transfer success timely = search (rules, open_ring, slot, endpoint, is_held_ring, and_from, is_transfer_event, kind, is_success, code)

  taken_spot : (k : Known) → command_taken h k ≡ record { ring = command_id h; spot = after (shape_of h (command_id h)) (next_command h k) }
  unfolding command_taken
  taken_spot k = taken_behind h (command_id h) (next_command h k)

  -- no success is read of a ring that stops: it stops where it is said to
  stops_there : (at : RingSpot) (n : ℕ) → n ≡ 0 → stop_goal h at n ≡ at
  unfolding stop_goal
  stops_there at n none = cond-false (n == number at.spot + 1) (taken_up_to h at.ring n) at (ne_eqb n (number at.spot + 1) (λ same. omega (arith, same, none)))

  module _ (is : IsHeader h) (past : Past h) (later : List Row) (b : Block) (block : IsBlock b) (clean : lenient h past.known (Read b) ≡ []) (transfer : is_transfer_event (kind b) ≡ true) (w : World)
      (f : Follows h past.known past.pointers w) (running : is_done past.known.halt ≡ false) (e : TransferFacts h past.known b) where
    trace : Traced h past.known past.pointers w
    trace = traced_behind h past.known past.pointers w f

    agrees : (pointers : ℕ → Spot) (u : World) → Traced h past.known pointers u → Agrees h past.known [] u
    agrees pointers u trace = agrees_now h past.known u trace.runs trace.all_read

    now : Agrees h past.known [] w
    now = agrees past.pointers w trace

    no_command : e.ring ≢ command_id h
    no_command = off_command h is past.known w b block past.keeps now clean transfer e

    -- where the rings stand before the looks
    abbrev at_first : ℕ → Spot
    at_first = past.pointers

    -- the goals of the schedule, and what holds of them, of the row and of the report
    module _ (list : List RingSpot) (are : goals h past.known later (kind b) b ≡ list) (apart : AreApart h list) (fits : AllFit h past.known w at_first list)
        (t : Spot) (learns : EventLearns h past.known (learned h past.known (Read b)) e.ring t) (here : brought h at_first list e.ring ≡ t)
        (others : (s i q : ℕ) → past.known.ring_of s i ≡ Some q → q ≢ e.ring → brought h at_first list q ≡ at_first q)
        (reports : (u : World) → Traced h past.known (brought h at_first list) u → (x : Reports h u b e.ring) × IsActiveIfOpen (learned h past.known (Read b)) x.world e.ring)
        (run : Leads h past past.made ((Read b) ∷ later) w) where
      looked : AllBrought h past ((Read b) ∷ later) past.made w at_first list (flat_map (looks_to h at_first) list)
      looked = goals_reached h is past ((Read b) ∷ later) past.made w at_first list running apart fits run trace

      row_carries : Carries h past (Read b) later
      row_carries =
          let one = reports looked.world looked.traced in
          report_step h is past later b (brought h at_first list) looked.world one.0.world e.ring t block clean transfer looked.traced one.0.at one.0.leaves learns running no_command here
          (λ s i q at other. others s i q at other ∙ f.traced s i q at)
          (λ q. pointers_transfer h b past later q transfer ∙ ap (λ l. brought h at_first l q) are)
          one.1 (subst (λ l. Leads h past (reverse l ++ past.made) ((Read b) ∷ later) looked.world) (ap (λ l. flat_map (looks_to h at_first) l) (sym are)) looked.run)

    -- ---- a success or an error: the ring is brought behind the block that the event names

    module _ (n : NamesBlock h past.known e.ring e.spot) (goes_on : is_stopping (code_told h past.known b) ≡ false) (opened : is_open (past.known.ring e.ring) ≡ true) where
      goal : RingSpot
      goal = record { ring = e.ring; spot = after (shape_of h e.ring) n.position }

      near : rank (at_first e.ring) ≤ rank (after (shape_of h e.ring) n.position)
      near =
          let past_it = next_later (shape_of h e.ring) (Data n.position) in
          let same : rank (at_first e.ring) ≡ rank (past.known.ring e.ring).floor = ap rank (f.traced (slot b) (endpoint b) e.ring e.bound) in
          omega (arith, (subst (λ t. rank (past.known.ring e.ring).floor ≤ rank t) n.is (reached h is past.known w b block past.keeps now clean transfer e)), past_it, same)

      reach : MayReach (shape_of h e.ring) (past.known.ring e.ring) (after (shape_of h e.ring) n.position)
      reach =
          let driver : IsDriverRing h e.ring = transfer_driver h e.ring (past.keeps.states.transfer (slot b) (endpoint b) e.ring e.bound) in
          let within = ceiling_within (shape_of h e.ring) (ring_shape h is e.ring driver).is past.known.memory (past.known.ring e.ring) (past.keeps.rings e.ring driver) in
          let from : floor_number (past.known.ring e.ring) ≤ n.position =
          subst (λ t. floor_number (past.known.ring e.ring) ≤ number t) n.is (spot_there h is past.known w b block past.keeps now clean transfer e).from in
          after_reached (shape_of h e.ring) (past.known.ring e.ring) n.position (omega (arith, from)) (omega (arith, n.below, within.1))

      active : w.is_active e.ring ≡ true
      active = f.active (slot b) (endpoint b) e.ring e.bound opened

      fits : AllFit h past.known w at_first (goal ∷ [])
      unfolding goal
      fits = (
        record {
          stands = trace.rings (slot b) (endpoint b) e.ring e.bound;
          may = λ further. record { active = active; reach = reach; one_command = λ same. absurd (no_command same) };
        },
        tt,
      )

      module _ (floor : ((transferred h past.known (code_told h past.known b) (slot b) (endpoint b) e.ring e.spot).ring e.ring).floor ≡ after (shape_of h e.ring) (number e.spot))
          (reports : (u : World) → Agrees h past.known [] u → u.is_active e.ring ≡ true → StandsAt h u e.ring (after (shape_of h e.ring) n.position) →
          (x : Reports h u b e.ring) × IsActiveIfOpen (learned h past.known (Read b)) x.world e.ring)
          (run : Leads h past past.made ((Read b) ∷ later) w) where
        behind : EventLearns h past.known (learned h past.known (Read b)) e.ring (after (shape_of h e.ring) n.position)
        behind = learns h past.known b transfer e (after (shape_of h e.ring) n.position) (floor ∙ ap (λ t. after (shape_of h e.ring) (number t)) n.is)

        reports_there : (u : World) → Traced h past.known (brought h at_first (goal ∷ [])) u → (x : Reports h u b e.ring) × IsActiveIfOpen (learned h past.known (Read b)) x.world e.ring
        unfolding goal
        reports_there u trace =
            reports u (agrees (brought h at_first (goal ∷ [])) u trace) (trace.active (slot b) (endpoint b) e.ring e.bound opened)
            (subst (λ t. StandsAt h u e.ring t) (brought_here h at_first e.ring (after (shape_of h e.ring) n.position) near) (trace.rings (slot b) (endpoint b) e.ring e.bound))

        block_carries : Carries h past (Read b) later
        unfolding goal
        block_carries =
            row_carries (goal ∷ []) (block_goal h past.known b transfer e later n goes_on) (tt, tt) fits
            (after (shape_of h e.ring) n.position) behind (brought_here h at_first e.ring (after (shape_of h e.ring) n.position) near)
            (λ s i q at other. brought_off h at_first e.ring q (after (shape_of h e.ring) n.position) other) reports_there run

    module _ (run : Leads h past past.made ((Read b) ∷ later) w) where
      pub success_carries : is_success (code_told h past.known b) ≡ true → is_late h past.known (Read b) ≡ false → Carries h past (Read b) later
      success_carries success timely =
          let n : NamesBlock h past.known e.ring e.spot = success_names h past.known b e success in
          let opened = success_open past.known b e.ring e.bound transfer success timely in
          block_carries n (success_goes_on (code_told h past.known b) success) opened (success_floor h past.known b transfer e (code_told h past.known b) (slot b) (endpoint b) e.ring e.spot success)
          (λ u agree active here.
          let r = success_reports h is past.known u b block past.keeps agree clean transfer e n here success in (r.0, λ _. r.1 ∙ active))
          run

      pub error_carries : is_success (code_told h past.known b) ≡ false → (is_halting (code_told h past.known b) || is_trb_error (code_told h past.known b)) ≡ true → Carries h past (Read b) later
      error_carries fails breaks =
          let named = error_names h past.known b e fails breaks in
          let n : NamesBlock h past.known e.ring e.spot = named.0 in
          let there = error_ring h past.known b transfer e (code_told h past.known b) (slot b) (endpoint b) e.ring e.spot fails breaks in
          let held : is_open ((learned h past.known (Read b)).ring e.ring) ≡ false = ap (λ (l : Known). is_open (l.ring e.ring)) (read_is h past.known b transfer e) ∙ there.held in
          block_carries n (error_goes_on (code_told h past.known b) breaks) named.1.opened there.floor
          (λ u agree active here.
          (error_reports h is past.known u b block past.keeps agree clean transfer e n here named.1.runs active fails breaks, λ opened. absurd (false≢true (sym held ∙ opened))))
          run

    -- ---- a stop: its Stop Endpoint is taken, and the ring is brought to the spot that it names

    module _ (fails : is_success (code_told h past.known b) ≡ false) (quiet : (is_halting (code_told h past.known b) || is_trb_error (code_told h past.known b)) ≡ false) (timely : AreTimely h past.known ((Read b) ∷ later)) where
      stops : StopsThere h past.known b e
      stops = stop_names h past.known b e fails quiet

      coded : StopCode (code_told h past.known b)
      coded = stop_code h past.known b e fails quiet

      next : StopIsNext h past.known (slot b) (endpoint b)
      next = stop_is_next h past.known (slot b) (endpoint b) stops.now

      opened : CommandsOpen h past.known
      opened = commands_open h past.known past.keeps next.below

      named : is_named past.known ≡ true
      named = running_named h past.known b past.keeps clean running

      there : IsHeldAt h past.known b transfer e (code_told h past.known b) (slot b) (endpoint b) e.ring e.spot (transferred h past.known (code_told h past.known b) (slot b) (endpoint b) e.ring e.spot) e.spot
      there = stop_ring h past.known b transfer e (code_told h past.known b) (slot b) (endpoint b) e.ring e.spot coded.success coded.halting coded.error coded.stopping

      held : IsHeld (learned h past.known (Read b)) e.ring
      held = ap (λ (l : Known). is_open (l.ring e.ring)) (read_is h past.known b transfer e) ∙ there.held

      needs_none : need h (learned h past.known (Read b)) e.ring later ≡ 0
      needs_none = need_of_held later h (learned h past.known (Read b)) e.ring (past.keeps.states.transfer (slot b) (endpoint b) e.ring e.bound) held (timely_then h past.known b later timely)

      -- ---- the goals

      command : RingSpot
      command = record { ring = command_id h; spot = after (shape_of h (command_id h)) (next_command h past.known) }

      place : RingSpot
      place = record { ring = e.ring; spot = e.spot }

      both_goals : goals h past.known later (kind b) b ≡ command ∷ place ∷ []
      unfolding report_goals command place
      both_goals =
          goals_are h past.known b transfer e later
          ∙ cond-true (is_stopping (code_told h past.known b)) (command_taken h past.known ∷ stop_goal h place (need h (learned h past.known (Read b)) e.ring later) ∷ []) (taken_up_to h e.ring (number e.spot + 1) ∷ []) coded.stopping
          ∙ ap (λ (g : RingSpot). g ∷ stop_goal h place (need h (learned h past.known (Read b)) e.ring later) ∷ []) (taken_spot past.known)
          ∙ ap (λ (g : RingSpot). command ∷ g ∷ []) (stops_there place (need h (learned h past.known (Read b)) e.ring later) needs_none)

      -- the command ring stands stop_learns the Stop Endpoint
      at_command : Spot
      at_command = further (at_first (command_id h)) (after (shape_of h (command_id h)) (next_command h past.known))

      abbrev behind_command : Spot
      behind_command = further (at_first (command_id h)) (after (shape_of h (command_id h)) (next_command h past.known))

      abbrev taken : ℕ → Spot
      taken = put at_first (command_id h) behind_command

      brought_both : (q : ℕ) → q ≢ command_id h → q ≢ e.ring → brought h at_first (command ∷ place ∷ []) q ≡ at_first q
      unfolding brought command place
      brought_both q other apart = put_off taken e.ring (further (taken e.ring) e.spot) q apart ∙ put_off at_first (command_id h) behind_command q other

      ring_brought : brought h at_first (command ∷ place ∷ []) e.ring ≡ e.spot
      unfolding brought command place
      ring_brought =
          put_at taken e.ring (further (taken e.ring) e.spot) ∙ ap (λ t. further t e.spot) (put_off at_first (command_id h) behind_command e.ring no_command)
          ∙ further_is (at_first e.ring) e.spot (omega (arith, reached h is past.known w b block past.keeps now clean transfer e, (ap rank (f.traced (slot b) (endpoint b) e.ring e.bound))))

      command_brought : brought h at_first (command ∷ place ∷ []) (command_id h) ≡ at_command
      unfolding brought command place at_command
      command_brought = put_off taken e.ring (further (taken e.ring) e.spot) (command_id h) (λ same. no_command (sym same)) ∙ put_at at_first (command_id h) behind_command

      command_fits : Fits h past.known w at_first command
      unfolding command
      command_fits = record {
        stands = trace.command named;
        may = λ further. record {
          active = f.command_active named opened.opened;
          reach = after_reached (shape_of h (command_id h)) (past.known.ring (command_id h)) (next_command h past.known) (omega (arith, next_is h past.known)) opened.given;
          one_command = λ same. omega (arith, number-after (shape_of h (command_id h)) (next_command h past.known));
        };
      }

      place_fits : Fits h past.known w at_first place
      unfolding place
      place_fits =
          let named = spot_there h is past.known w b block past.keeps now clean transfer e in
          record {
            stands = trace.rings (slot b) (endpoint b) e.ring e.bound;
            may = λ further. record {
              active = f.active (slot b) (endpoint b) e.ring e.bound stops.work.opened;
              reach = stop_spot_reached (shape_of h e.ring) (past.known.ring e.ring) e.spot named.is_spot named.from stops.there;
              one_command = λ same. absurd (no_command same);
            };
          }

      apart : AreApart h (command ∷ place ∷ [])
      unfolding command place
      apart = ((no_command, tt), (tt, tt))

      -- ---- the report

      reports : (u : World) → Traced h past.known (brought h at_first (command ∷ place ∷ [])) u → (x : Reports h u b e.ring) × IsActiveIfOpen (learned h past.known (Read b)) x.world e.ring
      unfolding at_command
      reports u stop_learns =
          let agree = agrees (brought h at_first (command ∷ place ∷ [])) u stop_learns in
          let commands : StandsAt h u (command_id h) at_command = subst (λ t. StandsAt h u (command_id h) t) command_brought (stop_learns.command named) in
          let ring : StandsAt h u e.ring e.spot = subst (λ t. StandsAt h u e.ring t) ring_brought (stop_learns.rings (slot b) (endpoint b) e.ring e.bound) in
          let x : Reports h u b e.ring =
          stop_reports h is past.known u b block past.keeps agree clean transfer e next at_command commands (search (rules, at_command, cases_lt, further_then, further_not, at_first, rank_least, rank_most, number-after)) coded stops.work.runs
          (stop_learns.active (slot b) (endpoint b) e.ring e.bound stops.work.opened) (sym (at_address h is past.known w b block past.keeps now clean transfer e (stop_by_address h past.known b e.may_data coded.stopping)) ∙ sym ring.pointer) in
          (x, λ opened. absurd (false≢true (sym held ∙ opened)))

      stop_learns : EventLearns h past.known (learned h past.known (Read b)) e.ring e.spot
      stop_learns = learns h past.known b transfer e e.spot there.floor

      others : (s i q : ℕ) → past.known.ring_of s i ≡ Some q → q ≢ e.ring → brought h at_first (command ∷ place ∷ []) q ≡ at_first q
      others s i q at other = brought_both q (λ same. transfer_not_command h is q (past.keeps.states.transfer s i q at) same) other

      pub stop_carries : Leads h past past.made ((Read b) ∷ later) w → Carries h past (Read b) later
      stop_carries run =
          row_carries (command ∷ place ∷ []) both_goals apart (command_fits, (place_fits, tt)) e.spot stop_learns ring_brought others reports run

-- an event that tells of the service of its endpoint is reported without any look
module _ (h : Header) (is : IsHeader h) (past : Past h) (later : List Row) (b : Block) (block : IsBlock b) (clean : lenient h past.known (Read b) ≡ []) (transfer : is_transfer_event (kind b) ≡ true) (w : World)
    (f : Follows h past.known past.pointers w) (running : is_done past.known.halt ≡ false) (s : ServiceFacts h past.known b) where
  agree : Agrees h past.known [] w
  agree = agrees_now h past.known w f.runs f.all_read

  can : can_post h w b ≡ true
  can = may_post h is past.known w b past.keeps agree clean

  ring_by : (o : Option ℕ) → past.known.ring_of (slot b) (endpoint b) ≡ o → (r : ℕ) × (o ≡ Some r)
  ring_by None none = absurd (false≢true (sym s.on ∙ ap is_off (past.keeps.states.off (slot b) (endpoint b) none)))
  ring_by (Some r) has = (r, refl)

  had : (r : ℕ) × (w.ring_of (slot b) (endpoint b) ≡ Some r)
  had = let found = ring_by (past.known.ring_of (slot b) (endpoint b)) refl in (found.0, agree.matches.ring_of (slot b) (endpoint b) ∙ found.1)

  reported_so : reported h w b ≡ Some (posts_posted h w b)
  unfolding reported reported_on
  reported_so = grind (arith, can, had)

  silent : IsSilent h past.known later b (Report b)
  unfolding goals report_goals post_of event_read transfer_read transferred_at
  silent = grind (arith, transfer_kind)

  service_carries : Leads h past past.made ((Read b) ∷ later) w → Carries h past (Read b) later
  unfolding made
  service_carries =
      let runs = report_runs h is past.known w (posts_posted h w b) b block (running_now h is past later b block w f.runs f.all_read) f.runs
      (run_keeps h is past.known w past.keeps f.runs) reported_so in
      silent_step h is past later b w block clean f running (Report b) silent runs (reported h w b) (λ e. cc) refl reported_so

pub transfer_law : (h : Header) → EventLawOf h is_transfer_event
transfer_law h past later b w transfer is block clean timely run f =
    let running = timely_running h past.known b timely.0.1 in
    elim (transfer_facts h past.known b clean transfer) [
      | inl e ↦ elim (cases_Bool (is_success (code_told h past.known b))) [
        | inl success ↦ success_carries h is past later b block clean transfer w f running e run success timely.0.1
        | inr fails ↦ elim (cases_Bool (is_halting (code_told h past.known b) || is_trb_error (code_told h past.known b))) [
          | inl breaks ↦ error_carries h is past later b block clean transfer w f running e run fails breaks
          | inr quiet ↦ stop_carries h is past later b block clean transfer w f running e fails quiet timely run
        ]
      ]
      | inr s ↦ service_carries h is past later b block clean transfer w f running s run
    ]

events : (h : Header) → EventLaw h
events h = event_law h (transfer_law h) (completion_law h)

pub lazy_law : (h : Header) → LazyLaw h
lazy_law h = lazy_from_events h events

pub all_are_read : (h : Header) → AllAreRead h
all_are_read h = all_read_from_events h events
