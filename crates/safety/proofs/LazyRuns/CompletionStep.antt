-- The step of a row with a Command Completion Event: the looks for it, and what follows where the controller can finish its command
use Rattle.safety.proofs.UpperLaws.{[], cond_both, ◌≡◌, ◌∷◌, ◌++◌, ◌∙◌, ℕ, true, List, reverse, Some, sym, ap, subst, eq-eqb, rules, and_from, cond-true, not_from_false, Block, kind, pointer, is_command_completion, Spot, cycle_of, is_open, cycle_of_bit, command_of, Header, Read, Row, Step, IsHeader, shape_of, command_id, World, UnderWay, can_post, Known, lenient, next_command, was_stop_seen, DriverKeeps, Agrees, next_at_floor, command_at_is, command_of-with_cycle, ◌≢◌, ◌⊎◌, ◌+◌, ◌≤◌, ◌==◌, if◌then◌else◌, suc, Option, None, arith, refl, inl, inr, flat_map, cases_eq, cases_lt, cond-false, put, code, Data, Shape, IsSpot, number, rank, after, ceiling, MayReach, crossing_positive, after_reached, number-after, rank_least, rank_most, Command, StopEndpoint, changes, RingSpot, command_at, event_read, learned, UnderWayMatches, TakenCommand, ring_here, ring_elsewhere, completion_kind, transfer_not_command, put_at, put_off, next_is, need, ended_with, finish_finished, finished_as, behind_blocks, brought, command_taken, lazy_further, lazy_goals, looks_to, open_goals, stopped_goals, taken_up_to, known_changed_by, known_changed_by_all, completed, known_finished, held_at_ceiling, known_in_state, stop_ended, known_succeeded, false, false≢true, IsBlock, RingView, Finish, RingState, state_of, Runs, finish_is, finish_runs, posts_posted, counted, made, lazy_brought, goals, pointers_after, post_of, agrees_now, CompletionSays, completion_says, commands_open, CommandsOpen, AreTimely, IsHeld, need_of_held, timely_then, StandsAt, Follows, Leads, Past, may_post, AtFloors, Traced, traced_behind, looks_for, MayBring, commands_stand, IsActiveIfOpen, Carries, HadBefore, RingsGo, is_named, is_done, named_if_taken}
use Rattle.safety.proofs.DriverHistories.{kept_driver, run_keeps}
use Rattle.safety.specs.LazyRuns.Needs.{is_placed}
use Rattle.safety.proofs.LazyRuns.LooksRun.{AllBrought, Fits, AllFit, AreApart, goals_reached, stands_same, further_then, further_not}
use Rattle.safety.proofs.LazyRuns.PostStep.{IsPosted, behind_read, post_made, posts_last, read_halt, read_named, running_named, running_now, runs_behind, all_read_behind, event_step}

-- The lazy run directly before a finish: the command is under way, and the controller can end it as a clean event says

-- The world directly before the controller finishes a command: the next command is taken, and no more than that
behind_is : (shape : Shape) (p : ℕ) → behind_blocks shape (p + 1) ≡ after shape p
unfolding behind_blocks
behind_is shape p = let one : p + 1 ≡ suc p = omega arith in ap (λ n. behind_blocks shape n) one

-- no spot is before the first
first_least : (shape : Shape) (t : Spot) → IsSpot shape t → 1 ≤ rank t
first_least shape o is = grind (arith, crossing_positive)

module _ (h : Header) where
  -- ---- the goals of a Command Completion Event

  -- ring r is stopped, and needs nothing more
  abbrev needless : ℕ → List RingSpot
  needless r = record { ring = r; spot = Data 0 } ∷ []

  no_need : (r n : ℕ) → n ≡ 0 → ◌≡◌ {A = List RingSpot} (taken_up_to h r n ∷ []) (needless r)
  unfolding taken_up_to behind_blocks
  no_need r n none = ap (λ m. let g : RingSpot = record { ring = r; spot = behind_blocks (shape_of h r) m } in g ∷ []) none

  -- none, or one of a ring that an endpoint has, with no need
  abbrev IsIdle : Known → List RingSpot → Type 0
  IsIdle k goals = (goals ≡ []) ⊎ ((s : ℕ) × (i : ℕ) × (r : ℕ) × (k.ring_of s i ≡ Some r) × (goals ≡ needless r))

  -- the ring of a Stop Endpoint is held behind its success
  stop_succeeded : (k : Known) (n s i r : ℕ) → k.ring_of s i ≡ Some r → IsHeld (known_succeeded h k n (StopEndpoint s i)) r
  unfolding known_succeeded changes known_changed_by_all known_changed_by held_at_ceiling is_open
  stop_succeeded k n s i r had = search (rules, known_in_state, held_at_ceiling, is_open, ring_here, ceiling, shape_of)

  module _ (is : IsHeader h) (past : Past h) (later : List Row) (b : Block) (completion : is_command_completion (kind b) ≡ true) (timely : AreTimely h past.known ((Read b) ∷ later))
      (d : DriverKeeps h past.known) where
    abbrev k : Known
    k = past.known

    open_idle : (s i : ℕ) (o : Option ℕ) → k.ring_of s i ≡ o → command_at h k (next_command h k) ≡ Some (StopEndpoint s i) → (code b == 1) ≡ true → IsIdle k (open_goals h k later b o)
    unfolding open_goals learned event_read completed known_finished stop_ended
    open_idle s i None had here one = inl refl
    open_idle s i (Some r) had here one =
        let other : r ≢ command_id h = transfer_not_command h is r (d.states.transfer s i r had) in
        let held : IsHeld (learned h past.known (Read b)) r = search (rules, cond-true, stop_succeeded, ring_elsewhere, completion_kind) in
        let none : need h (learned h k (Read b)) r later ≡ 0 = need_of_held later h (learned h past.known (Read b)) r (d.states.transfer s i r had) held (timely_then h past.known b later timely) in
        cond_both (is_open (k.ring r)) _ [] (IsIdle k) (λ _. inr (s, i, r, had, no_need r (need h (learned h k (Read b)) r later) none)) (λ _. inl refl)

    stop_idle : (s i : ℕ) → command_at h k (next_command h k) ≡ Some (StopEndpoint s i) → IsIdle k (if code b == 1 then open_goals h k later b (k.ring_of s i) else [])
    stop_idle s i here =
        cond_both (code b == 1) (open_goals h k later b (k.ring_of s i)) [] (IsIdle k) (λ one. open_idle s i (k.ring_of s i) refl here one) (λ _. inl refl)

    stopped_idle : (o : Option Command) → command_at h k (next_command h k) ≡ o → IsIdle k (stopped_goals h k later b o)
    unfolding stopped_goals
    stopped_idle (Some (StopEndpoint s i)) here = stop_idle s i here
    stopped_idle _ here = inl refl

    goals_are : lazy_goals h k later (kind b) b ≡ command_taken h k ∷ stopped_goals h k later b (command_at h k (next_command h k))
    unfolding lazy_goals
    goals_are = ap (λ t. lazy_goals h k later t b) (completion_kind (kind b) completion)

    -- ---- they fit

    module _ (w : World) (says : CompletionSays h k b) (pointers : ℕ → Spot) (trace : Traced h past.known pointers w) where
      opened : CommandsOpen h k
      opened = commands_open h k d says.below

      named : is_named past.known ≡ true
      named = named_if_taken h k d says.started says.below

      goal : Spot
      goal = behind_blocks (shape_of h (command_id h)) (next_command h k + 1)

      goal_is : goal ≡ after (shape_of h (command_id h)) (next_command h k)
      unfolding goal
      goal_is = behind_is (shape_of h (command_id h)) (next_command h k)

      goal_number : number goal ≡ next_command h k + 1
      goal_number = ap number goal_is ∙ number-after (shape_of h (command_id h)) (next_command h k)

      may_bring : MayBring h k w (command_id h) goal
      may_bring = record {
        active = trace.command_active named opened.opened;
        reach = subst (λ t. MayReach (shape_of h (command_id h)) (k.ring (command_id h)) t) (sym goal_is)
            (after_reached (shape_of h (command_id h)) (k.ring (command_id h)) (next_command h k) (omega (arith, next_is h k)) opened.given);
        one_command = λ same. omega (arith, goal_number);
      }

      command_fits : Fits h past.known w pointers (command_taken h k)
      unfolding command_taken taken_up_to goal
      command_fits = record { stands = trace.command named; may = λ further. may_bring }

      idle_fits : (s i r : ℕ) → k.ring_of s i ≡ Some r → Fits h past.known w pointers (let g : RingSpot = record { ring = r; spot = Data 0 } in g)
      idle_fits s i r had =
          let at : StandsAt h w r (pointers r) = trace.rings s i r had in
          record { stands = at; may = λ further. absurd (let least = first_least (shape_of h r) (pointers r) at.is_spot in omega (arith, least, further)) }

      -- by the goals that a stopped ring has
      record FitGoals (rest : List RingSpot) : Type 0 where
        apart : AreApart h (command_taken h k ∷ rest)
        fit : AllFit h past.known w pointers (command_taken h k ∷ rest)
        command : brought h pointers (command_taken h k ∷ rest) (command_id h) ≡ lazy_further (pointers (command_id h)) goal
        others : (s i r : ℕ) → k.ring_of s i ≡ Some r → brought h pointers (command_taken h k ∷ rest) r ≡ pointers r

      not_command : (s i r : ℕ) → k.ring_of s i ≡ Some r → r ≢ command_id h
      not_command s i r had same = transfer_not_command h is r (d.states.transfer s i r had) same

      at_command : Spot
      at_command = lazy_further (pointers (command_id h)) goal

      abbrev now : ℕ → Spot
      now = put pointers (command_id h) at_command

      one_more_fits : (s i r : ℕ) → k.ring_of s i ≡ Some r → FitGoals (needless r)
      unfolding brought command_taken taken_up_to goal at_command
      one_more_fits s i r had =
          let other : r ≢ command_id h = not_command s i r had in
          let at : StandsAt h w r (pointers r) = trace.rings s i r had in
          let here : now r ≡ pointers r = put_off pointers (command_id h) at_command r other in
          let still : lazy_further (now r) (Data 0) ≡ pointers r = ap (λ t. lazy_further t (Data 0)) here ∙ further_not (pointers r) (Data 0) (first_least (shape_of h r) (pointers r) at.is_spot) in
          record {
            apart = ((other, tt), (tt, tt));
            fit = (command_fits, (idle_fits s i r had, tt));
            command = put_off now r (lazy_further (now r) (Data 0)) (command_id h) (λ same. other (sym same)) ∙ put_at pointers (command_id h) at_command;
            others = λ z j q has. elim (cases_eq q r) [
              | inl same ↦ ap (λ n. put now r (lazy_further (now r) (Data 0)) n) same ∙ put_at now r (lazy_further (now r) (Data 0)) ∙ still ∙ ap pointers (sym same)
              | inr apart ↦ put_off now r (lazy_further (now r) (Data 0)) q apart ∙ put_off pointers (command_id h) at_command q (not_command z j q has)
            ];
          }

      all_fit : FitGoals (stopped_goals h k later b (command_at h k (next_command h k)))
      unfolding brought command_taken taken_up_to goal at_command
      all_fit =
          elim (stopped_idle (command_at h k (next_command h k)) refl) [
            | inl none ↦ subst (λ g. FitGoals g) (sym none) (search (rules, command_fits, put_at, command_id, at_command, put_off, not_command))
            | inr idle ↦ subst (λ g. FitGoals g) (sym idle.4) (one_more_fits idle.0 idle.1 idle.2 idle.3)
          ]

      spot_now : brought h pointers (lazy_goals h k later (kind b) b) (command_id h) ≡ at_command
      unfolding at_command
      spot_now = ap (λ g. brought h pointers g (command_id h)) goals_are ∙ all_fit.command

      -- the pointer is behind the next command
      past_it : next_command h k + 1 ≤ number at_command
      unfolding at_command
      past_it = search (rules, k, at_command, cases_lt, goal, further_then, goal_number, further_not, rank_least, rank_most)

      -- the run comes to where the event is posted
      pub prepared : (made : List Step) → is_done past.known.halt ≡ false → Leads h past made ((Read b) ∷ later) w →
          AllBrought h past ((Read b) ∷ later) made w pointers (lazy_goals h k later (kind b) b) (flat_map (looks_to h pointers) (lazy_goals h k later (kind b) b))
      prepared made running run =
          subst (λ g. AllBrought h past ((Read b) ∷ later) made w pointers g (flat_map (looks_to h pointers) g)) (sym goals_are)
          (goals_reached h is past ((Read b) ∷ later) made w pointers _ running all_fit.apart all_fit.fit run trace)

      pub rings_stay : (s i r : ℕ) → k.ring_of s i ≡ Some r → brought h pointers (lazy_goals h k later (kind b) b) r ≡ pointers r
      rings_stay s i r had = ap (λ g. brought h pointers g r) goals_are ∙ all_fit.others s i r had

      -- the command that is taken
      pub record IsTaken (v : World) : Type 0 where
        pub taken : UnderWay
        pub under_way : v.under_way ≡ Some taken
        pub command : TakenCommand h k taken

      taken_of : (v : World) (t : Spot) (o : Option UnderWay) → v.under_way ≡ o → next_command h k + 1 ≤ number t → UnderWayMatches h k t o → IsTaken v
      taken_of v t o at behind under = grind arith

      pub is_taken : (v : World) → Traced h past.known (brought h pointers (lazy_goals h k later (kind b) b)) v → IsTaken v
      is_taken v now =
          let at : StandsAt h v (command_id h) at_command = subst (λ t. StandsAt h v (command_id h) t) spot_now (now.command named) in
          taken_of v at_command v.under_way refl past_it (commands_stand h is k v d (agrees_now h past.known v now.runs now.all_read) at_command named at).under_way

module _ (h : Header) where
  -- where the rings stand before the event is posted
  abbrev pub spots_then : Past h → List Row → Block → ℕ → Spot
  spots_then past later b = brought h past.pointers (lazy_goals h past.known later (kind b) b)

  pub record ReadyToFinish (past : Past h) (later : List Row) (b : Block) : Type 0 where
    pub world : World
    pub run : Leads h past (reverse (looks_for h past later b) ++ past.made) ((Read b) ∷ later) world
    pub traced : Traced h past.known (spots_then past later b) world
    pub stay : (s i r : ℕ) → past.known.ring_of s i ≡ Some r → spots_then past later b r ≡ (past.known.ring r).floor
    pub opened : is_open (past.known.ring (command_id h)) ≡ true
    pub keeps : DriverKeeps h past.known
    pub agrees : Agrees h past.known [] world
    pub says : CompletionSays h past.known b
    pub can : can_post h world b ≡ true
    pub taken : UnderWay
    pub under_way : world.under_way ≡ Some taken
    pub named : pointer b ≡ taken.address
    pub command_is : command_of taken.block ≡ Some says.command
    pub stopped_is : taken.has_stopped ≡ was_stop_seen past.known says.command

  module _ (is : IsHeader h) (past : Past h) (later : List Row) (b : Block) (w : World) (completion : is_command_completion (kind b) ≡ true) (clean : lenient h past.known (Read b) ≡ [])
      (timely : AreTimely h past.known ((Read b) ∷ later)) (f : Follows h past.known past.pointers w) (running : is_done past.known.halt ≡ false) where
    pub ready_to_finish : Leads h past past.made ((Read b) ∷ later) w → ReadyToFinish past later b
    ready_to_finish run =
        let says = completion_says h past.known b completion clean in
        let trace = traced_behind h past.known past.pointers w f in
        let looked = prepared h is past later b completion timely past.keeps w says past.pointers trace past.made running run in
        let one = is_taken h is past later b completion timely past.keeps w says past.pointers trace looked.world looked.traced in
        let g = agrees_now h past.known looked.world looked.traced.runs looked.traced.all_read in
        let floor = next_at_floor h is past.known past.keeps says.started says.below in
        record {
          world = looked.world;
          run = looked.run;
          traced = looked.traced;
          stay = λ s i r had. rings_stay h is past later b completion timely past.keeps w says past.pointers trace s i r had ∙ f.traced s i r had;
          opened = (commands_open h past.known past.keeps says.below).opened;
          keeps = past.keeps;
          agrees = g;
          says = says;
          can = may_post h is past.known looked.world b past.keeps g clean;
          taken = one.taken;
          under_way = one.under_way;
          named = says.named ∙ sym one.command.address;
          command_is = ap (λ e. command_of e) (one.command.words floor.block floor.queued)
              ∙ command_of-with_cycle floor.block (cycle_of (shape_of h (command_id h)) (next_command h past.known)) (cycle_of_bit (shape_of h (command_id h)) (next_command h past.known))
              ∙ sym (command_at_is h past.known (next_command h past.known) floor.block floor.queued) ∙ says.here;
          stopped_is = one.command.stopped says.command says.here;
        }

  -- the rings stand at their floors
  pub floors_then : (past : Past h) (later : List Row) (b : Block) → (ready : ReadyToFinish past later b) → AtFloors h past.known ready.world
  floors_then past later b ready =
      assumption (λ (s i r : ℕ) (had : past.known.ring_of s i ≡ Some r). subst (λ t. StandsAt h ready.world r t) (ready.stay s i r had) (ready.traced.rings s i r had), ready.traced.active)

  -- it can be posted, with what its code does
  pub finish_posted : (past : Past h) (later : List Row) (b : Block) (v : World) → is_command_completion (kind b) ≡ true → (ready : ReadyToFinish past later b) →
      ended_with h h ready.world b ready.taken ≡ Some v → finish_finished h h ready.world b ≡ Some v
  unfolding finish_finished finished_as
  finish_posted past later b v completion ready ends = search (rules, cond-true, and_from, not_from_false, eq-eqb)

module _ (h : Header) where
  -- what the completion's row adds, with m known of endpoints and their rings
  pub record CompletionLearns (k l m : Known) : Type 0 where
    pub ring_of : (s i : ℕ) → l.ring_of s i ≡ m.ring_of s i
    pub rings : (q : ℕ) → q ≢ command_id h → l.ring q ≡ m.ring q

  -- the finish leads from w to v, where the rings are those of x
  pub record FinishLeaves (w v x : World) (b : Block) : Type 0 where
    pub memory : v.memory ≡ (posts_posted h w b).memory
    pub posted : v.posted ≡ w.posted + 1
    pub reads : v.reads ≡ w.reads
    pub halted : v.halted ≡ w.halted
    pub rings : (q : ℕ) → state_of v q ≡ state_of x q
    pub command : state_of x (command_id h) ≡ state_of w (command_id h)

  -- ---- the schedule's steps

  other_pointer : (b : Block) (past : Past h) (later : List Row) (r : ℕ) → is_placed h past.known r b ≡ false →
      pointers_after h past.known past.pointers (Read b) later r ≡ lazy_brought h past.pointers (goals h past.known later (kind b) b) r
  unfolding pointers_after
  other_pointer b past later r other = cond-false (is_placed h past.known r b) ((learned h past.known (Read b)).ring r).floor _ other

  -- ---- the world behind the finish and the row

  module _ (is : IsHeader h) (past : Past h) (later : List Row) (b : Block) (block : IsBlock b) (clean : lenient h past.known (Read b) ≡ []) (completion : is_command_completion (kind b) ≡ true)
      (now : ℕ → Spot) (brought : (q : ℕ) → lazy_brought h past.pointers (goals h past.known later (kind b) b) q ≡ now q) (w u x : World) (m : Known) (trace : Traced h past.known now w)
      (stay : (s i r : ℕ) → past.known.ring_of s i ≡ Some r → now r ≡ (past.known.ring r).floor)
      (running : is_done past.known.halt ≡ false) (opened : is_open (past.known.ring (command_id h)) ≡ true)
      (at : finish_finished h h w b ≡ Some u) (leaves : FinishLeaves w u x b) (learns : CompletionLearns past.known (learned h past.known (Read b)) m)
      (goes : RingsGo h past.known m x (λ r. is_placed h past.known r b)) where
    abbrev l : Known
    l = learned h past.known (Read b)

    -- the world behind the row
    abbrev v : World
    v = behind_read h u

    on : w.stopped ≡ false
    on = running_now h is past later b block w trace.runs trace.all_read

    posted : IsPosted h past w u b
    posted = assumption (finish_is h w u b at, leaves, finish_runs h is past.known w u b block on trace.runs (run_keeps h is past.known w past.keeps trace.runs) at)

    runs : Runs h l v
    runs = runs_behind h is past later b block w trace.runs trace.all_read u posted

    called : is_named past.known ≡ true
    called = running_named h past.known b past.keeps clean running

    rings_are : (q : ℕ) → state_of v q ≡ state_of x q
    unfolding counted
    rings_are q = leaves.rings q

    had : (s i q : ℕ) → l.ring_of s i ≡ Some q → m.ring_of s i ≡ Some q
    had s i q has = sym (learns.ring_of s i) ∙ has

    later_keeps : DriverKeeps h l
    later_keeps = kept_driver h is past.known (Read b) past.keeps (clean, tt) runs.on

    no_command : (s i q : ℕ) → l.ring_of s i ≡ Some q → q ≢ command_id h
    no_command s i q has same = transfer_not_command h is q (later_keeps.states.transfer s i q has) same

    view_is : (s i q : ℕ) → l.ring_of s i ≡ Some q → l.ring q ≡ m.ring q
    view_is s i q has = learns.rings q (no_command s i q has)

    floor_is : (s i q : ℕ) → l.ring_of s i ≡ Some q → StandsAt h v q (l.ring q).floor
    floor_is s i q has =
        subst (λ (g : RingView). StandsAt h v q g.floor) (sym (view_is s i q has))
        (stands_same h x v q (m.ring q).floor (rings_are q) (goes.at_floors.floors s i q (had s i q has)))

    still_active : (s i q : ℕ) → l.ring_of s i ≡ Some q → IsActiveIfOpen l v q
    unfolding counted
    still_active s i q has on = search (rules, rings_are, had, view_is, goes.at_floors)

    pointer_is : (s i q : ℕ) → l.ring_of s i ≡ Some q → pointers_after h past.known past.pointers (Read b) later q ≡ (l.ring q).floor
    unfolding pointers_after
    pointer_is s i q has =
        cond_both (is_placed h past.known q b) ((learned h past.known (Read b)).ring q).floor _ (λ t. t ≡ (l.ring q).floor) (λ _. refl)
        (λ other.
        let before : HadBefore past.known m q = goes.had s i q (had s i q has) other in
        brought q ∙ stay before.slot before.index q before.had ∙ sym before.floor ∙ ap (λ (g : RingView). g.floor) (sym (view_is s i q has)))

    command_is : state_of v (command_id h) ≡ state_of w (command_id h)
    command_is = rings_are (command_id h) ∙ leaves.command

    follows : Follows h (learned h past.known (Read b)) (pointers_after h past.known past.pointers (Read b) later) v
    unfolding counted
    follows = record {
      runs = runs;
      all_read = all_read_behind h is past later b block w trace.runs trace.all_read u posted;
      floors = floor_is;
      traced = pointer_is;
      active = still_active;
      halted = leaves.halted ∙ trace.halted ∙ sym (read_halt h past.known b);
      before = λ there unused off. absurd (false≢true (sym off ∙ read_named h past.known b ∙ called));
      command = λ on.
          subst (λ t. StandsAt h v (command_id h) t) (sym (other_pointer b past later (command_id h) goes.not_command ∙ brought (command_id h)))
          (stands_same h w v (command_id h) (now (command_id h)) command_is (trace.command called));
      command_active = λ on opened_then. ap (λ (g : RingState). g.active) command_is ∙ trace.command_active called opened;
    }

    pub completion_step : Leads h past (reverse (looks_for h past later b) ++ past.made) ((Read b) ∷ later) w → Carries h past (Read b) later
    unfolding post_of made
    completion_step run =
        event_step h is past later b block w trace.runs trace.all_read u posted (Finish b) (reverse (looks_for h past later b) ++ past.made) (λ e. cc)
        (post_made h w u b (finish_finished h h w b) (trace.halted ∙ running) on posted.can at) (posts_last h b past later (Finish b) (ap (λ t. post_of h t b) (completion_kind (kind b) completion))) follows run
