-- The step of a row that reads an event: the lazy run posts it directly before, whichever step it is that posts it
use Rattle.safety.proofs.UpperLaws.{event_read, reported_can, [], ◌≡◌, ◌+◌, ◌∷◌, ◌++◌, ◌∙◌, true, false, List, reverse, Some, arith, refl, sym, ap, subst, inl, reverse-append, Block, IsBlock, block_at, kind, same_words, address_of, Header, Read, Step, NextRow, Row, IsHeader, event_shape, World, read_made, learned, Runs, words_itself, post_keeps, read_runs, Option, stored, stored_block, driver_event_read, row_done, can_post, posts_posted, counted, steps_made, pointers_after, post_of, steps_before, ◌≢◌, ◌&&◌, ℕ, inr, cond-false, false≢true, code, slot, is_transfer_event, is_command_completion, Spot, is_open, Report, command_id, Known, command_at, next_command, lenient, event_facts, report_runs, transfer_kind, reported, made, brought, goals, is_placed_by, ◌||◌, Bool, or_cases, BlockKind, is_other_event, None, rules, and_from, cond-true, Other, learned_read, says_nothing, other_runs, with_reads, other_posted, lazy_goals, step_reached, agrees_now, next_reached, Follows, Carries, Leads, Past, looks_for, StandsAt, IsActiveIfOpen, Traced, AreTimely, EventLaw, is_event_read, may_post, is_late, is_done, or_parts, is_none, noting_post, until_halted, is_named, is_some, event_same, DriverKeeps, until_made, event_ring, Crcr}
use Rattle.world_state.specs.World.{event_at}
use Rattle.safety.proofs.DriverHistories.{run_keeps}
use Rattle.safety.specs.LazyRuns.Needs.{is_placed}
use Rattle.safety.proofs.StepRuns.{can_there, sized_there}
use Rattle.std.proofs.Common.{option_map}

-- no event is read timely where the controller was seen to have halted
pub timely_running : (h : Header) (k : Known) (b : Block) → is_late h k (Read b) ≡ false → is_done k.halt ≡ false
unfolding is_late
timely_running h k b timely = (or_parts (is_done k.halt) _ timely).0

module _ (h : Header) where
  -- an event ring is there
  noted_same : (u : World) → is_none (event_ring h) ≡ false → noting_post h u ≡ u
  unfolding noting_post
  noted_same u there = ap (λ (b : Bool). let x : World = record u { posted_nowhere = b } in x) (grind arith)

  pub post_made : (w u : World) (b : Block) (o : Option World) → w.halted ≡ false → w.stopped ≡ false → can_post h w b ≡ true → o ≡ Some u →
      until_halted h w (option_map (noting_post h) o) ≡ Some u
  post_made w u b o running on can at =
      until_made h w u (option_map (noting_post h) o) running on
      (ap (λ p. option_map (noting_post h) p) at ∙ ap (λ v. Some v) (noted_same u (sized_there h (can_there h w b can))))

  -- an event says nothing of the run, nor of what CRCR names
  pub read_named : (k : Known) (b : Block) → is_named (learned h k (Read b)) ≡ is_named k
  unfolding learned
  read_named k b = ap (λ f. is_some (f Crcr)) (event_same h k (kind b) b).register

  pub read_halt : (k : Known) (b : Block) → is_done (learned h k (Read b)).halt ≡ is_done k.halt
  unfolding learned
  read_halt k b = ap is_done (event_same h k (kind b) b).halt

  -- the command ring is named while the controller runs
  pub running_named : (k : Known) (b : Block) → DriverKeeps h k → lenient h k (Read b) ≡ [] → is_done k.halt ≡ false → is_named k ≡ true
  running_named k b d clean running = d.run.running (event_facts h k b clean).started running

module _ (h : Header) where
  -- a step that posts b leads from w to u
  pub record IsPosted (past : Past h) (w u : World) (b : Block) : Type 0 where
    pub can : can_post h w b ≡ true
    pub memory : u.memory ≡ (posts_posted h w b).memory
    pub posted : u.posted ≡ w.posted + 1
    pub reads : u.reads ≡ w.reads
    pub runs : Runs h past.known (counted h u)

  -- the world behind the step and the event's row
  abbrev pub behind_read : World → World
  behind_read u = counted h (record (counted h u) { reads = (counted h u).reads + 1 })

  pub posts_last : (b : Block) (past : Past h) (later : List Row) (s : Step) → post_of h (kind b) b ≡ s →
      NextRow ∷ reverse (steps_before h past.known past.pointers (Read b) later) ++ past.made ≡ NextRow ∷ s ∷ (reverse (looks_for h past later b) ++ past.made)
  unfolding steps_before
  posts_last b past later s same = search (rules, reverse, looks_for, reverse-append)

  module _ (is : IsHeader h) (past : Past h) (later : List Row) (b : Block) (block : IsBlock b) (w : World) (run : Runs h past.known w) (all_read : w.posted ≡ w.reads) where
    pub running_now : w.stopped ≡ false
    running_now = (agrees_now h past.known w run all_read).stands.stopped ∙ run.on

    module _ (u : World) (p : IsPosted past w u b) where
      there : event_at h (counted h u) (counted h u).reads ≡ b
      unfolding counted event_at posts_posted stored_block stored
      there =
          let q = post_keeps h is past.known [] w b block past.keeps (agrees_now h past.known w run all_read) p.can in
          let first : block_at (posts_posted h w b).memory (address_of (event_shape h) (w.reads + 0)) ≡ b = q.events.places 0 b refl in
          let same : u.reads ≡ w.reads + 0 = omega (arith, p.reads) in
          ap (λ m. block_at m (address_of (event_shape h) u.reads)) p.memory ∙ ap (λ n. block_at (posts_posted h w b).memory (address_of (event_shape h) n)) same ∙ first

      reads_it : driver_event_read h (counted h u) b ≡ Some (record (counted h u) { reads = (counted h u).reads + 1 })
      unfolding counted
      reads_it = read_made h (counted h u) b (omega (arith, all_read, p.posted, p.reads)) (subst (λ e. same_words e b ≡ true) (sym there) (words_itself b))

      pub runs_behind : Runs h (learned h past.known (Read b)) (behind_read u)
      runs_behind = read_runs h past.known b (counted h u) (record (counted h u) { reads = (counted h u).reads + 1 }) block p.runs reads_it

      pub all_read_behind : (behind_read u).posted ≡ (behind_read u).reads
      unfolding counted
      all_read_behind = omega (arith, all_read, p.posted, p.reads)

      pub event_step : (s : Step) (mid : List Step) → (s ≡ NextRow → ⊥) → steps_made h h w s ≡ Some u →
          NextRow ∷ reverse (steps_before h past.known past.pointers (Read b) later) ++ past.made ≡ NextRow ∷ s ∷ mid →
          Follows h (learned h past.known (Read b)) (pointers_after h past.known past.pointers (Read b) later) (behind_read u) →
          Leads h past mid ((Read b) ∷ later) w → Carries h past (Read b) later
      unfolding row_done
      event_step s mid other made same follows leads = record {
        world = behind_read u;
        run = subst (λ made. Leads h past made later (behind_read u)) (sym same)
            (next_reached h past (s ∷ mid) (counted h u) (record (counted h u) { reads = (counted h u).reads + 1 }) (Read b) later refl (step_reached h past ((Read b) ∷ later) mid w u s other made leads) reads_it);
        goes = inl follows;
      }

-- A Transfer Event: behind its looks the lazy run reports it, and then it is read. What the report and the row leave as it was

module _ (h : Header) where
  -- the report of an event on ring r moves no pointer, and ends no activity but that of r
  pub record ReportLeaves (w v : World) (b : Block) (r : ℕ) : Type 0 where
    pub memory : v.memory ≡ (posts_posted h w b).memory
    pub posted : v.posted ≡ w.posted + 1
    pub reads : v.reads ≡ w.reads
    pub pointers : v.pointer_of ≡ w.pointer_of
    pub cycles : v.cycle_state ≡ w.cycle_state
    pub events : v.events ≡ w.events
    pub halted : v.halted ≡ w.halted
    pub active : (q : ℕ) → q ≢ r → v.is_active q ≡ w.is_active q

  -- an event brings the floor of ring r to a spot, and leaves the other rings
  pub record EventLearns (k l : Known) (r : ℕ) (t : Spot) : Type 0 where
    pub ring_of : l.ring_of ≡ k.ring_of
    pub floor : (l.ring r).floor ≡ t
    pub others : (q : ℕ) → q ≢ r → l.ring q ≡ k.ring q

  -- ---- the schedule's steps

  pub pointers_transfer : (b : Block) (past : Past h) (later : List Row) (r : ℕ) → is_transfer_event (kind b) ≡ true →
      pointers_after h past.known past.pointers (Read b) later r ≡ brought h past.pointers (goals h past.known later (kind b) b) r
  unfolding pointers_after is_placed
  pointers_transfer b past later r transfer = search (rules, is_placed, is_command_completion, code, is_placed_by, slot, command_at, next_command, transfer_kind, kind, cond-false, learned)

  -- ---- the world behind the report and the row

  module _ (is : IsHeader h) (past : Past h) (later : List Row) (b : Block) (pointers : ℕ → Spot) (w u : World) (r : ℕ) (t : Spot) (block : IsBlock b) (clean : lenient h past.known (Read b) ≡ [])
      (transfer : is_transfer_event (kind b) ≡ true) (trace : Traced h past.known pointers w) (at : reported h w b ≡ Some u) (leaves : ReportLeaves w u b r)
      (learns : EventLearns past.known (learned h past.known (Read b)) r t) (running : is_done past.known.halt ≡ false) where
    abbrev l : Known
    l = learned h past.known (Read b)

    -- the world behind the row
    abbrev v : World
    v = behind_read h u

    on : w.stopped ≡ false
    on = running_now h is past later b block w trace.runs trace.all_read

    posted : IsPosted h past w u b
    posted = assumption (reported_can h w u b at, leaves, report_runs h is past.known w u b block on trace.runs (run_keeps h is past.known w past.keeps trace.runs) at)

    stands : (q : ℕ) (s : Spot) → StandsAt h w q s → StandsAt h v q s
    unfolding counted
    stands q s here = search rules

    had : (s i q : ℕ) → l.ring_of s i ≡ Some q → past.known.ring_of s i ≡ Some q
    had s i q there = ap (λ g. g s i) (sym learns.ring_of) ∙ there

    named : is_named past.known ≡ true
    named = running_named h past.known b past.keeps clean running

    module _ (no_command : r ≢ command_id h) (here : pointers r ≡ t) (others : (s i q : ℕ) → past.known.ring_of s i ≡ Some q → q ≢ r → pointers q ≡ (past.known.ring q).floor)
        (after : (q : ℕ) → pointers_after h past.known past.pointers (Read b) later q ≡ pointers q) (still : IsActiveIfOpen (learned h past.known (Read b)) u r) where
      active : (q : ℕ) → IsActiveIfOpen past.known w q → IsActiveIfOpen l v q
      unfolding counted
      active q was opened = search (rules, u.is_active, true, is_open)

      follows : Follows h (learned h past.known (Read b)) (pointers_after h past.known past.pointers (Read b) later) v
      unfolding counted
      follows = record {
        runs = runs_behind h is past later b block w trace.runs trace.all_read u posted;
        all_read = all_read_behind h is past later b block w trace.runs trace.all_read u posted;
        floors = λ s i q there. subst (λ e. StandsAt h v q e) (search (rules, had)) (stands q (pointers q) (trace.rings s i q (had s i q there)));
        traced = λ s i q there. after q ∙ (search (rules, had));
        active = λ s i q there. active q (trace.active s i q (had s i q there));
        halted = leaves.halted ∙ trace.halted ∙ sym (read_halt h past.known b);
        before = λ there unused off. absurd (false≢true (sym off ∙ (read_named h past.known b ∙ named)));
        command = λ on. subst (λ e. StandsAt h v (command_id h) e) (sym (after (command_id h))) (stands (command_id h) (pointers (command_id h)) (trace.command named));
        command_active = λ on. active (command_id h) (trace.command_active named);
      }

      pub report_step : Leads h past (reverse (looks_for h past later b) ++ past.made) ((Read b) ∷ later) w → Carries h past (Read b) later
      unfolding post_of made
      report_step run =
          event_step h is past later b block w trace.runs trace.all_read u posted (Report b) (reverse (looks_for h past later b) ++ past.made) (λ e. cc)
          (post_made h w u b (reported h w b) (trace.halted ∙ running) on posted.can at) (posts_last h b past later (Report b) (ap (λ t. post_of h t b) (transfer_kind (kind b) transfer))) follows run

-- An event that tells of no block: the lazy run posts it directly before it is read, and needs no look for it
module _ (h : Header) where
  -- what the schedule does for such an event, which is posted by step s
  pub record IsSilent (k : Known) (later : List Row) (b : Block) (s : Step) : Type 0 where
    pub goals : lazy_goals h k later (kind b) b ≡ []
    pub post : post_of h (kind b) b ≡ s
    pub no_completion : is_command_completion (kind b) ≡ false
    pub read : event_read h k (kind b) b ≡ k

  -- an event of the controller itself
  record NeedsNothing (k : Known) (later : List Row) (b : Block) (t : BlockKind) : Type 0 where
    goals : lazy_goals h k later t b ≡ []
    post : post_of h t b ≡ Other b
    no_completion : is_command_completion t ≡ false

  needs_nothing : (k : Known) (later : List Row) (b : Block) (t : BlockKind) → is_other_event t ≡ true → NeedsNothing k later b t
  unfolding lazy_goals post_of
  needs_nothing k later b o other = grind (arith, goals, false≢true)

  other_silent : (k : Known) (later : List Row) (b : Block) → is_other_event (kind b) ≡ true → IsSilent k later b (Other b)
  other_silent k later b other =
      let n = needs_nothing k later b (kind b) other in
      record { goals = n.goals; post = n.post; no_completion = n.no_completion; read = (says_nothing h k b (kind b) other).read }

  lazy_event : (b : Block) (past : Past h) (later : List Row) (s : Step) → IsSilent past.known later b s →
      NextRow ∷ reverse (steps_before h past.known past.pointers (Read b) later) ++ past.made ≡ NextRow ∷ s ∷ past.made
  unfolding steps_before
  lazy_event b past later s silent = search (rules, reverse)

  pointers_same : (b : Block) (past : Past h) (later : List Row) (r : ℕ) (s : Step) → IsSilent past.known later b s →
      pointers_after h past.known past.pointers (Read b) later r ≡ past.pointers r
  unfolding pointers_after brought is_placed
  pointers_same b past later r s silent = search (rules, cond-false)

  other_made : (w : World) (b : Block) → can_post h w b ≡ true → is_other_event (kind b) ≡ true → other_posted h w b ≡ Some (posts_posted h w b)
  unfolding other_posted
  other_made w b can other = cond-true (can_post h w b && is_other_event (kind b)) (Some (posts_posted h w b)) None (and_from (can_post h w b) (is_other_event (kind b)) can other)

  module _ (is : IsHeader h) (past : Past h) (later : List Row) (b : Block) (w : World) (block : IsBlock b) (clean : lenient h past.known (Read b) ≡ [])
      (f : Follows h past.known past.pointers w) (running : is_done past.known.halt ≡ false) (step : Step) (silent : IsSilent past.known later b step) (goes_on : Runs h past.known (counted h (posts_posted h w b))) where
    abbrev read_known : Known
    read_known = learned h past.known (Read b)

    can : can_post h w b ≡ true
    can = may_post h is past.known w b past.keeps (agrees_now h past.known w f.runs f.all_read) clean

    same : read_known ≡ with_reads past.known (past.known.reads + 1)
    same = learned_read h past.known b ∙ ap (λ m. with_reads m (past.known.reads + 1)) silent.read

    -- the world behind the row
    abbrev behind : World
    behind = behind_read h (posts_posted h w b)

    post : IsPosted h past w (posts_posted h w b) b
    unfolding posts_posted stored_block stored
    post = search (rules, can)

    had_before : (s i r : ℕ) → read_known.ring_of s i ≡ Some r → past.known.ring_of s i ≡ Some r
    had_before s i r at = ap (λ (m : Known). m.ring_of s i) (sym same) ∙ at

    stands_on : (r : ℕ) (t : Spot) → StandsAt h w r t → StandsAt h behind r t
    unfolding counted posts_posted stored_block stored
    stands_on r t at = record { is_spot = at.is_spot; pointer = at.pointer; cycle = at.cycle; next = at.next }

    follows_on : Follows h (learned h past.known (Read b)) (pointers_after h past.known past.pointers (Read b) later) behind
    unfolding counted posts_posted stored_block stored
    follows_on = record {
      runs = runs_behind h is past later b block w f.runs f.all_read (posts_posted h w b) post;
      all_read = all_read_behind h is past later b block w f.runs f.all_read (posts_posted h w b) post;
      floors = λ s i r at. subst (λ t. StandsAt h behind r t) (ap (λ (m : Known). (m.ring r).floor) (sym same)) (stands_on r (past.known.ring r).floor (f.floors s i r (had_before s i r at)));
      traced = λ s i r at. pointers_same b past later r step silent ∙ f.traced s i r (had_before s i r at) ∙ ap (λ (m : Known). (m.ring r).floor) (sym same);
      active = λ s i r at opened. f.active s i r (had_before s i r at) (ap (λ (m : Known). is_open (m.ring r)) (sym same) ∙ opened);
      halted = f.halted ∙ sym (read_halt h past.known b);
      before = λ there unused off. absurd (false≢true (sym off ∙ read_named h past.known b ∙ running_named h past.known b past.keeps clean running));
      command = λ on.
          subst (λ t. StandsAt h behind (command_id h) t) (sym (pointers_same b past later (command_id h) step silent))
          (stands_on (command_id h) (past.pointers (command_id h)) (f.command (sym (read_named h past.known b) ∙ on)));
      command_active = λ on opened. f.command_active (sym (read_named h past.known b) ∙ on) (ap (λ (m : Known). is_open (m.ring (command_id h))) (sym same) ∙ opened);
    }

    -- which step it is that makes the post
    pub silent_step : (o : Option World) → (step ≡ NextRow → ⊥) → steps_made h h w step ≡ until_halted h w (option_map (noting_post h) o) → o ≡ Some (posts_posted h w b) →
        Leads h past past.made ((Read b) ∷ later) w → Carries h past (Read b) later
    silent_step o other made at =
        event_step h is past later b block w f.runs f.all_read (posts_posted h w b) post step past.made other
        (made ∙ post_made h w (posts_posted h w b) b o (f.halted ∙ running) (running_now h is past later b block w f.runs f.all_read) can at)
        (lazy_event b past later step silent) follows_on

  other_step : IsHeader h → (past : Past h) (later : List Row) (b : Block) (w : World) → IsBlock b → lenient h past.known (Read b) ≡ [] → is_other_event (kind b) ≡ true →
      Follows h past.known past.pointers w → is_done past.known.halt ≡ false → Leads h past past.made ((Read b) ∷ later) w → Carries h past (Read b) later
  unfolding made
  other_step is past later b w block clean other f running =
      let can : can_post h w b ≡ true = may_post h is past.known w b past.keeps (agrees_now h past.known w f.runs f.all_read) clean in
      let at = other_made w b can other in
      let runs = other_runs h is past.known w (posts_posted h w b) b block (running_now h is past later b block w f.runs f.all_read) f.runs
      (run_keeps h is past.known w past.keeps f.runs) at in
      silent_step is past later b w block clean f running (Other b) (other_silent past.known later b other) runs (other_posted h w b) (λ e. cc) refl at

module _ (h : Header) where
  -- the step of a row that reads an event of some kinds
  abbrev pub EventLawOf : (BlockKind → Bool) → Type 0
  EventLawOf is_kind =
      (past : Past h) (later : List Row) (b : Block) (w : World) → is_kind (kind b) ≡ true → IsHeader h → IsBlock b → lenient h past.known (Read b) ≡ [] →
      AreTimely h past.known ((Read b) ∷ later) → Leads h past past.made ((Read b) ∷ later) w →
      Follows h past.known past.pointers w → Carries h past (Read b) later

  pub event_law : EventLawOf is_transfer_event → EventLawOf is_command_completion → EventLaw h
  event_law transfer completion past later b w is block clean timely run f =
      elim (or_cases (is_transfer_event (kind b) || is_command_completion (kind b)) (is_other_event (kind b)) (is_event_read h past.known b clean)) [
        | inl ring ↦ elim (or_cases (is_transfer_event (kind b)) (is_command_completion (kind b)) ring) [
          | inl one ↦ transfer past later b w one is block clean timely run f
          | inr two ↦ completion past later b w two is block clean timely run f
        ]
        | inr other ↦ other_step h is past later b w block clean other f (timely_running h past.known b timely.0.1) run
      ]
