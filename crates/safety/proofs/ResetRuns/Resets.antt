-- A reset of a controller that has halted: the run goes on, and the events that weren't read are lost
use Rattle.safety.proofs.UpperLaws.{[], ◌≡◌, ◌≢◌, ◌≤◌, ◌∙◌, ℕ, not, true, false, List, Some, arith, refl, sym, ap, subst, inl, inr, cases_Bool, cases_option, cond-true, cond_both, false≢true, none-some, same_Some, slice_get_past, Block, Shape, RingView, floor_number, ceiling, given_up, held_at_given, rank_least, rank_most, Header, Ring, Register, Reg, IsHeader, shape_of, command_ring, command_id, id_of, is_ring, is_done, Known, reset, resets, is_used, is_value, is_named, World, next_take, is_out_of_order, has_other_words, NotNamed, Stands, EventsStand, Matches, Agrees, DriverKeeps, lenient, Runs, all_read, counted, IsUnfinished, agrees_once_counted, Command, All-nil, IsBlock, EndpointRing, ceiling_last, IsReset, done_asked, not_command, reset_is, nobodys_unused, none_left, view_command, view_other, no_id}
use Rattle.safety.proofs.DriverHistories.{run_keeps}
use Rattle.safety.proofs.ResetRuns.LostEvents.{Lost, come_within, events_lost, floor_on}
use Rattle.safety.proofs.ResetRuns.ResetKeeps.{here}
use Rattle.world_state.specs.DriverRows as driver
pub use Rattle.safety.proofs.ResetRuns.ResetKeeps.{reset_keeps}

-- k is what is known, l what would be if the events that weren't read were
module _ (h : Header) (is : IsHeader h) (k l : Known) (unread : List Block) (w : World) (d : DriverKeeps h k) (e : DriverKeeps h l) (lost : Lost h k l) (g : Agrees h l unread w) where
  -- what is declared on each ring stays
  queue_stays : (r : ℕ) → ((reset h k).ring r).queue ≡ (k.ring r).queue
  unfolding reset given_up held_at_given
  queue_stays r = cond_both (is_ring r (id_of (command_ring h))) _ _ (λ (v : RingView). v.queue ≡ (k.ring r).queue) (λ _. refl) (λ _. refl)

  lengths_stay : (r : ℕ) → ((reset h k).ring r).lengths ≡ (k.ring r).lengths
  unfolding reset given_up held_at_given
  lengths_stay r = cond_both (is_ring r (id_of (command_ring h))) _ _ (λ (v : RingView). v.lengths ≡ (k.ring r).lengths) (λ _. refl) (λ _. refl)

  stands : Stands h (reset h k) (driver.reset w)
  unfolding reset driver.reset
  stands = record {
    started = refl;
    stopped = g.stands.stopped ∙ lost.stopped;
    halting = refl;
    halted = λ done. absurd (false≢true done);
    told = λ halted. absurd (false≢true halted);
    registers = λ q other. refl;
    queues = λ r. g.stands.queues r ∙ (lost.given r).queue ∙ sym (queue_stays r);
    lengths = λ r. g.stands.lengths r ∙ (lost.given r).lengths ∙ sym (lengths_stay r);
    dequeue = refl;
    quiet = λ a clean apart. g.stands.quiet a (ap (λ f. f a) lost.soiled ∙ clean) apart ∙ ap (λ f. f a) lost.memory;
  }

  -- nothing is posted
  events : EventsStand h (driver.reset w) []
  unfolding driver.reset
  events = record {
    order = record { dequeued = omega arith; read = omega arith; room = λ some. absurd (omega arith) };
    count = refl;
    places = λ i b at. absurd (none-some b (sym (slice_get_past [] i (omega arith)) ∙ at));
    started = λ some. absurd (omega arith);
    ring = λ some. absurd (omega arith);
  }

  -- ---- rings

  -- where the next take is, whether an endpoint has the ring or none
  record Between (r : ℕ) : Type 0 where
    from : floor_number (l.ring r) ≤ next_take (shape_of h r) (w.events r)
    to : next_take (shape_of h r) (w.events r) ≤ ceiling (shape_of h r) (l.ring r)
    in_order : is_out_of_order (shape_of h r) (w.events r) ≡ false
    as_declared : has_other_words (shape_of h r) (w.events r) ≡ false

  between : (r : ℕ) → r ≢ command_id h → Between r
  between r other = elim (g.matches.rings r other) [
    | inl bound ↦ record {
      from = omega (arith, bound.matches.next, bound.matches.reached, rank_least (l.ring r).floor, rank_most bound.spot);
      to = omega (arith, bound.matches.next, bound.matches.below);
      in_order = bound.matches.in_order;
      as_declared = bound.matches.as_declared;
    }
    | inr free ↦ record { from = free.from; to = free.to; in_order = free.rests.in_order; as_declared = free.rests.as_declared }
  ]

  held_floor : (shape : Shape) (v : RingView) → floor_number (held_at_given shape v) ≡ floor_number v
  unfolding held_at_given
  held_floor shape v = refl

  ring : (r : ℕ) → r ≢ command_id h → EndpointRing h (reset h k) (driver.reset w) r
  unfolding reset driver.reset
  ring r other =
      let view = view_other h k r (not_command h r is other) in
      let b : Between r = between r other in
      inr (record {
        none = λ s i at. none-some r at;
        rests = record { inactive = refl; in_order = b.in_order; as_declared = b.as_declared };
        from = omega (arith, ap (λ (v : RingView). floor_number v) view, held_floor (shape_of h r) (k.ring r), floor_on h is k l d e lost r, b.from);
        to = omega (arith, ap (λ (v : RingView). ceiling (shape_of h r) v) view, ceiling_last (shape_of h r) (k.ring r), come_within h is k l d e lost r, b.to);
      })

  -- the controller has no pointer into the command ring
  before : NotNamed h (driver.reset w)
  unfolding driver.reset
  before = elim (cases_Bool (is_named l)) [
    | inl named ↦ record { rests = record { inactive = refl; in_order = (g.matches.command named).ring.in_order; as_declared = (g.matches.command named).ring.as_declared }; none = refl }
    | inr off ↦ record { rests = record { inactive = refl; in_order = (g.matches.before off).rests.in_order; as_declared = (g.matches.before off).rests.as_declared }; none = refl }
  ]

  -- one that is there counts as started
  there_used : (c : Ring) → command_ring h ≡ Some c → is_used h (reset h k) ≡ true
  unfolding given_up
  there_used c at = ap (λ (v : RingView). not (is_value 0 v.held)) (view_command h k (command_id h) (here h c is at))

  still_unused : is_used h (reset h k) ≡ false → is_used h l ≡ false
  still_unused none =
      elim (cases_option (command_ring h)) [
        | inl absent ↦ nobodys_unused h is l (e.nobody no_id refl) absent
        | inr some ↦ absurd (false≢true (sym none ∙ there_used some.0 some.1))
      ]

  matches : ((p : ℕ) (c : Command) → IsUnfinished h (reset h k) p c → ⊥) → Matches h (reset h k) (driver.reset w)
  unfolding reset driver.reset
  matches none = record {
    slots = λ s. refl;
    endpoints = λ s i. refl;
    ring_of = λ s i. refl;
    isochronous = λ s i. refl;
    rings = ring;
    before = λ _. before;
    command = λ named. absurd (false≢true named);
    new = λ not_used. g.matches.new (still_unused not_used);
    scribbles = λ s on. absurd (false≢true on);
    contexts = λ p c u. absurd (none p c u);
    inside = g.matches.inside;
    there = g.matches.there;
  }

  pub reset_agrees : ((p : ℕ) (c : Command) → IsUnfinished h (reset h k) p c → ⊥) → Agrees h (reset h k) [] (driver.reset w)
  unfolding reset driver.reset
  reset_agrees none = record { stands = stands; events = events; matches = matches none; read = refl; stamps = g.stamps }

-- the world's controller has halted too
resets_too : (h : Header) (k l : Known) (unread : List Block) (w : World) → DriverKeeps h k → Lost h k l → Agrees h l unread w → (r : Register) (x : ℕ) → IsReset k r x → driver.resets w r x ≡ true
unfolding driver.resets
resets_too h k l unread w d lost g r x how =
    let on : w.started ≡ true = g.stands.started ∙ lost.started ∙ d.run.started (done_asked k.halt how.done) in
    let halted : w.halted ≡ true = g.stands.halted (ap is_done lost.halt ∙ how.done) in
    subst (λ q. driver.resets w q x ≡ true) (sym how.register) (grind arith)

module _ (h : Header) (is : IsHeader h) (k : Known) (d : DriverKeeps h k) (r : Register) (x : ℕ) (clean : lenient h k (Reg r x) ≡ []) (is_reset : resets k r x ≡ true) where
  pub reset_runs : (w v : World) → Runs h k w → driver.row_done h w (Reg r x) ≡ Some v → Runs h (reset h k) (counted h v)
  unfolding driver.row_done reset
  reset_runs w v run at =
      let l : Known = all_read h k run.unread in
      let e : DriverKeeps h l = run_keeps h is k w d run in
      let lost : Lost h k l = events_lost h is run.unread k d run.possible run.on in
      let too = resets_too h k l run.unread w d lost run.agrees r x (reset_is k r x is_reset) in
      let same : driver.reset w ≡ v = sym (cond-true (driver.resets w r x) (driver.reset w) (driver.register_row h w r x) too) ∙ same_Some _ v at in
      let agrees : Agrees h (reset h k) [] (driver.reset w) = reset_agrees h is k l run.unread w d e lost run.agrees (none_left h is k d r x clean is_reset) in
      record {
        unread = [];
        possible = tt;
        blocks = All-nil IsBlock;
        on = run.on;
        agrees = subst (λ u. Agrees h (reset h k) [] (counted h u)) same (agrees_once_counted h (reset h k) [] (driver.reset w) agrees);
      }
