-- A step leaves aside what is left of the rings that went: it does beside them what it does without them
use Rattle.safety.proofs.Words.{has_runs, pointer, may_have_data, has_isoch, arith, ◌≡◌, ◌≢◌, ◌+◌, ◌-◌, ◌%◌, ◌^◌, ◌==◌, ◌&&◌, ◌∙◌, ◌∷◌, ◌++◌, if◌then◌else◌, ℕ, Bool, true, false, not, List, [], Option, Some, None, is_some, length, drop, ap, refl, sym, inl, inr, eq-eqb, ne_eqb, nat_lt, cases_Bool, cases_eq, cond-true, cond-false, fun_ext, option_and_then, position, list_any, range_with_len, put, put_pair, Block, block_at, code, cycle, endpoint, kind, same_words, slot, counted_code, is_halting, is_stopping, is_success, is_trb_error, is_command_completion, is_link, is_other_event, is_transfer_event, Shape, address_of, cycle_of, is_in, place_count, declared_at, device_context, device_context_bytes, ContextSize, Command, EndpointState, Error, Halted, Stopped, command_of, is_running, Change, Places, Stops, changes, has_room, is_event_place, position_from, Header, Dcbaap, Step, NextRow, Look, Report, Finish, Other, Scribble, command_id, event_shape, event_size, ring_having, shape_of, register_or_zero, RingEvent, Placed, Took, UnderWay, World, next_take, Halt}
use Rattle.std.specs.Prelude.{option_map}
use Rattle.world_state.specs.World as world
use Rattle.world_state.specs.Takes as takes
use Rattle.world_state.specs.DriverRows as driver
use Rattle.world_state.specs.Looks as looks
use Rattle.world_state.specs.Posts as posts
use Rattle.world_state.specs.Bindings as bindings
use Rattle.world_state.specs.Finishes as finishes
use Rattle.world_state.specs.Steps as steps

-- what is left of the rings that went, by ID: what was declared on them, and what happened
pub record Left : Type 0 where
  pub gone : ℕ → Bool
  pub queue : ℕ → List Block
  pub lengths : ℕ → List ℕ
  pub events : ℕ → List RingEvent
  pub reported : ℕ → ℕ

abbrev pub laid : {A : Type 0} → (ℕ → Bool) → (ℕ → A) → (ℕ → A) → ℕ → A
laid g old now r = if g r then old r else now r

-- the world with that put back
abbrev pub aside : Left → World → World
aside l w = record w {
  queue = laid l.gone l.queue w.queue;
  lengths = laid l.gone l.lengths w.lengths;
  events = laid l.gone l.events w.events;
  reported = laid l.gone l.reported w.reported;
}

pub laid_here : {A : Type 0} (g : ℕ → Bool) (old now : ℕ → A) (r : ℕ) → g r ≡ false → laid g old now r ≡ now r
laid_here g old now r off = cond-false (g r) (old r) (now r) off

put_off : {A : Type 0} (f : ℕ → A) (n : ℕ) (x : A) (m : ℕ) → m ≢ n → put f n x m ≡ f m
put_off f n x m other = cond-false (m == n) x (f m) (ne_eqb m n other)

put_is : {A : Type 0} (f : ℕ → A) (r n : ℕ) (x : A) → n ≡ r → put f r x n ≡ x
put_is f r n x same = cond-true (n == r) x (f n) (eq-eqb n r same)

pub laid_put : {A : Type 0} (g : ℕ → Bool) (old now : ℕ → A) (r : ℕ) (x : A) → g r ≡ false → laid g old (put now r x) ≡ put (laid g old now) r x
laid_put g old now r x off =
    fun_ext (λ n. elim (cases_eq n r) [
      | inl same ↦ cond-false (g n) (old n) (put now r x n) (ap g same ∙ off) ∙ put_is now r n x same ∙ sym (put_is (laid g old now) r n x same)
      | inr apart ↦ ap (λ v. if g n then old n else v) (put_off now r x n apart) ∙ sym (put_off (laid g old now) r x n apart)
    ])

module _ (l : Left) where
  chosen : (b c : Bool) (x y u v : Option World) → b ≡ c → option_map (aside l) x ≡ u → option_map (aside l) y ≡ v → option_map (aside l) (if b then x else y) ≡ (if c then u else v)
  chosen b c x y u v same one other = grind arith

  either : (b c : Bool) (x y u v : World) → b ≡ c → aside l x ≡ u → aside l y ≡ v → aside l (if b then x else y) ≡ (if c then u else v)
  either b c x y u v same one other = grind arith

  mapped : {X : Type 0} (f g : X → World) (o u : Option X) → o ≡ u → ((x : X) → aside l (f x) ≡ g x) → option_map (aside l) (option_map f o) ≡ option_map g u
  mapped f g o u same each = grind arith

  through : (f g : World → World) (o u : Option World) → ((w : World) → aside l (f w) ≡ g (aside l w)) → option_map (aside l) o ≡ u →
      option_map (aside l) (option_map f o) ≡ option_map g u
  through f g o u each e = grind (arith, option_map)

  followed : (f : World → Option World) (o u : Option World) → ((w : World) → option_map (aside l) (f w) ≡ f (aside l w)) → option_map (aside l) o ≡ u →
      option_map (aside l) (option_and_then f o) ≡ option_and_then f u
  followed f o u each e = grind (arith, option_and_then)

  some : (x u : World) → aside l x ≡ u → option_map (aside l) (Some x) ≡ Some u
  some x u e = ap (λ w. Some w) e

  -- ---- beside rings of which the same is so of the command and the event ring

  module _ (h d : Header) (command : command_id d ≡ command_id h) (events : event_shape d ≡ event_shape h) (version : d.version ≡ h.version) where
    scribbles_so : (w : World) (o : Option Command) (t : ℕ) → looks.may_scribble d o (aside l w) t ≡ looks.may_scribble h o w t
    unfolding looks.may_scribble
    scribbles_so w o t = grind arith

    begun_so : (w : World) (a : ℕ) (b : Block) → aside l (looks.command_begun h w a b) ≡ looks.command_begun d (aside l w) a b
    unfolding looks.command_begun
    begun_so w a b = grind (arith, scribbles_so)

    module _ (r : ℕ) (off : l.gone r ≡ false) where
      taken_on_so : (w : World) (b : Block) → shape_of d r ≡ shape_of h r → aside l (looks.taken_on h w r b) ≡ looks.taken_on d (aside l w) r b
      unfolding looks.taken_on takes.declared_next
      taken_on_so w b same =
          let q = laid_here l.gone l.queue w.queue r off in
          let n = laid_here l.gone l.lengths w.lengths r off in
          let e = laid_here l.gone l.events w.events r off in
          let new = Took (w.pointer_of r) b (declared_at (w.queue r) (w.lengths r) (next_take (shape_of h r) (w.events r))) ∷ w.events r in
          λ j. record w {
            queue = laid l.gone l.queue w.queue;
            lengths = laid l.gone l.lengths w.lengths;
            reported = laid l.gone l.reported w.reported;
            events = (laid_put l.gone l.events w.events r new off
                ∙ (λ i. put (laid l.gone l.events w.events) r (Took (w.pointer_of r) b (declared_at (sym q i) (sym n i) (next_take (sym same i) (sym e i))) ∷ sym e i))) j;
            pointer_of = put w.pointer_of r ((w.pointer_of r + 16) % 2 ^ 64);
          }

      seen_so : (w : World) → aside l (looks.seen_by_look h w r) ≡ looks.seen_by_look h (aside l w) r
      unfolding looks.seen_by_look
      seen_so w = refl

      taken_so : (w : World) (b : Block) → shape_of d r ≡ shape_of h r → aside l (looks.taken h w r b) ≡ looks.taken d (aside l w) r b
      unfolding looks.taken
      taken_so w b same = grind (arith, either, taken_on_so, begun_so, ap (λ n. r == n) command)

      crossed_so : (w : World) (b : Block) → aside l (looks.crossed h w r b) ≡ looks.crossed d (aside l w) r b
      unfolding looks.crossed
      crossed_so w b = refl

      looked_at_so : (w : World) (b : Block) → shape_of d r ≡ shape_of h r → option_map (aside l) (looks.looked_at h h w r b) ≡ looks.looked_at d h (aside l w) r b
      unfolding looks.looked_at
      looked_at_so w b same =
          chosen (not (cycle b == w.cycle_state r)) (not (cycle b == w.cycle_state r)) _ _ _ _ refl (some _ _ (seen_so w))
          (chosen (is_link (kind b)) (is_link (kind b)) _ _ _ _ refl (some _ _ (crossed_so (looks.seen_by_look h w r) b ∙ ap (λ u. looks.crossed d u r b) (seen_so w)))
          (chosen (r == command_id h && is_some w.under_way) (r == command_id d && is_some w.under_way) _ _ _ _ (ap (λ n. r == n && is_some w.under_way) (sym command)) refl
          (some _ _ (taken_so (looks.seen_by_look h w r) b same ∙ ap (λ u. looks.taken d u r b) (seen_so w)))))

      -- ---- reports

      with_reported_so : (w : World) (n : ℕ) → aside l (posts.with_reported h w r n) ≡ posts.with_reported d (aside l w) r n
      unfolding posts.with_reported
      with_reported_so w n =
          λ j. record w {
            queue = laid l.gone l.queue w.queue;
            lengths = laid l.gone l.lengths w.lengths;
            events = laid l.gone l.events w.events;
            reported = laid_put l.gone l.reported w.reported r n off j;
          }

      unreported_so : (w : World) → takes.unreported w r ≡ takes.unreported (aside l w) r
      unfolding takes.unreported
      unreported_so w = λ j. drop (sym (laid_here l.gone l.reported w.reported r off) j) (takes.takes_of (sym (laid_here l.gone l.events w.events r off) j))

      success_so : (w : World) (b : Block) → option_map (aside l) (posts.report_success h w r b) ≡ posts.report_success d (aside l w) r b
      unfolding posts.report_success
      success_so w b =
          let n = laid_here l.gone l.reported w.reported r off in
          mapped (λ m. posts.with_reported h w r (w.reported r + m + 1)) (λ m. posts.with_reported d (aside l w) r (laid l.gone l.reported w.reported r + m + 1))
          (position (takes.names b) (takes.unreported w r)) (position (takes.names b) (takes.unreported (aside l w) r))
          (ap (λ xs. position (takes.names b) xs) (unreported_so w)) (λ m. with_reported_so w (w.reported r + m + 1) ∙ ap (λ k. posts.with_reported d (aside l w) r (k + m + 1)) (sym n))

      all_reported : (w : World) → w.reported r + length (takes.unreported w r) ≡ laid l.gone l.reported w.reported r + length (takes.unreported (aside l w) r)
      all_reported w = λ j. sym (laid_here l.gone l.reported w.reported r off) j + length (unreported_so w j)

      error_so : (w : World) (s i : ℕ) (b : Block) (state : EndpointState) → option_map (aside l) (posts.report_error h w s i r b state) ≡ posts.report_error d (aside l w) s i r b state
      unfolding posts.report_error
      error_so w s i b state =
          chosen _ _ _ None _ None
          (λ j. is_running (w.endpoint_state s i) && w.is_active r && takes.names_last b (unreported_so w j))
          (some _ _ (ap (λ (u : World). let v : World = record u { is_active = put w.is_active r false; endpoint_state = put_pair w.endpoint_state s i state } in v)
          (with_reported_so w (w.reported r + length (takes.unreported w r)) ∙ ap (λ n. posts.with_reported d (aside l w) r n) (all_reported w)))) refl

      under_way_so : (s i : ℕ) (o : Option UnderWay) → posts.is_stop_under_way h s i o ≡ posts.is_stop_under_way d s i o
      unfolding posts.is_stop_under_way
      under_way_so s i o = grind arith

      with_stopped_so : (o : Option UnderWay) → posts.with_stopped h o ≡ posts.with_stopped d o
      unfolding posts.with_stopped
      with_stopped_so o = grind arith

      stopped_so : (w : World) (n : ℕ) → aside l (posts.stopped_with h w r n) ≡ posts.stopped_with d (aside l w) r n
      unfolding posts.stopped_with
      stopped_so w n = λ j. record (with_reported_so w n j) { is_active = put w.is_active r false; under_way = with_stopped_so w.under_way j }

      stop_so : (w : World) (s i : ℕ) (b : Block) → option_map (aside l) (posts.report_stop h w s i r b) ≡ posts.report_stop d (aside l w) s i r b
      unfolding posts.report_stop
      stop_so w s i b =
          chosen _ _ None _ None _
          (λ j. not (under_way_so s i w.under_way j && is_running (w.endpoint_state s i) && w.is_active r)) refl
          (chosen _ _ _ _ _ _ (ap (λ xs. takes.names_last b xs) (unreported_so w))
          (some _ _ (stopped_so w (w.reported r + length (takes.unreported w r) - 1) ∙ ap (λ n. posts.stopped_with d (aside l w) r (n - 1)) (all_reported w)))
          (chosen (pointer b == w.pointer_of r) (pointer b == w.pointer_of r) _ None _ None refl
          (some _ _ (stopped_so w (w.reported r + length (takes.unreported w r)) ∙ ap (λ n. posts.stopped_with d (aside l w) r n) (all_reported w))) refl))

      code_so : (w : World) (c s i : ℕ) (b : Block) → option_map (aside l) (posts.report_code h w c s i r b) ≡ posts.report_code d (aside l w) c s i r b
      unfolding posts.report_code
      code_so w c s i b =
          chosen (is_success c) (is_success c) _ _ _ _ refl (success_so w b)
          (chosen (is_halting c) (is_halting c) _ _ _ _ refl (error_so w s i b Halted)
          (chosen (is_trb_error c) (is_trb_error c) _ _ _ _ refl (error_so w s i b Error)
          (chosen (is_stopping c) (is_stopping c) _ None _ None refl (stop_so w s i b) refl)))

    posted_so : (w : World) (b : Block) → aside l (posts.posted h w b) ≡ posts.posted d (aside l w) b
    unfolding posts.posted world.stored_block world.stored
    posted_so w b = ap (λ (shape : Shape). aside l (record (world.stored_block w (address_of shape w.posted) b) { posted = w.posted + 1 })) (sym events)

    can_post_so : (w : World) (b : Block) → posts.can_post h w b ≡ posts.can_post d (aside l w) b
    unfolding posts.can_post event_size
    can_post_so w b =
        ap (λ (shape : Shape). nat_lt 0 (place_count shape) && w.started && has_room (place_count shape) w.posted w.dequeue && cycle b == cycle_of shape w.posted) (sym events)

    code_posted_so : (w : World) (b : Block) → posts.code_posted h w b ≡ posts.code_posted d (aside l w) b
    unfolding posts.code_posted
    code_posted_so w b = ap (λ v. counted_code (has_isoch v && w.isochronous (slot b) (endpoint b)) (code b)) (sym version)

    -- of no ring that went an endpoint has it
    abbrev pub HasNone : World → Type 0
    HasNone w = (s i r : ℕ) → w.ring_of s i ≡ Some r → l.gone r ≡ false

    reported_so : (w : World) (b : Block) → HasNone w → option_map (aside l) (posts.reported h w b) ≡ posts.reported d (aside l w) b
    unfolding posts.reported posts.reported_on
    reported_so w b had =
        chosen _ _ _ None _ None (λ j. can_post_so w b j && is_transfer_event (kind b) && may_have_data (sym version j) b)
        (grind (arith, posted_so, code_so, code_posted_so)) refl

    other_so : (w : World) (b : Block) → option_map (aside l) (posts.other_posted h w b) ≡ posts.other_posted d (aside l w) b
    unfolding posts.other_posted
    other_so w b = chosen _ _ _ None _ None (ap (λ t. t && is_other_event (kind b)) (can_post_so w b)) (some _ _ (posted_so w b)) refl

    -- ---- commands that finish: their pointers name rings that live

    inactive_so : (w : World) (o : Option ℕ) → aside l (bindings.inactive w o) ≡ bindings.inactive (aside l w) o
    unfolding bindings.inactive
    inactive_so w o = grind arith

    placed_so : (w : World) (s i r a : ℕ) (c : Bool) (state : EndpointState) → l.gone r ≡ false → aside l (bindings.placed w s i r a c state) ≡ bindings.placed (aside l w) s i r a c state
    unfolding bindings.placed
    placed_so w s i r a c state off =
        let e = laid_here l.gone l.events w.events r off in
        let put_events = laid_put l.gone l.events w.events r (Placed a ∷ w.events r) off ∙ ap (λ xs. put (laid l.gone l.events w.events) r (Placed a ∷ xs)) (sym e) in
        let put_reported = laid_put l.gone l.reported w.reported r (length (takes.takes_of (w.events r))) off ∙ ap (λ xs. put (laid l.gone l.reported w.reported) r (length (takes.takes_of xs))) (sym e) in
        let idle = inactive_so (bindings.inactive w (w.ring_of s i)) (Some r) ∙ ap (λ u. bindings.inactive u (Some r)) (inactive_so w (w.ring_of s i)) in
        λ j. record (idle j) {
          endpoint_state = put_pair w.endpoint_state s i state;
          ring_of = put_pair w.ring_of s i (Some r);
          pointer_of = put w.pointer_of r a;
          cycle_state = put w.cycle_state r (if c then 1 else 0);
          events = put_events j;
          reported = put_reported j;
        }

    placed_on_so : (w : World) (s i a : ℕ) (c : Bool) (state : EndpointState) (o : Option ℕ) → ((r : ℕ) → o ≡ Some r → l.gone r ≡ false) →
        option_map (aside l) (bindings.placed_on w s i a c state o) ≡ bindings.placed_on (aside l w) s i a c state o
    unfolding bindings.placed_on bindings.is_had_by_another
    placed_on_so w s i a c state None names = refl
    placed_on_so w s i a c state (Some r) names = chosen _ _ None _ None _ refl refl (some _ _ (placed_so w s i r a c state (names r refl)))

    module _ (names : (p r : ℕ) → ring_having h p ≡ Some r → l.gone r ≡ false) where
      change_so : (w : World) (c : Command) (change : Change) → option_map (aside l) (bindings.changed_by h c w change) ≡ bindings.changed_by h c (aside l w) change
      unfolding bindings.changed_by bindings.in_state bindings.disabled bindings.typed bindings.has_one_of
      change_so w c (Places s i p cycle state) = placed_on_so w s i p cycle state (ring_having h p) (names p)
      change_so w c (Stops s i) = some _ _ (inactive_so (record w { endpoint_state = put_pair w.endpoint_state s i Stopped }) (w.ring_of s i))
      change_so w c _ = refl

      all_so : (w : World) (c : Command) (list : List Change) → option_map (aside l) (bindings.changed_by_all h c w list) ≡ bindings.changed_by_all h c (aside l w) list
      unfolding bindings.changed_by_all
      all_so w c [] = refl
      all_so w c (change ∷ rest) =
          followed (λ v. bindings.changed_by_all h c v rest) (bindings.changed_by h c w change) (bindings.changed_by h c (aside l w) change) (λ v. all_so v c rest) (change_so w c change)

      succeeded_so : (w : World) (n : ℕ) (o : Option Command) → option_map (aside l) (finishes.succeeded h w n o) ≡ finishes.succeeded h (aside l w) n o
      unfolding finishes.succeeded bindings.effect
      succeeded_so w n None = refl
      succeeded_so w n (Some c) = chosen _ _ None _ None _ refl refl (all_so w c (changes h.context_size w.memory n c))

      ended_so : (w : World) (b : Block) → aside l (finishes.ended h w b) ≡ finishes.ended d (aside l w) b
      unfolding finishes.ended
      ended_so w b = ap (λ (u : World). let v : World = record u { under_way = None } in v) (posted_so w b)

      ended_with_so : (w : World) (b : Block) (u : UnderWay) → option_map (aside l) (finishes.ended_with h h w b u) ≡ finishes.ended_with d h (aside l w) b u
      unfolding finishes.ended_with
      ended_with_so w b u =
          chosen (code b == 1) (code b == 1) _ _ _ _ refl
          (through (λ v. finishes.ended h v b) (λ v. finishes.ended d v b) (finishes.succeeded h w (slot b) (command_of u.block)) (finishes.succeeded h (aside l w) (slot b) (command_of u.block))
          (λ v. ended_so v b) (succeeded_so w (slot b) (command_of u.block)))
          (chosen u.has_stopped u.has_stopped None _ None _ refl refl (some _ _ (ended_so w b)))

      finished_as_so : (w : World) (b : Block) (o : Option UnderWay) → option_map (aside l) (finishes.finished_as h h w b o) ≡ finishes.finished_as d h (aside l w) b o
      unfolding finishes.finished_as
      finished_as_so w b None = refl
      finished_as_so w b (Some u) = chosen _ _ _ None _ None refl (ended_with_so w b u) refl

      finished_so : (w : World) (b : Block) → option_map (aside l) (finishes.finished h h w b) ≡ finishes.finished d h (aside l w) b
      unfolding finishes.finished
      finished_so w b =
          chosen _ _ _ None _ None (ap (λ t. t && is_command_completion (kind b) && not (code b == 0)) (can_post_so w b)) (finished_as_so w b w.under_way) refl

      -- ---- steps of the controller

      running_so : (w : World) (o u : Option World) → option_map (aside l) o ≡ u → option_map (aside l) (steps.while_running h w o) ≡ steps.while_running d (aside l w) u
      unfolding steps.while_running
      running_so w o u e = chosen w.stopped w.stopped None o None u refl refl e

      halting_so : (w : World) (o u : Option World) → option_map (aside l) o ≡ u → option_map (aside l) (steps.until_halted h w o) ≡ steps.until_halted d (aside l w) u
      unfolding steps.until_halted
      halting_so w o u e = chosen w.halted w.halted None (steps.while_running h w o) None (steps.while_running d (aside l w) u) refl refl (running_so w o u e)

      noting_so : (w : World) → aside l (steps.noting_post h w) ≡ steps.noting_post h (aside l w)
      unfolding steps.noting_post
      noting_so w = refl

      posting_so : (w : World) (o u : Option World) → option_map (aside l) o ≡ u →
          option_map (aside l) (steps.until_halted h w (option_map (steps.noting_post h) o)) ≡ steps.until_halted d (aside l w) (option_map (steps.noting_post h) u)
      posting_so w o u e = halting_so w (option_map (steps.noting_post h) o) (option_map (steps.noting_post h) u) (through (steps.noting_post h) (steps.noting_post h) o u noting_so e)

      halts_so : (w : World) → option_map (aside l) (steps.halts h w) ≡ steps.halts d (aside l w)
      unfolding steps.halts
      halts_so w = chosen _ _ _ None _ None refl refl refl

      pub scribbled_so : d.context_size ≡ h.context_size → (w : World) (a n : ℕ) → option_map (aside l) (steps.scribbled h w a n) ≡ steps.scribbled d (aside l w) a n
      unfolding steps.scribbled steps.is_scribbled world.stored
      scribbled_so size w a n =
          chosen _ _ _ None _ None
          (ap (λ (z : ContextSize). list_any (λ s. w.scribbles s && is_in a (device_context w.memory (register_or_zero w.register Dcbaap) s) (device_context_bytes z)) (range_with_len 0 256)) (sym size)) refl refl

      -- a ring that is active is none that went, and of the same shape
      abbrev pub Looks : World → Type 0
      Looks w = (r : ℕ) → w.is_active r ≡ true → (l.gone r ≡ false) × (shape_of d r ≡ shape_of h r)

      look_so : (w : World) (r : ℕ) → Looks w → option_map (aside l) (looks.looked h h w r) ≡ looks.looked d h (aside l w) r
      unfolding looks.looked
      look_so w r active = elim (cases_Bool (w.is_active r)) [
        | inl on ↦ let a = active r on in chosen (w.is_active r) (w.is_active r) _ None _ None refl (looked_at_so r a.0 w (block_at w.memory (w.pointer_of r)) a.1) refl
        | inr idle ↦ ap (λ o. option_map (aside l) o) (cond-false (w.is_active r) _ None idle) ∙ sym (cond-false (w.is_active r) _ None idle)
      ]

      pub made_so : d.context_size ≡ h.context_size → (w : World) (s : Step) → s ≢ NextRow → HasNone w → Looks w → option_map (aside l) (steps.made h h w s) ≡ steps.made d h (aside l w) s
      unfolding steps.made
      made_so size w NextRow other had active = absurd (other refl)
      made_so size w (Look r) other had active = halting_so w _ _ (look_so w r active)
      made_so size w (Report b) other had active = posting_so w _ _ (reported_so w b had)
      made_so size w (Finish b) other had active = posting_so w _ _ (finished_so w b)
      made_so size w (Other b) other had active = posting_so w _ _ (other_so w b)
      made_so size w (Scribble a x) other had active = running_so w _ _ (scribbled_so size w a x)
      made_so size w Halt other had active = running_so w _ _ (halts_so w)

  -- ---- rows

  module _ (h d : Header) where
    pub declared_so : (w : World) (r : ℕ) (blocks : List Block) → l.gone r ≡ false → aside l (driver.declared h w r blocks) ≡ driver.declared d (aside l w) r blocks
    unfolding driver.declared
    declared_so w r blocks off =
        let q = laid_here l.gone l.queue w.queue r off in
        let n = laid_here l.gone l.lengths w.lengths r off in
        λ j. record w {
          queue = (laid_put l.gone l.queue w.queue r (w.queue r ++ blocks) off ∙ ap (λ xs. put (laid l.gone l.queue w.queue) r (xs ++ blocks)) (sym q)) j;
          lengths = (laid_put l.gone l.lengths w.lengths r (w.lengths r ++ length blocks ∷ []) off ∙ ap (λ xs. put (laid l.gone l.lengths w.lengths) r (xs ++ length blocks ∷ [])) (sym n)) j;
          events = laid l.gone l.events w.events;
          reported = laid l.gone l.reported w.reported;
        }

    pub dequeue_so : event_shape d ≡ event_shape h → (w : World) (a : ℕ) → aside l (driver.with_dequeue h w a) ≡ driver.with_dequeue d (aside l w) a
    unfolding driver.with_dequeue
    dequeue_so events w a =
        either (is_event_place (event_shape h) a) (is_event_place (event_shape d) a) (record w { dequeue = position_from (event_shape h) w.dequeue a }) w
        (record (aside l w) { dequeue = position_from (event_shape d) w.dequeue a }) (aside l w) (ap (λ shape. is_event_place shape a) (sym events))
        (ap (λ shape. aside l (record w { dequeue = position_from shape w.dequeue a })) (sym events)) refl

    pub bell_so : command_id d ≡ command_id h → (w : World) (s t : ℕ) → aside l (driver.bell_row h w s t) ≡ driver.bell_row d (aside l w) s t
    unfolding driver.bell_row driver.activated driver.endpoint_bell
    bell_so command w s t = grind (arith, either, command)

    pub read_so : event_shape d ≡ event_shape h → (w : World) (e : Block) → option_map (aside l) (driver.event_read h w e) ≡ driver.event_read d (aside l w) e
    unfolding driver.event_read world.event_at
    read_so events w e = chosen _ _ _ None _ None (ap (λ (shape : Shape). nat_lt w.reads w.posted && same_words (block_at w.memory (address_of shape w.reads)) e) (sym events)) refl refl

    pub phase_so : d.version ≡ h.version → (w : World) (v : ℕ) → aside l (driver.run_or_stop h w v) ≡ driver.run_or_stop d (aside l w) v
    unfolding driver.run_or_stop driver.runs_once driver.runs_again
    phase_so version w v = either (has_runs h.version) (has_runs d.version) _ _ _ _ (ap (λ n. has_runs n) (sym version)) (grind arith) (grind arith)
