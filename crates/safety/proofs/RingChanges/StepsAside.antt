-- A step of the controller makes of the model's world what it makes of the world of the rings that live
use Rattle.safety.proofs.UpperLaws.{ContextSize, device_context, device_context_bytes, is_in, ◌≡◌, ◌≢◌, ◌&&◌, ◌∙◌, ℕ, not, Bool, true, false, Option, Some, None, refl, sym, ap, arith, inl, inr, cases_Bool, cond-true, cond-false, false≢true, false_from_ne_true, none-some, same_Some, Block, Header, Ring, Step, NextRow, Look, Report, Finish, Other, Scribble, Halt, World, IsHeader, ring_with, ring_having, shape_of, Known, DriverKeeps, Runs, having_transfer, transfer_ring, Left, aside, made_so, Lists, shape_same, if◌then◌else◌, or_from, fun_ext, register_or_zero, Dcbaap, list_any, range_with_len, lingering, none_lingers, command_is, events_are}
use Rattle.std.specs.Prelude.{option_map}
use Rattle.safety.proofs.RingChanges.RunFacts as facts
use Rattle.world_state.specs.World as world
use Rattle.world_state.specs.Looks as looks
use Rattle.world_state.specs.Posts as posts
use Rattle.world_state.specs.Finishes as finishes
use Rattle.world_state.specs.Steps as steps

-- ---- where the controller isn't started, or has halted, or stopped, it looks at nothing and posts nothing

module _ (h live : Header) (w : World) where
  no_post : (b : Block) → w.started ≡ false → posts.can_post h w b ≡ false
  unfolding posts.can_post
  no_post b before = grind (arith, before)

  no_report : (b : Block) → w.started ≡ false → posts.reported h w b ≡ None
  unfolding posts.reported
  no_report b before = grind (arith, no_post)

  no_finish : (b : Block) → w.started ≡ false → finishes.finished h live w b ≡ None
  unfolding finishes.finished
  no_finish b before = grind (arith, no_post)

  no_other : (b : Block) → w.started ≡ false → posts.other_posted h w b ≡ None
  unfolding posts.other_posted
  no_other b before = grind (arith, no_post)

  no_look : (r : ℕ) → w.is_active r ≡ false → looks.looked h live w r ≡ None
  unfolding looks.looked
  no_look r idle = cond-false (w.is_active r) _ None idle

  none_until : (o : Option World) → o ≡ None → steps.until_halted h w o ≡ None
  unfolding steps.until_halted steps.while_running
  none_until o none = grind arith

  none_noted : (o : Option World) → o ≡ None → option_map (steps.noting_post live) o ≡ None
  none_noted o none = ap (option_map (steps.noting_post live)) none

  none_halted : (o : Option World) → w.halted ≡ true → steps.until_halted h w o ≡ None
  unfolding steps.until_halted
  none_halted o halted = cond-true w.halted None _ halted

-- any step but a scribble and the halt
abbrev acts : Step → Bool
acts NextRow = false
acts (Scribble a x) = false
acts Halt = false
acts s = true

module _ (h live : Header) (w : World) where
  pub none_where_halted : (s : Step) → acts s ≡ true → w.halted ≡ true → steps.made h live w s ≡ None
  unfolding steps.made
  none_where_halted (Look r) acting halted = none_halted h live w _ halted
  none_where_halted (Report b) acting halted = none_halted h live w _ halted
  none_where_halted (Finish b) acting halted = none_halted h live w _ halted
  none_where_halted (Other b) acting halted = none_halted h live w _ halted
  none_where_halted NextRow acting halted = absurd (false≢true acting)
  none_where_halted (Scribble a x) acting halted = absurd (false≢true acting)
  none_where_halted Halt acting halted = absurd (false≢true acting)

  pub none_before : (s : Step) → acts s ≡ true → w.started ≡ false → ((r : ℕ) → w.is_active r ≡ false) → steps.made h live w s ≡ None
  unfolding steps.made
  none_before (Look r) acting before idle = none_until h live w _ (no_look h live w r (idle r))
  none_before (Report b) acting before idle = none_until h live w _ (none_noted h live w _ (no_report h live w b before))
  none_before (Finish b) acting before idle = none_until h live w _ (none_noted h live w _ (no_finish h live w b before))
  none_before (Other b) acting before idle = none_until h live w _ (none_noted h live w _ (no_other h live w b before))
  none_before NextRow acting before idle = absurd (false≢true acting)
  none_before (Scribble a x) acting before idle = absurd (false≢true acting)
  none_before Halt acting before idle = absurd (false≢true acting)

  pub none_behind_stop : (s : Step) → s ≢ NextRow → w.stopped ≡ true → steps.made h live w s ≡ None
  unfolding steps.made steps.while_running steps.until_halted
  none_behind_stop NextRow other stopped = absurd (other refl)
  none_behind_stop s other stopped = grind arith

made_where : (stopped b : Bool) (u v : World) → (if stopped then None else if b then Some u else None) ≡ Some v → u ≡ v
made_where true b u v at = absurd (none-some v at)
made_where false true u v at = same_Some u v at
made_where false false u v at = absurd (none-some v at)

-- what has halted halts no more, and has halted still
pub halted_still : (h live : Header) (w v : World) (s : Step) → s ≢ NextRow → steps.made h live w s ≡ Some v → w.halted ≡ true → v.halted ≡ true
unfolding steps.made steps.while_running steps.halts steps.scribbled world.stored
halted_still h live w v NextRow other at halted = absurd (other refl)
halted_still h live w v (Scribble a x) other at halted = ap (λ u. u.halted) (sym (made_where w.stopped _ (world.stored w a x) v at)) ∙ halted
halted_still h live w v Halt other at halted = ap (λ u. u.halted) (sym (made_where w.stopped (w.halting && not w.halted) (record w { halted = true }) v at))
halted_still h live w v (Look r) other at halted = absurd (none-some v (sym (none_where_halted h live w (Look r) refl halted) ∙ at))
halted_still h live w v (Report b) other at halted = absurd (none-some v (sym (none_where_halted h live w (Report b) refl halted) ∙ at))
halted_still h live w v (Finish b) other at halted = absurd (none-some v (sym (none_where_halted h live w (Finish b) refl halted) ∙ at))
halted_still h live w v (Other b) other at halted = absurd (none-some v (sym (none_where_halted h live w (Other b) refl halted) ∙ at))

-- ---- the step of the model

-- of one choice, made alike
pub picked : (f : World → World) (b c : Bool) (x u : World) → b ≡ c → f x ≡ u → option_map f (if b then Some x else None) ≡ (if c then Some u else None)
picked f b c x u same one = grind arith

stopped_alike : (f : World → World) (stopped : Bool) (o u : Option World) → option_map f o ≡ u → option_map f (if stopped then None else o) ≡ (if stopped then None else u)
stopped_alike f b o u same = grind arith

none_alike : (f : World → World) (o u : Option World) → o ≡ None → u ≡ None → option_map f o ≡ u
none_alike f o u one other = ap (option_map f) one ∙ sym other

module _ (l : Left) (still : ℕ → Bool) (live declared : Header) (lists : Lists l live declared) where
  abbrev pub of_model : World → World
  of_model w = lingering still (aside l w)

  scribbled_alike : (w : World) (a x : ℕ) → option_map of_model (steps.scribbled live w a x) ≡ steps.scribbled declared (of_model w) a x
  unfolding steps.scribbled steps.is_scribbled world.stored
  scribbled_alike w a x =
      picked of_model _ _ _ _
      (ap (λ (z : ContextSize). list_any (λ s. w.scribbles s && is_in a (device_context w.memory (register_or_zero w.register Dcbaap) s) (device_context_bytes z)) (range_with_len 0 256)) (sym lists.size)) refl

  scribble_alike : (w : World) (a x : ℕ) → option_map of_model (steps.made live live w (Scribble a x)) ≡ steps.made declared live (of_model w) (Scribble a x)
  unfolding steps.made steps.while_running
  scribble_alike w a x = stopped_alike of_model w.stopped (steps.scribbled live w a x) (steps.scribbled declared (of_model w) a x) (scribbled_alike w a x)

  halt_alike : (w : World) → option_map of_model (steps.made live live w Halt) ≡ steps.made declared live (of_model w) Halt
  unfolding steps.made steps.while_running steps.halts
  halt_alike w = stopped_alike of_model w.stopped _ _ (picked of_model (w.halting && not w.halted) (w.halting && not w.halted) (record w { halted = true }) (record (of_model w) { halted = true }) refl refl)

  module _ (headed : IsHeader live) (k : Known) (keeps : DriverKeeps live k) (w : World) (run : Runs live k w) (lingers : (r : ℕ) → still r ≡ true → w.halted ≡ true) where
    lives : (r : ℕ) → (q : Ring) × (ring_with live r ≡ Some q) → (l.gone r ≡ false) × (shape_of declared r ≡ shape_of live r)
    lives r q = ((lists.found r q.0 q.1).1, shape_same l live declared lists r q.0 q.1)

    pub had : (s i r : ℕ) → w.ring_of s i ≡ Some r → l.gone r ≡ false
    had s i r at = (lives r (facts.had live headed k keeps w run s i r at)).0

    pub active : (r : ℕ) → w.is_active r ≡ true → (l.gone r ≡ false) × (shape_of declared r ≡ shape_of live r)
    active r on = lives r (facts.active live headed k keeps w run r on)

    -- no ring that went is looked at
    pub rest : (r : ℕ) → l.gone r ≡ true → w.is_active r ≡ false
    rest r went = elim (cases_Bool (w.is_active r)) [ inl on ↦ absurd (false≢true (sym (active r on).0 ∙ went)) | inr off ↦ off ]

    pub names : (p r : ℕ) → ring_having live p ≡ Some r → l.gone r ≡ false
    names p r at = let t = transfer_ring live r (having_transfer live headed p r at) in (lists.found r t.ring t.found).1

    pub none_still : w.halted ≡ false → (r : ℕ) → still r ≡ false
    none_still on r = false_from_ne_true (still r) (λ is_still. false≢true (sym on ∙ lingers r is_still))

    pub runs_aside : w.halted ≡ false → of_model w ≡ aside l w
    runs_aside on = none_lingers still (aside l w) (none_still on)

    -- where it runs the command ring and the event ring are the same
    running : (s : Step) → s ≢ NextRow → w.started ≡ true → w.halted ≡ false → option_map of_model (steps.made live live w s) ≡ steps.made declared live (of_model w) s
    running s other started on =
        let command = facts.command_there live headed k keeps w run (facts.runs_named live headed k keeps w run started on) in
        let event = facts.event_there live headed k keeps w run started in
        let aside_so = made_so l live declared (command_is l live declared lists command.0 command.1) (events_are l live declared lists event.0 event.1) lists.version names lists.size w s other had active in
        let all : (v : World) → of_model v ≡ aside l v = λ v. none_lingers still (aside l v) (none_still on) in
        ap (λ f. option_map f (steps.made live live w s)) (fun_ext all) ∙ aside_so ∙ ap (λ u. steps.made declared live u s) (sym (all w))

    acting : (s : Step) → s ≢ NextRow → acts s ≡ true → option_map of_model (steps.made live live w s) ≡ steps.made declared live (of_model w) s
    acting s other acting_so =
        elim (cases_Bool w.halted) [
          | inl halted ↦ none_alike of_model _ _ (none_where_halted live live w s acting_so halted) (none_where_halted declared live (of_model w) s acting_so halted)
          | inr on ↦ elim (cases_Bool w.started) [
            | inl started ↦ running s other started on
            | inr before ↦
                let idle = facts.looks_at_none live headed k keeps w run before in
                none_alike of_model _ _ (none_before live live w s acting_so before idle)
                (none_before declared live (of_model w) s acting_so before (λ r. idle_too r (idle r) (none_still on r)))
          ]
        ]
      where
        idle_too : (r : ℕ) → w.is_active r ≡ false → still r ≡ false → (of_model w).is_active r ≡ false
        idle_too r idle off = elim (cases_Bool (l.gone r)) [ inl went ↦ or_from _ (still r) idle off | inr there ↦ or_from _ (still r) idle off ]

    pub step_aside : (s : Step) → s ≢ NextRow → option_map of_model (steps.made live live w s) ≡ steps.made declared live (of_model w) s
    step_aside NextRow other = absurd (other refl)
    step_aside (Look r) other = acting (Look r) other refl
    step_aside (Report b) other = acting (Report b) other refl
    step_aside (Finish b) other = acting (Finish b) other refl
    step_aside (Other b) other = acting (Other b) other refl
    step_aside (Scribble a x) other = scribble_alike w a x
    step_aside Halt other = halt_alike w
