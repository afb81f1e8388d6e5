-- Each step keeps a run of the model and what the rings that live see of it alike
use Rattle.safety.proofs.UpperLaws.{All-head, AreKept, [], ◌≡◌, ◌≢◌, ◌∷◌, ◌∙◌, ℕ, Bool, true, List, refl, sym, ap, subst, inl, inr, false≢true, false_from_ne_true, none-some, reverse, Header, Row, Step, NextRow, World, IsStep, IsRow, counted, Known, Runs, LiveScene, live_next, live_step, live_with, header_now, known_now, Scene, row_next, step_made, with_world, Left, aside, Lists, lingering, MayBegin}
use Rattle.std.proofs.Common.{option_map}
use Rattle.safety.proofs.StepRuns.{step_goes}
use Rattle.safety.proofs.RingChanges.Alike.{Alike, AreAlike, IsIdle, Lingers, alike_step, whole}
use Rattle.safety.proofs.RingChanges.LiveHeadline.{CameTo, Keeps, here, kept_on, later_kept, one_more, stays}
use Rattle.safety.proofs.RingChanges.StepsAside.{halted_still, none_behind_stop, step_aside}
use Rattle.safety.proofs.RingChanges.AlikeRows.{made_row}
use Rattle.safety.proofs.RingChanges.RunFacts as facts
use Rattle.world_state.specs.Steps as steps

counted_active : (h : Header) (v : World) → (counted h v).is_active ≡ v.is_active
unfolding counted
counted_active h v = refl

counted_halted : (h : Header) (v : World) → (counted h v).halted ≡ v.halted
unfolding counted
counted_halted h v = refl

module _ (h : Header) (is : MayBegin h) (past : List Row) where
  abbrev g : Header
  g = header_now h past

  abbrev k : Known
  k = known_now h past

  module _ (w : World) (l : Left) (still : ℕ → Bool) (d : Header) (lists : Lists l g d) (lingers : (r : ℕ) → still r ≡ true → Lingers l d k w r) where
    abbrev of_model : World → World
    of_model v = lingering still (aside l v)

    -- of rings that live a run says which are looked at
    idle_there : (v : World) → Keeps h is past → Runs g k (counted g v) → IsIdle l v
    idle_there v p run r went =
        false_from_ne_true (v.is_active r) (λ on.
        let there = facts.active g p.headed k p.keeps (counted g v) run r (ap (λ f. f r) (counted_active g v) ∙ on) in
        false≢true (sym (lists.found r there.0 there.1).1 ∙ went))

    -- ---- a step of the controller

    control : (rows : List Row) (s : Step) → IsStep s → s ≢ NextRow → CameTo h is past (live_with g rows w) →
        AreAlike h is (option_map (λ v. live_with g rows (counted g v)) (steps.made g g w s))
        (option_map (λ v. with_world (whole l still d (live_with g rows w)) (counted d v)) (steps.made d g (of_model w) s))
    control rows s is_step other c =
        elim c.holds [
          | inl run ↦
              let p = here h is past (live_with g rows w) c run in
              alike_step h is past l still d g lists rows w (of_model w) (steps.made g g w s) (steps.made d g (of_model w) s)
              (step_aside l still g d lists p.headed k p.keeps w run (λ r is_still. (lingers r is_still).halted) s other)
              (λ v at. record {
                came = stays h is past (live_with g rows w) (live_with g rows (counted g v)) s is_step other c (ap (option_map (λ v. live_with g rows (counted g v))) at);
                idle = idle_there v p (step_goes g p.headed k p.keeps w v s is_step at other run);
                lingers = λ r is_still. let x = lingers r is_still in record { gone = x.gone; command = x.command; halted = halted_still g g w v s other at x.halted; unnamed = x.unnamed; ended = x.ended };
              })
          | inr over ↦
              alike_step h is past l still d g lists rows w (of_model w) (steps.made g g w s) (steps.made d g (of_model w) s)
              (ap (option_map of_model) (none_behind_stop g g w s other over.also) ∙ sym (none_behind_stop d g (of_model w) s other over.also))
              (λ v at. absurd (none-some v (sym (none_behind_stop g g w s other over.also) ∙ at)))
        ]

    -- ---- a row

    next_row : (rows : List Row) → IsIdle l w → CameTo h is past (live_with g rows w) → AreAlike h is (live_next (live_with g rows w) rows) (row_next (whole l still d (live_with g rows w)) rows)
    next_row [] rest c = tt
    next_row (row ∷ rest_of) rest c =
        let own : AreKept h (row ∷ past) = later_kept h (reverse rest_of) (row ∷ past) (subst (AreKept h) (one_more row rest_of past) c.kept) in
        elim c.holds [
          | inl run ↦
              let p = here h is past (live_with g (row ∷ rest_of) w) c run in
              made_row h is past w l still d lists rest lingers rest_of p run row (All-head IsRow row rest_of c.left) own.1 c
          | inr over ↦ absurd (false≢true (sym (kept_on g k row own.1) ∙ over.stopped))
        ]

    step_there : (rows : List Row) (s : Step) → IsIdle l w → IsStep s → CameTo h is past (live_with g rows w) → AreAlike h is (live_step (live_with g rows w) s) (step_made (whole l still d (live_with g rows w)) s)
    step_there rows NextRow rest is_step c = next_row rows rest c
    step_there rows s rest is_step c = control rows s is_step (λ e. cc) c

-- a step that the rings that live see, and the step of the model
pub step_alike : (h : Header) (is : MayBegin h) (x : LiveScene) (y : Scene) (s : Step) → IsStep s → Alike h is x y → AreAlike h is (live_step x s) (step_made y s)
step_alike h is x y s is_step a =
    let now : LiveScene = live_with (header_now h a.past) x.rows x.world in
    let here_now : ◌≡◌ {A = LiveScene} x now = λ j. record { header = a.came.header j; rows = x.rows; world = x.world } in
    let came_now : CameTo h is a.past now = subst (CameTo h is a.past) here_now a.came in
    let lists : Lists a.left (header_now h a.past) a.declared = subst (λ z. Lists a.left z a.declared) a.came.header a.lists in
    subst (λ z. AreAlike h is (live_step x s) (step_made z s)) (sym a.same)
    (subst (λ z. AreAlike h is (live_step z s) (step_made (whole a.left a.still a.declared z) s)) (sym here_now)
    (step_there h is a.past x.world a.left a.still a.declared lists a.lingers x.rows s a.idle is_step came_now))
