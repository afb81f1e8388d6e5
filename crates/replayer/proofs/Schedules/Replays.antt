-- A run whose worlds are all safe is replayed without harm
use Rattle.replayer.proofs.Words.{append-nil, ◌≡◌, ℕ, ◌+◌, List, [], ◌∷◌, Option, Some, refl, sym, ◌∙◌, ap, subst, arith, ◌++◌, reverse, option_and_then, All, common_steps, All-cons, All-head, All-nil, All-tail, Header, Step, Row, NoHarm, judged, Scene, scene_before, scene_ending_from, scene_reached, scene_replayed, step_made, ContainsAll, DoNoHarm}
use Rattle.traces.specs.Steps.{IsStep}

pub turned : (s : Step) (steps past : List Step) → reverse (s ∷ steps) ++ past ≡ reverse steps ++ s ∷ past
turned s steps past = grind (arith, common_steps)

module _ (h : Header) (rows : List Row) where
  -- the last step of a run
  last_step : (s : Step) (past : List Step) (x y : Scene) → scene_reached h rows past ≡ Some x → scene_reached h rows (s ∷ past) ≡ Some y → step_made x s ≡ Some y
  last_step s past x y here next = sym (ap (λ o. option_and_then (λ u. step_made u s) o) here) ∙ next

  -- the beginning of a run is one
  earlier : (later past : List Step) (scene : Scene) → scene_reached h rows (later ++ past) ≡ Some scene → (y : Scene) × (scene_reached h rows past ≡ Some y)
  earlier [] past scene run = (scene, run)
  earlier (s ∷ later) past scene run = grind (arith, Option, earlier later past)

  module _ (harmless : DoNoHarm h rows) (scene : Scene) where
    from_here : (steps past : List Step) (n : ℕ) (x : Scene) → All IsStep steps → All IsStep past → scene_reached h rows past ≡ Some x → scene_reached h rows (reverse steps ++ past) ≡ Some scene →
        scene_ending_from n (Some x) steps ≡ NoHarm
    unfolding scene_ending_from judged
    from_here [] past n x are were here run = rw (harmless past x were here) refl
    from_here (s ∷ steps) past n x are were here run =
        let later = subst (λ l. scene_reached h rows l ≡ Some scene) (turned s steps past) run in
        let next = earlier (reverse steps) (s ∷ past) scene later in
        rw (harmless past x were here, last_step s past x next.0 here next.1) (from_here steps (s ∷ past) (n + 1) next.0 (All-tail IsStep s steps are) (All-cons IsStep s past (All-head IsStep s steps are) were) next.1 later)

  pub without_harm : DoNoHarm h rows → (steps : List Step) → All IsStep steps → ContainsAll h rows (reverse steps) → (scene_replayed h rows steps).ending ≡ NoHarm
  unfolding scene_replayed
  without_harm harmless steps are contains =
      from_here harmless contains.scene steps [] 0 (scene_before h rows) are (All-nil IsStep) refl
      (subst (λ l. scene_reached h rows l ≡ Some contains.scene) (sym (append-nil (reverse steps))) contains.run)
