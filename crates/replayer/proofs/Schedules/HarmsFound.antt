-- A replay that ends with harm: up to there the steps are a run, and the world after them isn't safe
use Rattle.replayer.proofs.LowerLaws.{◌≡◌, ◌∙◌, ℕ, suc, ◌+◌, ◌≤◌, List, [], ◌∷◌, ◌++◌, Option, Some, None, refl, ap, arith, length, take, reverse, append-nil, common_steps, Header, Row, Step, Harm, harm_of, Harmful, judged, Scene, scene_before, scene_ending_from, scene_reached, scene_replayed, step_made, DoesHarm, rows_made, turned}

module _ (h : Header) (rows : List Row) where
  -- the first so many of these steps, behind those done, lead to a world that isn't safe, and the replay of them alone ends as that of all
  record IsFound (steps done : List Step) (from : Option Scene) (m n : ℕ) (k : Harm) : Type 0 where
    pub count : ℕ
    pub numbered : n ≡ m + count
    pub within : count ≤ length steps
    pub scene : Scene
    pub run : scene_reached h rows (reverse (take count steps) ++ done) ≡ Some scene
    pub harmful : harm_of scene.header scene.world ≡ Some k
    pub replay : scene_ending_from m from (take count steps) ≡ Harmful n k

  harm_now : (w : Scene) (steps done : List Step) (m n : ℕ) (j k : Harm) → scene_reached h rows done ≡ Some w → harm_of w.header w.world ≡ Some j → Harmful m j ≡ Harmful n k → IsFound steps done (Some w) m n k
  unfolding scene_ending_from judged
  harm_now w steps done m n j k here is e = grind arith

  harm_later : (w : Scene) (s : Step) (rest done : List Step) (m n : ℕ) (k : Harm) → harm_of w.header w.world ≡ None → IsFound rest (s ∷ done) (step_made w s) (m + 1) n k → IsFound (s ∷ rest) done (Some w) m n k
  unfolding scene_ending_from judged
  harm_later w s rest done m n k safe later =
      record {
        count = suc later.count;
        numbered = omega (arith, later.numbered);
        within = omega (arith, later.within);
        scene = later.scene;
        harmful = later.harmful;
        run = ap (λ l. scene_reached h rows l) (turned s (take later.count rest) done) ∙ later.run;
        replay = rw safe later.replay;
      }

  found : (steps done : List Step) (o : Option Scene) (m n : ℕ) (k : Harm) → scene_reached h rows done ≡ o → scene_ending_from m o steps ≡ Harmful n k → IsFound steps done o m n k
  unfolding scene_ending_from judged
  found steps done None m n k here e = absurd (cc)
  found [] done (Some w) m n k here e = grind (arith, Option, harm_now)
  found (s ∷ rest) done (Some w) m n k here e = grind (arith, harm_later, harm_now, found rest (s ∷ done) (step_made w s) (m + 1) n k)

  module _ (steps : List Step) (n : ℕ) (k : Harm) (ends : (scene_replayed h rows steps).ending ≡ Harmful n k) where
    all_found : IsFound steps [] (Some (scene_before h rows)) 0 n k
    unfolding scene_replayed
    all_found = found steps [] (Some (scene_before h rows)) 0 n k refl ends

    counted : n ≡ all_found.count
    counted = omega (arith, all_found.numbered)

    pub within_steps : n ≤ length steps
    within_steps = omega (arith, counted, all_found.within)

    pub does_harm : (most : ℕ) → rows_made (take n steps) ≤ most → DoesHarm h rows most (take n steps) k
    unfolding scene_replayed
    does_harm most few = grind (arith, counted, append-nil, common_steps, within_steps)
