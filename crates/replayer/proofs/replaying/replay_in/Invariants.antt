use Rattle.replayer.proofs.Words.{◌≡◌, ◌++◌, drop, Some, Scene, scene_ending_from, scene_replayed, scene_seen_from, StandsFor}
use Rattle.replayer.proofs.replaying.replay_in.Given as goal

-- so many steps were made, and what the replay answers is what was seen and what it answers from here on
abbrev pub invariant-loop-step : goal.invariant-loop-step
invariant-loop-step g l = record {
  number : l.number ≡ l.step-index;
  here : (x : Scene) × StandsFor g.M.WordMemory.words l.world x
      × (l.seen.items ++ scene_seen_from (Some x) (drop l.step-index l.steps) ≡ (scene_replayed l.trace.header l.trace.rows l.steps).seen)
      × (scene_ending_from l.number (Some x) (drop l.step-index l.steps) ≡ (scene_replayed l.trace.header l.trace.rows l.steps).ending);
}
