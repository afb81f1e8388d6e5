use Rattle.replayer.proofs.Words.{◌≡◌, filter, not, option_map, take, rings_at, is_late}
use Rattle.replayer.proofs.scheduler.rings.prompt_rings.Given as goal

abbrev pub invariant-loop-ring : goal.invariant-loop-ring
invariant-loop-ring l = rings_at l.prompt.items ≡ filter (λ r. not (is_late (option_map (λ x. x.now) l.late) r)) (take l.ring-index l.header.rings)
