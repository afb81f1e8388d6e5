use Rattle.replayer.proofs.Words.{◌≡◌, [], drop, option_map, Header, Making, rings_at, HasMade, eager_rows, nothing_made, without_late}
use Rattle.replayer.proofs.scheduler.harmful.eager_schedule.Given as goal

-- with the rows that are left as much is made of what was made so far, by the rings that are there
abbrev pub invariant-loop-row : goal.invariant-loop-row
invariant-loop-row l =
    let late = option_map (λ ring. ring.now) l.late in
    (g : Header) × (k : Making) × HasMade l.attempt k × (rings_at l.prompt.items ≡ g.rings)
    × (eager_rows late (without_late l.trace.header late) [] l.first (nothing_made l.trace.header l.trace.rows) ≡ eager_rows late g (rings_at l.active.items) (drop l.row-index l.first) k)
