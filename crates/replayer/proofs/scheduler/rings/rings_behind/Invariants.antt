use Rattle.replayer.proofs.Words.{◌≡◌, reverse, take, rings_at, header_now}
use Rattle.replayer.proofs.scheduler.rings.rings_behind.Given as goal

-- the rings behind the rows so far
abbrev pub invariant-loop-row : goal.invariant-loop-row
invariant-loop-row l = rings_at l.rings.items ≡ (header_now l.header (reverse (take l.row-index l.rows))).rings
