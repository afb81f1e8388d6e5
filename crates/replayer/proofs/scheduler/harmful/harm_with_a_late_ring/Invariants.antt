use Rattle.replayer.proofs.Words.{◌*◌, All, drop, length, late_schedules, IsTame}
use Rattle.replayer.proofs.scheduler.harmful.harm_with_a_late_ring.Given as goal

-- where those of the rings that are left do no harm, none of all does
abbrev pub invariant-loop-ring : goal.invariant-loop-ring
invariant-loop-ring l =
    let h = l.trace.header in
    let tame = All (IsTame h l.trace.rows (length l.first)) in
    tame (late_schedules h l.trace.rows l.first l.lines l.left (drop l.ring-index h.rings)) → tame (late_schedules h l.trace.rows l.first l.lines (10 * l.lines) h.rings)
