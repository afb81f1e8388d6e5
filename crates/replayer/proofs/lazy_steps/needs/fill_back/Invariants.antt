use Rattle.replayer.proofs.MiddleLaws.{◌≡◌, ◌≤◌, drop, length, need_in, IsTable, filled_from}
use Rattle.replayer.proofs.lazy_steps.needs.fill_back.Given as goal

abbrev pub invariant-loop-left : goal.invariant-loop-left
invariant-loop-left l = record {
  within : l.left ≤ length l.fn.notes;
  notes : l.notes ≡ filled_from l.left l.fn.notes;
  size : length l.needs ≡ 256;
  table : IsTable l.needs (need_in (drop l.left l.fn.notes));
}

abbrev pub decreases-loop-left : goal.decreases-loop-left
decreases-loop-left l = l.left
