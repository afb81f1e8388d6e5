use Rattle.replayer.proofs.MiddleLaws.{◌≡◌, drop, length, Data, KeepHeaders, steps_of, spot_in, IsFinder, steps_with}
use Rattle.replayer.proofs.lazy_steps.walk.walk_notes.Given as goal

abbrev pub invariant-loop-note : goal.invariant-loop-note
invariant-loop-note l = record {
  size : length l.pointers ≡ 256;
  found : IsFinder l.header.rings l.finder;
  then_headed : KeepHeaders l.header (drop l.next l.rows);
  so_far : steps_with l.header (drop l.next l.rows) l.steps.items (spot_in l.pointers) l.note-index l.notes ≡ steps_of l.fn.header l.rows (λ r. Data 0) l.notes;
}
