use Rattle.segments.proofs.Words.{AreFirsts, before, ◌≡◌, ◌≤◌, ◌*◌}
use Rattle.segments.proofs.index.first_places.Given as goal

abbrev pub invariant-loop-segment : goal.invariant-loop-segment
invariant-loop-segment l = record {
  firsts : AreFirsts l.kind l.segments l.segment-index l.firsts.items;
  places : l.places ≡ before l.kind l.segments l.segment-index;
  low : l.places ≤ 65535 * l.segment-index;
}
