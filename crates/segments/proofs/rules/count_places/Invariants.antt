use Rattle.segments.proofs.Words.{◌≡◌, ◌≤◌, ◌*◌, take, place_count, shape_of}
use Rattle.segments.proofs.rules.count_places.Given as goal

abbrev pub invariant-loop-base : goal.invariant-loop-base
invariant-loop-base l = (l.places ≡ place_count (shape_of l.kind (take l.base-index l.segments))) × (l.places ≤ 65535 * l.base-index)
