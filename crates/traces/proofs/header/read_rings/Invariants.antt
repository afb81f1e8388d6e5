use Rattle.std.specs.Prelude.{◌≡◌, ◌&&◌, nat_lt, take, true}
use Rattle.std.specs.List.{list_all}
use Rattle.segments.specs.Shape.{is_shape}
use Rattle.traces.proofs.header.read_rings.Given as goal

-- so it is of the rings so far
abbrev pub invariant-loop-ring : goal.invariant-loop-ring
invariant-loop-ring l = list_all (λ r. nat_lt r.id 256 && is_shape r.shape) (take l.ring-index l.rings) ≡ true
