use Rattle.std.proofs.Common.{◌≡◌, take}
use Rattle.traces.proofs.header.copy_rings.Given as goal

-- the rings so far
abbrev pub invariant-loop-ring : goal.invariant-loop-ring
invariant-loop-ring l = l.copies.items ≡ take l.ring-index l.rings
