use Rattle.leases.proofs.Laws.{refl, first_ranges}
use Rattle.leases.proofs.book.ranges.RangeIndexes.new.Goals as goal

pub returns : goal.returns
returns c = λ h first. first_ranges h first (record { contexts = c.new.result; entries = c.new-2.result; devices = c.new-3.result; table = 0; segments = 0 }) refl
