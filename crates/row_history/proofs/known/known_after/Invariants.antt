use Rattle.row_history.proofs.BaseWords.{IsHeader, IsFinder}
use Rattle.row_history.proofs.known.known_after.Given as goal

-- the rings that are there now may stand together, and the finder finds them
abbrev pub invariant-loop-index : goal.invariant-loop-index
invariant-loop-index l = IsHeader l.header × IsFinder l.header.rings l.finder
