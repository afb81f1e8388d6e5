-- Completions place endpoints where they may, so long as what was tested of a command holds still when it succeeds
use Rattle.safety.proofs.Words.{slot, Header, Row, IsHeader, Known, RingsKeep, EndpointsKeep, MayRead, StillReads, arith}
use Rattle.safety.proofs.Targets.Placings.{still_places}

module _ (h : Header) (is : IsHeader h) where
  pub still_reads : (k : Known) (row : Row) → RingsKeep h k → EndpointsKeep h k → StillReads h k row → MayRead h k row
  still_reads k o rings endpoints still = grind (arith, still_places, slot)
