-- Rows behind each of which the rings that are there may stand in a header
use Rattle.std.specs.Prelude.{List, [], ◌∷◌}
use Rattle.traces.specs.declared.header.Header.{Header}
use Rattle.traces.specs.declared.row.Row.{Row}
use Rattle.traces.specs.AllowedHeaders.{IsHeader}
use Rattle.traces.specs.LivingRings.{header_after}

abbrev pub KeepHeaders : Header → List Row → Type 0
KeepHeaders h [] = Unit {0}
KeepHeaders h (row ∷ rows) = IsHeader (header_after h row) × KeepHeaders (header_after h row) rows
