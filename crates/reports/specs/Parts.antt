-- The parts of a diagnostic
use Rattle.std.specs.Prelude.{List, [], ◌∷◌, Option, None, Some}
use Rattle.diagnostics.specs.declared.diagnostic.Diagnostic.{Diagnostic}
use Rattle.diagnostics.specs.declared.diagnostic.Quote.{Quote}
use Rattle.reports.specs.declared.parts.Mark.{Mark}
use Rattle.reports.specs.declared.parts.MarkKind.TheVariants.{Told, Earlier}

-- the earlier line, where there is one, and the one that is told of
abbrev pub marks_of : Option Quote → Quote → List Mark
marks_of None told = record { kind = Told; quote = told } ∷ []
marks_of (Some earlier) told = record { kind = Earlier; quote = earlier } ∷ record { kind = Told; quote = told } ∷ []

-- the lines that a diagnostic quotes
abbrev pub marks_in : Diagnostic → List Mark
marks_in it = marks_of it.earlier it.refused
