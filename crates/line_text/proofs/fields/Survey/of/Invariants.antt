use Rattle.line_text.proofs.Words.{length, fields_of}
use Rattle.line_text.proofs.Counts.{AreCounted}
use Rattle.line_text.proofs.fields.Survey.of.Given as goal

-- the fields that are left
abbrev pub decreases-loop-field : goal.decreases-loop-field
decreases-loop-field l = length l.fields

abbrev pub invariant-loop-field : goal.invariant-loop-field
invariant-loop-field l = AreCounted (fields_of l.line) l.fields l.count l.has_empty
