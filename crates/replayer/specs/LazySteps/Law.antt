-- That the notes say the lazy schedule
use Rattle.std.specs.Prelude.{◌≡◌, ℕ, List}
use Rattle.segments.specs.declared.spot.Spot.TheVariants.{Data}
use Rattle.traces.specs.declared.header.Header.{Header}
use Rattle.traces.specs.declared.row.Row.{Row}
use Rattle.ring_knowledge.specs.Known.{Known, nothing}
use Rattle.safety.specs.LazyRuns.Needs.{need}
use Rattle.safety.specs.LazyRuns.Lazy.{lazy_steps}
use Rattle.replayer.specs.LazySteps.Notes.{notes}
use Rattle.replayer.specs.LazySteps.Passes.{need_in, filled, steps_of}

-- the notes of rows need of each ring what the rows need
abbrev pub NeedsLaw : Header → Type 0
NeedsLaw h = (k : Known) (rows : List Row) (r : ℕ) → need_in (notes h k rows) r ≡ need h k r rows

-- the steps of a trace's notes are its lazy schedule
abbrev pub StepsLaw : Header → Type 0
StepsLaw h = (rows : List Row) → lazy_steps h rows ≡ steps_of h rows (λ r. Data 0) (filled (notes h nothing rows))
