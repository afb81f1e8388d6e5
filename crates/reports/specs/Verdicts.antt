-- The words for what is answered, and for why something isn't as it must be
use Rattle.std.specs.Prelude.{ℕ, List, codes}
use Rattle.diagnostics.specs.declared.class.Class as diagnosed
use Rattle.diagnostics.specs.declared.class.Class.TheVariants as classes
use Rattle.reports.specs.declared.outcome.Verdict.{Verdict}
use Rattle.reports.specs.declared.outcome.Verdict.TheVariants.{Accepted, Refused, Yes, No, NoHarm, Harm, NotPossible, Shown, Explained, Written, Unreadable, Failed}
use Rattle.reports.specs.declared.outcome.Cause.{Cause}
use Rattle.reports.specs.declared.outcome.Cause.TheVariants.{Broken, Unjudged, Text, Device, Memory}

abbrev pub verdict_word : Verdict → List ℕ
verdict_word Accepted = codes "accepted"
verdict_word Refused = codes "refused"
verdict_word Yes = codes "yes"
verdict_word No = codes "no"
verdict_word NoHarm = codes "no harm"
verdict_word Harm = codes "harm"
verdict_word NotPossible = codes "not possible"
verdict_word Shown = codes "shown"
verdict_word Explained = codes "explained"
verdict_word Written = codes "written"
verdict_word Unreadable = codes "unreadable"
verdict_word Failed = codes "failed"

abbrev pub cause_word : Cause → List ℕ
cause_word Broken = codes "broken"
cause_word Unjudged = codes "unjudged"
cause_word Text = codes "text"
cause_word Device = codes "device"
cause_word Memory = codes "memory"

-- the cause that a diagnostic's class is
abbrev pub cause_of_class : diagnosed.Class → Cause
cause_of_class classes.Broken = Broken
cause_of_class classes.Unjudged = Unjudged
