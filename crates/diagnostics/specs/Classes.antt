-- Whether what is told of a line is a break of a rule
use Rattle.std.specs.Prelude.{Bool, true, false}
use Rattle.diagnostics.specs.declared.class.Class.{Class}
use Rattle.diagnostics.specs.declared.class.Class.TheVariants.{Broken, Unjudged}

-- the class of a diagnostic that says that its line isn't judged, or doesn't
abbrev pub class_of : Bool → Class
class_of true = Unjudged
class_of false = Broken
