-- The numbers of faults
use Rattle.std.specs.Prelude.{ℕ}
use Rattle.controller_model.specs.declared.fault.StepFault.{StepFault}
use Rattle.controller_model.specs.declared.fault.StepFault.TheVariants.{NotPossible, Spent, Memory}

abbrev pub number_of : StepFault → ℕ
number_of NotPossible = 27
number_of Spent = 28
number_of Memory = 30
