-- How a refused line of a plan is told
use Rattle.std.specs.Prelude.{ℕ, List, codes}
use Rattle.trace_reader.specs.declared.fault.LineFault.{LineFault}
use Rattle.trace_reader.specs.declared.fault.ReadFault.{ReadFault}
use Rattle.trace_reader.specs.declared.fault.ReadFault.TheVariants.{Line as BadLine, Memory as NoText}
use Rattle.trb.specs.declared.fault.Fault.{Fault}
use Rattle.trb.specs.declared.fault.Fault.TheVariants.{BadDescriptor as NoDescriptor, NotInProfile as LeftOut}
use Rattle.cycle_ring.specs.declared.fault.EnqueueFault.{EnqueueFault}
use Rattle.cycle_ring.specs.declared.fault.EnqueueFault.TheVariants.{RingFull as Full, BadDescriptor as Bad, NotInProfile as Outside, Memory as NoMemory}
use Rattle.plan_writer.specs.declared.fault.PlanRefusal.{PlanRefusal}
use Rattle.plan_writer.specs.declared.fault.PlanRefusal.TheVariants.{NotDeclared, RingFull, BadDescriptor, NotInProfile, NotGiven}
use Rattle.plan_writer.specs.declared.fault.LineStop.{LineStop}
use Rattle.plan_writer.specs.declared.fault.LineStop.TheVariants.{Refused, Memory}
use Rattle.plan_writer.specs.declared.fault.PlanFault.{PlanFault}
use Rattle.plan_writer.specs.declared.fault.PlanFault.TheVariants.{Line, Refused as RefusedLine, Memory as NoPlanMemory}

abbrev pub refusal_number : PlanRefusal → ℕ
refusal_number NotDeclared = 12
refusal_number RingFull = 15
refusal_number BadDescriptor = 16
refusal_number NotInProfile = 23
refusal_number NotGiven = 26

-- the name that is printed
abbrev pub refusal_name : PlanRefusal → List ℕ
refusal_name NotDeclared = codes "NotDeclared"
refusal_name RingFull = codes "RingFull"
refusal_name BadDescriptor = codes "BadDescriptor"
refusal_name NotInProfile = codes "NotInProfile"
refusal_name NotGiven = codes "NotGiven"

-- what is wrong with the blocks as a descriptor
abbrev pub of_descriptor : Fault → PlanRefusal
of_descriptor NoDescriptor = BadDescriptor
of_descriptor LeftOut = NotInProfile

-- why the blocks were not enqueued
abbrev pub stop_of : EnqueueFault → LineStop
stop_of Full = Refused RingFull
stop_of Bad = Refused BadDescriptor
stop_of Outside = Refused NotInProfile
stop_of NoMemory = Memory

-- what a refusal says; want of memory says nothing
abbrev pub IfStopped : LineStop → (PlanRefusal → Type 0) → Type 0
IfStopped (Refused r) P = P r
IfStopped Memory P = Unit {0}

-- a refused line of a plan, by its number
abbrev pub IfRefusedLine : PlanFault → (ℕ → PlanRefusal → Type 0) → Type 0
IfRefusedLine (Line line fault) P = Unit {0}
IfRefusedLine (RefusedLine line r) P = P line r
IfRefusedLine NoPlanMemory P = Unit {0}

-- a fault of following the plan, and not of its text
abbrev pub IsNoTextFault : PlanFault → Type 0
IsNoTextFault (Line line fault) = ⊥
IsNoTextFault (RefusedLine line r) = Unit {0}
IsNoTextFault NoPlanMemory = Unit {0}

-- a bad line of a plan's text, by its number
abbrev pub IfBadPlanLine : PlanFault → (ℕ → LineFault → Type 0) → Type 0
IfBadPlanLine (Line line fault) P = P line fault
IfBadPlanLine (RefusedLine line r) P = Unit {0}
IfBadPlanLine NoPlanMemory P = Unit {0}

-- a fault of the plan's text
abbrev pub text_fault : ReadFault → PlanFault
text_fault (BadLine line code) = Line line code
text_fault NoText = NoPlanMemory
