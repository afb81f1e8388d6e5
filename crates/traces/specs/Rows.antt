-- Rows and steps whose numbers fit the fields of their types
use Rattle.std.specs.Prelude.{◌≡◌, ◌≢◌, ◌<◌, ◌^◌, Bool, true, false, All, List, length}
use Rattle.std.proofs.Props.{props}
use Rattle.trb.specs.Block.{IsBlock}
use Rattle.segments.specs.Shape.{IsShape}
use Rattle.traces.specs.Register.{is_wide}
use Rattle.traces.specs.declared.ring.Ring.{Ring}
use Rattle.traces.specs.declared.row.Row.{Row}
use Rattle.traces.specs.declared.row.Row.TheVariants.{Sub, Write, Reg, Bell, Read, Ring as RingRow, Free as FreeRow, Nop as NopRow, RegRead}
use Rattle.traces.specs.declared.step.Step.{Step}
use Rattle.traces.specs.declared.step.Step.TheVariants.{NextRow, Look, Report, Finish, Other, Scribble, Halt}
use Rattle.traces.specs.Steps.{IsStep, IsWordAddress}

-- a ring that may come, by its line alone: it hasn't grown
pub record IsComing (r : Ring) : Type 0 where
  pub low : r.id < 256
  pub shape : IsShape r.shape
  pub unmoved : r.shape.offset ≡ 0

abbrev pub IsRow : Row → Type 0
IsRow (Sub ring blocks) = (ring < 256) × All IsBlock blocks
IsRow (Write at word) = IsWordAddress at × (word < 2 ^ 32)
IsRow (Reg register value) = value < 2 ^ 64
IsRow (Bell slot target) = (slot < 256) × (target < 256)
IsRow (Read event) = IsBlock event
IsRow (RingRow ring) = IsComing ring
IsRow (FreeRow ring) = ring < 256
IsRow (NopRow ring position) = (ring < 256) × (position < 2 ^ 64)
IsRow (RegRead register value) = value < 2 ^ 64

-- a ring comes or goes, or a descriptor is withdrawn: no word, register or doorbell is written by the row, and no event read
abbrev pub is_ring_row : Row → Bool
is_ring_row (RingRow ring) = true
is_ring_row (FreeRow ring) = true
is_ring_row (NopRow ring position) = true
is_ring_row row = false

-- what a row's line can say: a declaration has a block at least, and a register of 32 bits a value of 32
abbrev pub FitsLine : Row → Type 0
FitsLine (Sub ring blocks) = 0 < length blocks
FitsLine (Reg register value) = is_wide register ≢ true → value < 2 ^ 32
FitsLine (RegRead register value) = is_wide register ≢ true → value < 2 ^ 32
FitsLine row = Unit {0}

-- each is one fact
pub row_is_fact : (row : Row) → IsProp (IsRow row)
row_is_fact (Sub ring blocks) = hlevel props
row_is_fact row = hlevel props

pub line_is_fact : (row : Row) → IsProp (FitsLine row)
line_is_fact (Sub ring blocks) = hlevel props
line_is_fact row = hlevel props

-- each is one fact
pub step_is_fact : (step : Step) → IsProp (IsStep step)
step_is_fact NextRow = hlevel props
step_is_fact (Look ring) = hlevel props
step_is_fact (Report event) = hlevel props
step_is_fact (Finish event) = hlevel props
step_is_fact (Other event) = hlevel props
step_is_fact (Scribble at word) = hlevel props
step_is_fact Halt = hlevel props

abbrev pub AreSteps : List Step → Type 0
AreSteps steps = All IsStep steps

pub steps_are_fact : (steps : List Step) → IsProp (AreSteps steps)
steps_are_fact steps = hlevel (props, step_is_fact)
