-- A step of the controller whose numbers fit the fields of its type, and the address of a word
use Rattle.std.specs.Prelude.{◌≡◌, ℕ, ◌%◌, ◌<◌, ◌^◌}
use Rattle.trb.specs.Block.{IsBlock}
use Rattle.traces.specs.declared.step.Step.{Step}
use Rattle.traces.specs.declared.step.Step.TheVariants.{NextRow, Look, Report, Finish, Other, Scribble, Halt}

-- the address of a word
abbrev pub IsWordAddress : ℕ → Type 0
IsWordAddress a = (a % 4 ≡ 0) × (a < 2 ^ 64)

abbrev pub IsStep : Step → Type 0
IsStep NextRow = Unit {0}
IsStep (Look ring) = ring < 256
IsStep (Report event) = IsBlock event
IsStep (Finish event) = IsBlock event
IsStep (Other event) = IsBlock event
IsStep (Scribble at word) = IsWordAddress at × (word < 2 ^ 32)
IsStep Halt = Unit {0}
