-- What a completion does to the world by the command under way, before it is posted and that command ends
use Rattle.std.specs.Prelude.{◌==◌, ◌&&◌, if◌then◌else◌, Option, Some, None, Result, Ok, Err}
use Rattle.trb.specs.declared.block.Block.{Block}
use Rattle.trb.specs.Block.{pointer, code, slot}
use Rattle.commands.specs.Command.{command_of, may_answer_slot}
use Rattle.traces.specs.declared.header.Header.{Header}
use Rattle.world_state.specs.World.{World, UnderWay}
use Rattle.controller_model.specs.declared.fault.StepFault.{StepFault}
use Rattle.controller_model.specs.declared.fault.StepFault.TheVariants.{NotPossible, Spent, Memory}
use Rattle.world_state.specs.Finishes.{succeeded}

-- with code 1 the command's effect; after a Stopped event no other code; other codes change nothing
abbrev pub completed_with : Header → World → Block → UnderWay → Option World
completed_with h w b u =
    if code b == 1 then succeeded h w (slot b) (command_of u.block)
    else if u.has_stopped then None else Some w

-- the event names the command under way, and a slot that it may answer
abbrev pub completed : Header → World → Block → Option UnderWay → Option World
completed h w b None = None
completed h w b (Some u) =
    if pointer b == u.address && may_answer_slot (command_of u.block) (slot b) then completed_with h w b u else None

-- an answer to a part of a step that the definitions allow as told: it leads to a world of which P holds; want of memory may come
-- at any step, and tells nothing
abbrev pub IsPart : {A : Type 0} → Result A StepFault → Option World → (World → Type 0) → Type 0
IsPart (Ok x) None P = ⊥
IsPart (Ok x) (Some w) P = P w
IsPart (Err NotPossible) None P = Unit {0}
IsPart (Err NotPossible) (Some w) P = ⊥
IsPart (Err Memory) o P = Unit {0}
IsPart (Err Spent) o P = ⊥
