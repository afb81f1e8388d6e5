-- That the answer to a trace and a schedule is right
use Rattle.command_runs.proofs.Words.{Answer, IfSome, IsReplayBeside, IsReplayed, List, Memory, None, Ok, Option, Schedule, Some, TraceText, schedule_of, subst, ℕ, ◌≡◌, BadLine, Replayed}

pub beside_right : (trace : TraceText) (schedule : Schedule) (text : List ℕ) (a : Answer) → schedule_of text ≡ Ok schedule.steps → IsReplayed trace schedule a →
    IsReplayBeside trace (Some text) a
beside_right trace schedule text (Replayed seen ending) read right = (schedule, read, right)
beside_right trace schedule text Memory read right = tt
beside_right trace schedule text _ read right = absurd right

forget_beside : (trace : TraceText) (text : List ℕ) (a : Answer) → IsReplayBeside trace (Some text) a → IsReplayBeside trace None a
forget_beside trace text (Replayed seen ending) right = (right.0, tt, right.2)
forget_beside trace text (BadLine line fault) right = tt
forget_beside trace text _ right = right

-- what is right of the bytes that were read is right of the input
pub beside_held : (trace : TraceText) (known : Option (List ℕ)) (text : List ℕ) (a : Answer) → IfSome known (λ xs. text ≡ xs) → IsReplayBeside trace (Some text) a →
    IsReplayBeside trace known a
beside_held trace None text a same right = forget_beside trace text a right
beside_held trace (Some xs) text a same right = subst (λ (l : List ℕ). IsReplayBeside trace (Some l) a) same right
