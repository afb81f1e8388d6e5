-- What is right to answer to a trace that is judged as it comes
use Rattle.std.specs.Prelude.{◌≡◌, ℕ, List, Option, None, Some, Ok, Err, false}
use Rattle.ownership_checker.specs.Following.{ToldSoFar, told_as_it_comes}
use Rattle.answers.specs.declared.answer.Answer.{Answer}
use Rattle.answers.specs.declared.answer.Answer.TheVariants.{Accepted, Refused, BadLine, Memory, Device}
use Rattle.command_runs.specs.CheckAnswers.{IsVerdictAlone}
use Rattle.command_runs.specs.TraceTexts.{IsFirstBad, IsTraceAnswer}

-- this is told of the known bytes of an input as they come; of bytes that aren't known nothing is said
abbrev pub IsToldOfBytes : Option (List ℕ) → ToldSoFar → Type 0
IsToldOfBytes None told = Unit {0}
IsToldOfBytes (Some bytes) told = told_as_it_comes false bytes ≡ told

-- an answer is right: the first row that breaks a rule, and the least of these, where no line before it is bad, whatever stands behind it; the first
-- bad line, where no row before it breaks a rule; of a trace that is accepted what is right of any; or that memory or the device failed
abbrev pub IsFollowAnswer : Option (List ℕ) → Answer → Type 0
IsFollowAnswer known (Accepted count) = IsTraceAnswer false IsVerdictAlone known (Accepted count)
IsFollowAnswer known (Refused row refusal) = IsToldOfBytes known (Ok (Some (row, refusal)))
IsFollowAnswer known (BadLine line fault) = IsFirstBad false known line fault × IsToldOfBytes known (Err (line, fault))
IsFollowAnswer known Memory = Unit {0}
IsFollowAnswer known Device = Unit {0}
IsFollowAnswer known _ = ⊥
