-- What is right to answer to the text of a trace, and to write where its certificate goes
use Rattle.std.specs.Prelude.{◌≡◌, ◌⊎◌, ℕ, Bool, false, List, length, Option, None}
use Rattle.trace_reader.specs.TraceOfText.{TraceText}
use Rattle.ring_knowledge.specs.declared.lease.Lease.{Lease}
use Rattle.ownership_checker.specs.RingPasses.Accepted.{IsAccepted, IsSound}
use Rattle.ownership_checker.specs.declared.fault.StreamCheckFault.{StreamCheckFault}
use Rattle.ownership_checker.specs.declared.fault.StreamCheckFault.TheVariants.{Refused as RefusedRow, Unread}
use Rattle.answers.specs.Answers.{answer_of_stream_fault}
use Rattle.answers.specs.Keeping.{IsKept, IsKeptInPart}
use Rattle.answers.specs.declared.answer.Answer.{Answer}
use Rattle.answers.specs.declared.answer.Answer.TheVariants.{Accepted, Refused, HarmShown, BadLine, Memory, Device}
use Rattle.command_runs.specs.HarmAnswers.{IsRefusalTold}
use Rattle.command_runs.specs.TraceTexts.{IsFirstBad, IsTextOf}

-- of the certificate of an accepted trace no more than a beginning was written
abbrev pub IsCutShort : {C : Type 0} → (C → Option (List ℕ)) → Option C → Option C → TraceText → Type 0
IsCutShort contents before after trace = (leases : List Lease) × IsAccepted trace leases × IsKeptInPart contents before after leases

-- an answer is right of a trace that was read, and so is what was done where its certificate goes: how many leases it has, where no
-- row breaks a rule, and then these were kept whole, a walk after any row reads what was declared, and no run of the controller's
-- model beside the rows does harm; or its first row that breaks a rule, and the least rule that it breaks, with a run that does harm where that
-- was asked for, and then nothing was kept
abbrev pub IsVerdict : {C : Type 0} → Bool → (C → Option (List ℕ)) → Option C → Option C → Answer → TraceText → Type 0
IsVerdict shows contents before after (Accepted count) trace = (leases : List Lease) × IsSound trace leases × (count ≡ length leases) × IsKept contents before after leases
IsVerdict shows contents before after (Refused row refusal) trace = IsRefusalTold shows trace (Refused row refusal) × (after ≡ before)
IsVerdict shows contents before after (HarmShown row refusal harm) trace = IsRefusalTold shows trace (HarmShown row refusal harm) × (after ≡ before)
IsVerdict shows contents before after Memory trace = after ≡ before
IsVerdict shows contents before after _ trace = ⊥

-- where memory or the device failed nothing was kept, or the input holds a trace that is accepted and a beginning of its
-- certificate was kept, which may be all of it
abbrev pub IsHindered : {C : Type 0} → Bool → (C → Option (List ℕ)) → Option C → Option C → Option (List ℕ) → Type 0
IsHindered keeps contents before after known = (after ≡ before) ⊎ ((trace : TraceText) × IsTextOf keeps known trace × IsCutShort contents before after trace)

-- an answer to an input is right, all rows of which are kept or not, and so is what was done where the certificate goes: the verdict on the trace that it holds; or
-- where it holds none its first bad line, and then nothing was kept; or that memory or the device failed
abbrev pub IsCheckAnswer : {C : Type 0} → Bool → Bool → (C → Option (List ℕ)) → Option C → Option C → Option (List ℕ) → Answer → Type 0
IsCheckAnswer keeps shows contents before after known (Accepted leases) = (trace : TraceText) × IsTextOf keeps known trace × IsVerdict shows contents before after (Accepted leases) trace
IsCheckAnswer keeps shows contents before after known (Refused row refusal) = (trace : TraceText) × IsTextOf keeps known trace × IsVerdict shows contents before after (Refused row refusal) trace
IsCheckAnswer keeps shows contents before after known (HarmShown row refusal harm) = (trace : TraceText) × IsTextOf keeps known trace × IsVerdict shows contents before after (HarmShown row refusal harm) trace
IsCheckAnswer keeps shows contents before after known (BadLine line fault) = IsFirstBad keeps known line fault × (after ≡ before)
IsCheckAnswer keeps shows contents before after known Memory = IsHindered keeps contents before after known
IsCheckAnswer keeps shows contents before after known Device = IsHindered keeps contents before after known
IsCheckAnswer keeps shows contents before after known _ = ⊥

-- what is answered where a trace isn't accepted, or none is read
abbrev pub answer_of_check_fault : StreamCheckFault → Answer
answer_of_check_fault (RefusedRow row refusal) = Refused row refusal
answer_of_check_fault (Unread fault) = answer_of_stream_fault fault

-- an answer to a trace is right where no certificate is asked for, and no run
abbrev pub IsVerdictAlone : TraceText → Answer → Type 0
IsVerdictAlone trace answer = IsVerdict {C = Unit {0}} false (λ _. None) None None answer trace
