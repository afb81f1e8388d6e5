-- The text of each answer, how the program ends on it, and what is right to answer to the words of a block
use Rattle.std.specs.Prelude.{◌≡◌, ℕ, List, [], ◌∷◌, ◌++◌, Bool, true, false, if◌then◌else◌, Option, Some, None, codes, decimal, nat_lt}
use Rattle.std.specs.declared.io.ErrorKind.{ErrorKind}
use Rattle.std.specs.declared.io.ErrorKind.TheVariants.{OutOfMemory as NoMemory}
use Rattle.ownership_rules.specs.Refusal as rules
use Rattle.ownership_rules.specs.RuleNames as rule_names
use Rattle.ownership_rules.specs.declared.refusal.Refusal.{Refusal}
use Rattle.rule_pages.specs.Subjects as subjects
use Rattle.rule_pages.specs.declared.subject.Subject.{Subject}
use Rattle.rule_pages.specs.declared.subject.Subject.TheVariants.{Harm}
use Rattle.trace_reader.specs.Faults.{fault_number, fault_name}
use Rattle.trace_reader.specs.Values.{block_of}
use Rattle.trace_reader.specs.declared.fault.ReadFault.{ReadFault}
use Rattle.trace_reader.specs.declared.fault.ReadFault.TheVariants.{Line, Memory as OutOfMemory}
use Rattle.trace_reader.specs.declared.row_reader.fault.StreamFault.{StreamFault}
use Rattle.trace_reader.specs.declared.row_reader.fault.StreamFault.TheVariants.{Line as BadStreamLine, Device as NoStreamDevice, Memory as NoStreamMemory}
use Rattle.certificate.specs.Spelling.{cert_fault_number, cert_fault_name}
use Rattle.certificate.specs.declared.fault.CertFault.{CertFault}
use Rattle.certificate.specs.declared.fault.CertFault.TheVariants.{Memory as NoLeaseMemory}
use Rattle.plan_writer.specs.PlanRefusals.{refusal_number, refusal_name}
use Rattle.plan_writer.specs.declared.fault.PlanFault.{PlanFault}
use Rattle.plan_writer.specs.declared.fault.PlanFault.TheVariants.{Line as BadPlanLine, Refused as RefusedLine, Memory as NoPlanMemory}
use Rattle.block_text.specs.Decoding.{decoded_text}
use Rattle.answers.specs.Replays.{end_status, replay_text}
use Rattle.answers.specs.declared.answer.FoundHarm.{FoundHarm}
use Rattle.answers.specs.declared.answer.Answer.{Answer}
use Rattle.answers.specs.declared.answer.Answer.TheVariants.{Accepted, Written, Decoded, Replayed, Verified, Scheduled, Explained, Shown, Refused, HarmShown, Unfollowed, BadLine, BadWord, BadCertificate, NoRow, Memory, Device}
use Rattle.answers.specs.declared.answer.Status.{Status}
use Rattle.answers.specs.declared.answer.Status.TheVariants.{Clean, Unclean, Unreadable, Unanswered}

-- the status that goes with an answer
abbrev pub status_of : Answer → Status
status_of (Accepted leases) = Clean
status_of (Written trace) = Clean
status_of (Decoded block) = Clean
status_of (Replayed seen ending) = end_status ending
status_of (Verified holds) = if holds then Clean else Unclean
status_of (Scheduled schedule) = Clean
status_of (Explained subject page) = Clean
status_of (Shown page) = Clean
status_of (Refused row refusal) = Unclean
status_of (HarmShown row refusal harm) = Unclean
status_of (Unfollowed line refusal) = Unclean
status_of (BadLine line fault) = Unreadable
status_of BadWord = Unreadable
status_of (BadCertificate fault) = Unreadable
status_of (NoRow first last) = Unreadable
status_of Memory = Unanswered
status_of Device = Unanswered

-- the number of a status
abbrev pub exit_number : Status → ℕ
exit_number Clean = 0
exit_number Unclean = 1
exit_number Unreadable = 2
exit_number Unanswered = 3

-- an answer of this status goes to standard output; of another one to standard error
abbrev pub goes_out : Status → Bool
goes_out Clean = true
goes_out Unclean = true
goes_out Unreadable = false
goes_out Unanswered = false

-- a row breaks a rule
abbrev pub is_refused : Answer → Bool
is_refused (Refused row refusal) = true
is_refused (HarmShown row refusal harm) = true
is_refused _ = false

abbrev pub memory_line : List ℕ
memory_line = codes "xhcitrace: 30 Memory\n"

abbrev pub device_line : List ℕ
device_line = codes "xhcitrace: 31 Device\n"

-- a page behind a number and a name
abbrev pub numbered_page : ℕ → List ℕ → List ℕ → List ℕ
numbered_page number name page = decimal number ++ (codes " " ++ (name ++ (codes ": " ++ page)))

-- a page: its number and name stand before it; on a harm the word and the number, as they are printed
abbrev pub page_text : Subject → List ℕ → List ℕ
page_text (Harm harm) page = subjects.name_of (Harm harm) ++ codes ": " ++ page
page_text subject page = numbered_page (subjects.number_of subject) (subjects.name_of subject) page

-- which rows may be asked for
abbrev pub range_text : ℕ → ℕ → List ℕ
range_text first last =
    if nat_lt last first then codes "xhcitrace: no such row: the trace has none"
    else codes "xhcitrace: no such row: " ++ decimal first ++ codes " to " ++ decimal last ++ codes " can be shown"

-- a row that breaks a rule, and the rule
abbrev pub refused_text : ℕ → Refusal → List ℕ
refused_text row refusal = codes "row " ++ decimal row ++ codes ": " ++ decimal (rules.number_of refusal) ++ codes " " ++ rule_names.name_of refusal ++ 10 ∷ []

-- the schedule of a run that does harm, or that none was found
abbrev pub harm_text : Option FoundHarm → List ℕ
harm_text (Some found) = found.schedule.items
harm_text None = codes "no harmful schedule found\n"

-- the text of an answer, its line feed too
abbrev pub text_of : Answer → List ℕ
text_of (Accepted leases) = codes "accepted: " ++ decimal leases ++ codes " leases" ++ 10 ∷ []
text_of (Written trace) = trace.items
text_of (Decoded block) = decoded_text block ++ 10 ∷ []
text_of (Replayed seen ending) = replay_text seen.items ending
text_of (Verified holds) = if holds then codes "yes\n" else codes "no\n"
text_of (Scheduled schedule) = schedule.items
text_of (Explained subject page) = page_text subject page.now
text_of (Shown page) = page.items
text_of (Refused row refusal) = refused_text row refusal
text_of (HarmShown row refusal harm) = refused_text row refusal ++ harm_text harm
text_of (Unfollowed line refusal) = codes "line " ++ decimal line ++ codes ": " ++ decimal (refusal_number refusal) ++ codes " " ++ refusal_name refusal ++ 10 ∷ []
text_of (BadLine line fault) = codes "xhcitrace: line " ++ decimal line ++ codes ": " ++ decimal (fault_number fault) ++ codes " " ++ fault_name fault ++ 10 ∷ []
text_of BadWord = codes "xhcitrace: 3 Number\n"
text_of (BadCertificate fault) = codes "xhcitrace: " ++ decimal (cert_fault_number fault) ++ codes " " ++ cert_fault_name fault ++ 10 ∷ []
text_of (NoRow first last) = range_text first last ++ 10 ∷ []
text_of Memory = memory_line
text_of Device = device_line

-- what of an answer goes to standard output, and what to standard error
abbrev pub out_text : Answer → List ℕ
out_text answer = if goes_out (status_of answer) then text_of answer else []

abbrev pub err_text : Answer → List ℕ
err_text answer = if goes_out (status_of answer) then [] else text_of answer

-- what is answered where no trace is read
abbrev pub answer_of_fault : ReadFault → Answer
answer_of_fault (Line line fault) = BadLine line fault
answer_of_fault OutOfMemory = Memory

-- what is answered where no row is read any more
abbrev pub answer_of_stream_fault : StreamFault → Answer
answer_of_stream_fault (BadStreamLine line fault) = BadLine line fault
answer_of_stream_fault NoStreamDevice = Device
answer_of_stream_fault NoStreamMemory = Memory

-- what is answered where a plan isn't written
abbrev pub answer_of_plan_fault : PlanFault → Answer
answer_of_plan_fault (BadPlanLine line fault) = BadLine line fault
answer_of_plan_fault (RefusedLine line refusal) = Unfollowed line refusal
answer_of_plan_fault NoPlanMemory = Memory

-- what is answered where bytes are no certificate
abbrev pub answer_of_cert_fault : CertFault → Answer
answer_of_cert_fault NoLeaseMemory = Memory
answer_of_cert_fault fault = BadCertificate fault

-- what is answered where a file can't be opened or read: want of memory is told as such, each other kind of error as the device's
abbrev pub answer_of_kind : ErrorKind → Answer
answer_of_kind NoMemory = Memory
answer_of_kind _ = Device

-- an answer to the question for a page is right: the page on that; or memory failed
abbrev pub IsPageAnswer : Subject → Answer → Type 0
IsPageAnswer subject (Explained explained page) = explained ≡ subject
IsPageAnswer subject Memory = Unit {0}
IsPageAnswer subject _ = ⊥

-- an answer to four words is right: the block that they spell, or that one of them is no word; or that memory or the device failed
abbrev pub IsBlockAnswer : List ℕ → List ℕ → List ℕ → List ℕ → Answer → Type 0
IsBlockAnswer a b c d (Decoded block) = block_of a b c d ≡ Some block
IsBlockAnswer a b c d BadWord = block_of a b c d ≡ None
IsBlockAnswer a b c d Memory = Unit {0}
IsBlockAnswer a b c d Device = Unit {0}
IsBlockAnswer a b c d _ = ⊥
