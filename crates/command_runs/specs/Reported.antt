-- What a report says of an answer
use Rattle.std.specs.Prelude.{ℕ, true, false, Option, None, Some, option_map}
use Rattle.certificate.specs.declared.fault.CertFault.TheVariants as certs
use Rattle.rule_pages.specs.declared.subject.Subject.{Subject}
use Rattle.rule_pages.specs.declared.subject.Subject.TheVariants.{Rule, Line, Certificate, Device as DeviceFailed}
use Rattle.reports.specs.declared.outcome.Cause.{Cause}
use Rattle.reports.specs.declared.outcome.Cause.TheVariants as causes
use Rattle.reports.specs.declared.outcome.Verdict.{Verdict}
use Rattle.reports.specs.declared.outcome.Verdict.TheVariants as verdicts
use Rattle.answers.specs.declared.replay_lines.ReplayEnd.{ReplayEnd}
use Rattle.answers.specs.declared.replay_lines.ReplayEnd.TheVariants as ends
use Rattle.answers.specs.declared.answer.Answer.{Answer}
use Rattle.answers.specs.declared.answer.Answer.TheVariants.{Accepted, Written, Decoded, Replayed, Verified, Scheduled, Explained, Shown, Refused, HarmShown, Unfollowed, BadLine, BadWord, BadCertificate, NoRow, Memory, Device}
use Rattle.command_runs.specs.declared.told.RefusedRow.{RefusedRow}

abbrev pub verdict_of_end : ReplayEnd → Verdict
verdict_of_end ends.NoHarm = verdicts.NoHarm
verdict_of_end (ends.Harmful step harm) = verdicts.Harm
verdict_of_end (ends.NotPossible step) = verdicts.NotPossible

-- what is answered, in a word
abbrev pub verdict_of : Answer → Verdict
verdict_of (Accepted leases) = verdicts.Accepted
verdict_of (Written trace) = verdicts.Written
verdict_of (Decoded block) = verdicts.Written
verdict_of (Scheduled schedule) = verdicts.Written
verdict_of (Replayed seen ending) = verdict_of_end ending
verdict_of (Verified true) = verdicts.Yes
verdict_of (Verified false) = verdicts.No
verdict_of (Explained subject page) = verdicts.Explained
verdict_of (Shown page) = verdicts.Shown
verdict_of (Refused row refusal) = verdicts.Refused
verdict_of (HarmShown row refusal harm) = verdicts.Refused
verdict_of (Unfollowed line refusal) = verdicts.Refused
verdict_of (BadLine line fault) = verdicts.Unreadable
verdict_of BadWord = verdicts.Unreadable
verdict_of (BadCertificate fault) = verdicts.Unreadable
verdict_of (NoRow first last) = verdicts.Unreadable
verdict_of Memory = verdicts.Failed
verdict_of Device = verdicts.Failed

-- the row that an answer is about; of a certificate that isn't the trace's, the one that breaks a rule
abbrev pub row_of : Answer → Option RefusedRow → Option ℕ
row_of (Refused row refusal) refused = Some row
row_of (HarmShown row refusal harm) refused = Some row
row_of (BadLine line fault) refused = Some line
row_of (Verified false) refused = option_map (λ it. it.row) refused
row_of _ refused = None

-- what has the number that is printed
abbrev pub subject_of : Answer → Option RefusedRow → Option Subject
subject_of (Refused row refusal) refused = Some (Rule refusal)
subject_of (HarmShown row refusal harm) refused = Some (Rule refusal)
subject_of (BadLine line fault) refused = Some (Line fault)
subject_of (BadCertificate fault) refused = Some (Certificate fault)
subject_of Memory refused = Some (Certificate certs.Memory)
subject_of Device refused = Some DeviceFailed
subject_of (Verified false) refused = option_map (λ it. Rule it.refusal) refused
subject_of _ refused = None

-- why something isn't as it must be
abbrev pub class_of : Answer → Option RefusedRow → Option Cause
class_of (Refused row refusal) refused = option_map (λ it. it.class) refused
class_of (HarmShown row refusal harm) refused = option_map (λ it. it.class) refused
class_of (Verified false) refused = option_map (λ it. it.class) refused
class_of (BadLine line fault) refused = Some causes.Text
class_of (BadCertificate fault) refused = Some causes.Text
class_of (NoRow first last) refused = Some causes.Text
class_of Memory refused = Some causes.Memory
class_of Device refused = Some causes.Device
class_of _ refused = None
