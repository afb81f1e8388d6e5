use Rattle.trace_record.proofs.Laws.{rules}
use Rattle.ownership_rules.specs.Registers.{is_impossible_read, is_impossible_status}
use Rattle.trace_record.proofs.trace_record.TraceRecord.is_impossible_read.Goals as goal

pub returns-in-Usbsts : goal.returns-in-Usbsts
unfolding is_impossible_read is_impossible_status
returns-in-Usbsts c = λ h k f. rw c.in-Usbsts.is (c.is_impossible_status.ensures k f)

pub returns-in_default : goal.returns-in_default
unfolding is_impossible_read
returns-in_default c = λ h k f. search rules
