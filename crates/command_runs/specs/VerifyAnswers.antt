-- What is right to answer to the bytes of a certificate and the text of a trace
use Rattle.std.specs.Prelude.{false, ◌≡◌, ◌≢◌, ◌⊎◌, ℕ, List, Option, Some, None, Ok, Err}
use Rattle.trace_reader.specs.TraceOfText.{TraceText}
use Rattle.ring_knowledge.specs.declared.lease.Lease.{Lease}
use Rattle.certificate.specs.Pieces.{IsUnread}
use Rattle.certificate.specs.Spelling.{certificate_of}
use Rattle.certificate.specs.declared.no_certificate.Unread.{Unread}
use Rattle.certificate.specs.declared.fault.CertFault.{CertFault}
use Rattle.certificate.specs.declared.fault.CertFault.TheVariants.{Memory as NoLeaseMemory}
pub use Rattle.ownership_checker.specs.RingPasses.Accepted.{IsVerified}
use Rattle.answers.specs.declared.answer.Answer.{Answer}
use Rattle.answers.specs.declared.answer.Answer.TheVariants.{Verified, BadCertificate, Memory, Device}
use Rattle.command_runs.specs.TraceTexts.{IsTraceAnswer}

-- the known bytes of an input spell the leases; of bytes that aren't known nothing is said
abbrev pub IsCertificateOf : Option (List ℕ) → List Lease → Type 0
IsCertificateOf None leases = Unit {0}
IsCertificateOf (Some bytes) leases = certificate_of bytes ≡ Ok leases

-- why the known bytes of an input weren't read as leases; of bytes that aren't known nothing is said
abbrev pub IsNoCertificate : Option (List ℕ) → Unread → Type 0
IsNoCertificate None unread = Unit {0}
IsNoCertificate (Some bytes) unread = IsUnread bytes unread

-- the least fault of the known bytes of an input, which are no certificate
abbrev pub IsLeastFault : Option (List ℕ) → CertFault → Type 0
IsLeastFault None fault = Unit {0}
IsLeastFault (Some bytes) fault = certificate_of bytes ≡ Err fault

-- what is right to answer where no certificate is read: the least fault of its bytes, or that memory or the device failed
abbrev pub IsUncertified : Option (List ℕ) → Answer → Type 0
IsUncertified bytes (BadCertificate fault) = IsLeastFault bytes fault × (fault ≢ NoLeaseMemory)
IsUncertified bytes Memory = Unit {0}
IsUncertified bytes Device = Unit {0}
IsUncertified bytes _ = ⊥

-- what is right to answer to leases beside a trace: yes or no, or that memory was wanted
abbrev pub IsVerdictOn : List Lease → TraceText → Answer → Type 0
IsVerdictOn leases trace (Verified holds) = IsVerified trace leases holds
IsVerdictOn leases trace Memory = Unit {0}
IsVerdictOn leases trace _ = ⊥

-- what is right to answer to leases beside the text of a trace
abbrev pub IsVerdictBeside : List Lease → Option (List ℕ) → Answer → Type 0
IsVerdictBeside leases rows answer = IsTraceAnswer false (IsVerdictOn leases) rows answer

-- what is right to answer to the bytes of a certificate, which is read first, and the text of a trace
abbrev pub IsVerifyAnswer : Option (List ℕ) → Option (List ℕ) → Answer → Type 0
IsVerifyAnswer bytes rows answer = IsUncertified bytes answer ⊎ ((leases : List Lease) × IsCertificateOf bytes leases × IsVerdictBeside leases rows answer)
