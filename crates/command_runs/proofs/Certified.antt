-- That what is right of the certificate that was read is right of its input
use Rattle.command_runs.proofs.Words.{Bytes, Field, IsNoCertificate, IsUncertified, Length, List, Magic, NoCertificate, NoLeaseMemory, None, OtherField, OtherLength, OtherMagic, Option, Some, answer_of_cert_fault, fault_of, ℕ, ◌≢◌}

-- of bytes that are no certificate their least fault is told
pub uncertified_right : (known : Option (List ℕ)) (why : NoCertificate) → IsNoCertificate known (Bytes why) → IsUncertified known (answer_of_cert_fault (fault_of why))
uncertified_right None (OtherMagic first count) bad = let other : Magic ≢ NoLeaseMemory = λ e. cc in (tt, other)
uncertified_right None (OtherLength behind) bad = let other : Length ≢ NoLeaseMemory = λ e. cc in (tt, other)
uncertified_right None (OtherField lease) bad = let other : Field ≢ NoLeaseMemory = λ e. cc in (tt, other)
uncertified_right (Some bytes) (OtherMagic first count) bad = let other : Magic ≢ NoLeaseMemory = λ e. cc in (bad.0, other)
uncertified_right (Some bytes) (OtherLength behind) bad = let other : Length ≢ NoLeaseMemory = λ e. cc in (bad.0, other)
uncertified_right (Some bytes) (OtherField lease) bad = let other : Field ≢ NoLeaseMemory = λ e. cc in (bad.0, other)
