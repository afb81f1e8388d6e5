-- Records that are read piece by piece, and what shows that bytes are no certificate
use Rattle.std.specs.Prelude.{◌≡◌, ℕ, [], ◌∷◌, ◌+◌, ◌/◌, List, Option, Some, None, Err, length, take, drop, if◌then◌else◌}
use Rattle.ring_knowledge.specs.declared.lease.Lease.{Lease}
use Rattle.certificate.specs.Spelling.{certificate_of, has_lease_fields, leases_in, records_of}
use Rattle.certificate.specs.declared.fault.CertFault.{CertFault}
use Rattle.certificate.specs.declared.fault.CertFault.TheVariants.{Magic, Length, Field}
use Rattle.certificate.specs.declared.no_certificate.BadLease.{BadLease}
use Rattle.certificate.specs.declared.no_certificate.NoCertificate.{NoCertificate}
use Rattle.certificate.specs.declared.no_certificate.NoCertificate.TheVariants.{Magic as OtherMagic, Length as OtherLength, Field as OtherField}
use Rattle.certificate.specs.declared.no_certificate.Unread.{Unread}
use Rattle.certificate.specs.declared.no_certificate.Unread.TheVariants.{Bytes, Failed}
use Rattle.certificate.specs.declared.records_so_far.Records.{Records}

-- the first of some leases that has a field that no lease has, with its number, where they are numbered from this one on
unfoldable pub first_bad : ℕ → List Lease → Option BadLease
first_bad number [] = None
first_bad number (lease ∷ later) = if has_lease_fields lease then first_bad (number + 1) later else Some (record { number = number; lease = lease })

-- the leases of the records so far, up to the first that is none
abbrev pub AreSeen : Records → List Lease → Type 0
AreSeen records seen = (first_bad 1 seen ≡ records.bad) × (records.bad ≡ None → records.leases.items ≡ seen)

-- ---- what shows that bytes are no certificate

abbrev pub fault_of : NoCertificate → CertFault
fault_of (OtherMagic first count) = Magic
fault_of (OtherLength behind) = Length
fault_of (OtherField bad) = Field

-- of what stands behind the bytes that name the format: how many they are, or the first lease that is none
abbrev pub IsShownBehind : List ℕ → NoCertificate → Type 0
IsShownBehind records (OtherMagic first count) = ⊥
IsShownBehind records (OtherLength behind) = behind ≡ length records
IsShownBehind records (OtherField bad) = first_bad 1 (leases_in records (length records / 24)) ≡ Some bad

-- the first bytes, at most 8, or what is shown of those behind them
abbrev pub IsShown : List ℕ → NoCertificate → Type 0
IsShown bytes (OtherMagic first count) = (take count first ≡ take 8 bytes) × (count ≡ length (take 8 bytes))
IsShown bytes why = IsShownBehind (drop 8 bytes) why

-- the reader failed, or memory was wanted
abbrev pub IsFailed : Unread → Type 0
IsFailed (Bytes why) = ⊥
IsFailed (Failed error) = Unit {0}

-- why bytes weren't read as leases: their least fault, with what shows it, or the reader failed
abbrev pub IsUnread : List ℕ → Unread → Type 0
IsUnread bytes (Bytes why) = (certificate_of bytes ≡ Err (fault_of why)) × IsShown bytes why
IsUnread bytes (Failed error) = Unit {0}

-- the same of records
abbrev pub AreUnread : List ℕ → Unread → Type 0
AreUnread records (Bytes why) = (records_of records ≡ Err (fault_of why)) × IsShownBehind records why
AreUnread records (Failed error) = Unit {0}
