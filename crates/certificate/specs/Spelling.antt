-- A certificate as bytes: 8 bytes that name the format, then a record of 24 bytes a lease, little-endian
use Rattle.std.specs.Prelude.{◌≡◌, ℕ, zero, suc, [], ◌∷◌, ◌/◌, ◌%◌, ◌==◌, ◌&&◌, ◌||◌, ◌<◌, ◌^◌, ◌++◌, Bool, true, not, List, length, take, drop, nat_lt, nat_le, codes, Result, Ok, Err, if◌then◌else◌}
use Rattle.std.specs.List.{flat_map, list_all}
use Rattle.std.specs.Str.{bytes_eq}
use Rattle.byteorder.specs.Endian.{little_bytes, little_number}
use Rattle.ring_knowledge.specs.declared.lease.Lease.{Lease}
use Rattle.certificate.specs.declared.fault.CertFault.{CertFault}
use Rattle.certificate.specs.declared.fault.CertFault.TheVariants.{Magic, Length, Field, Memory}

-- the number and the name that are printed
abbrev pub cert_fault_number : CertFault → ℕ
cert_fault_number Magic = 6
cert_fault_number Length = 7
cert_fault_number Field = 8
cert_fault_number Memory = 30

abbrev pub cert_fault_name : CertFault → List ℕ
cert_fault_name Magic = codes "Magic"
cert_fault_name Length = codes "Length"
cert_fault_name Field = codes "Field"
cert_fault_name Memory = codes "Memory"

abbrev pub magic : List ℕ
magic = codes "XHCICRT1"

-- ---- how leases are spelled

-- a record: kind, ring, position, first and last row
unfoldable pub lease_bytes : Lease → List ℕ
lease_bytes l = little_bytes 4 l.kind ++ little_bytes 4 l.ring ++ little_bytes 8 l.pos ++ little_bytes 4 l.from ++ little_bytes 4 l.to

-- the bytes of a list of leases
abbrev pub spelling : List Lease → List ℕ
spelling leases = magic ++ flat_map lease_bytes leases

-- ---- how they are read

-- the lease in the first 24 bytes
unfoldable pub lease_in : List ℕ → Lease
lease_in bytes = record {
  kind = little_number 4 bytes;
  ring = little_number 4 (drop 4 bytes);
  pos = little_number 8 (drop 8 bytes);
  from = little_number 4 (drop 16 bytes);
  to = little_number 4 (drop 20 bytes);
}

-- the leases in the first n records
unfoldable pub leases_in : List ℕ → ℕ → List Lease
leases_in bytes zero = []
leases_in bytes (suc n) = lease_in bytes ∷ leases_in (drop 24 bytes) n

-- a kind that there is, a ring's ID where the lease names a ring, and at least one row within
abbrev pub has_lease_fields : Lease → Bool
has_lease_fields l = nat_le l.kind 2 && (l.kind == 2 || nat_le l.ring 255) && nat_lt l.from l.to

unfoldable pub records_of : List ℕ → Result (List Lease) CertFault
records_of records =
    if not (length records % 24 == 0) then Err Length
    else if list_all has_lease_fields (leases_in records (length records / 24)) then Ok (leases_in records (length records / 24))
    else Err Field

-- the leases that bytes spell, or the least fault
unfoldable pub certificate_of : List ℕ → Result (List Lease) CertFault
certificate_of bytes = if bytes_eq (take 8 bytes) magic then records_of (drop 8 bytes) else Err Magic

-- what memory holds of a lease
pub record FitsLease (l : Lease) : Type 0 where
  pub kind : l.kind < 2 ^ 32
  pub ring : l.ring < 2 ^ 32
  pub pos : l.pos < 2 ^ 64
  pub from : l.from < 2 ^ 32
  pub to : l.to < 2 ^ 32
  pub fields : has_lease_fields l ≡ true
