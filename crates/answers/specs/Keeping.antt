-- How the certificate of an accepted trace is kept, where one is asked for
use Rattle.std.specs.Prelude.{ℕ, List, Option, Some, None}
use Rattle.std.specs.Io.KnownBytes.{Appends}
use Rattle.certificate.specs.Spelling.{spelling}
use Rattle.ring_knowledge.specs.declared.lease.Lease.{Lease}
use Rattle.answers.specs.Telling.{Begins}

-- the bytes that stand where a certificate goes, where one is asked for and they are known
abbrev pub kept_bytes : {C : Type 0} → (C → Option (List ℕ)) → Option C → Option (List ℕ)
kept_bytes contents None = None
kept_bytes contents (Some writer) = contents writer

-- the certificate of these leases was written whole
abbrev pub IsKept : {C : Type 0} → (C → Option (List ℕ)) → Option C → Option C → List Lease → Type 0
IsKept contents before after leases = Appends (kept_bytes contents before) (kept_bytes contents after) (spelling leases)

-- a beginning of the certificate of these leases was written, which may be all of it or nothing
abbrev pub IsKeptInPart : {C : Type 0} → (C → Option (List ℕ)) → Option C → Option C → List Lease → Type 0
IsKeptInPart contents before after leases = Begins (kept_bytes contents before) (kept_bytes contents after) (spelling leases)
