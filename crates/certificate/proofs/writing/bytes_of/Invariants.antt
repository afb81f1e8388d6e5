use Rattle.certificate.proofs.Words.{◌≡◌, ◌++◌, take, lease_bytes, magic, flat_map}
use Rattle.certificate.proofs.writing.bytes_of.Given as goal

abbrev pub invariant-loop-lease : goal.invariant-loop-lease
invariant-loop-lease l = l.bytes.items ≡ magic ++ flat_map lease_bytes (take l.lease-index l.leases)
