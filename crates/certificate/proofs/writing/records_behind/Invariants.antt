use Rattle.certificate.proofs.Words.{◌≡◌, ◌≤◌, ◌+◌, ◌-◌, ◌*◌, ◌++◌, length, take, lease_bytes, flat_map}
use Rattle.certificate.proofs.writing.records_behind.Given as goal

-- there is room for the records that are left
abbrev pub invariant-loop-lease : goal.invariant-loop-lease
invariant-loop-lease l =
    (l.bytes.items ≡ l.front ++ flat_map lease_bytes (take l.lease-index l.leases)) × (length l.bytes.items + 24 * (length l.leases - l.lease-index) ≤ 4096)
