-- What a followed list tells: whether it is the leases of what was and is lent
use Rattle.leases.proofs.BaseWords.{rules, ◌≡◌, ◌==◌, ◌&&◌, true, not, List, filter, length, map, eqb-true, eq-eqb, and_parts, length-map, Header, Lease, IndexTables, Lent, is_unended, lease_of, FollowedList, agree, is_endless, FollowsList}
use Rattle.leases.proofs.CertificateLogs.Whole.{own_agree, own_count, whole}

-- the list is that of what was lent where it agrees, has as many leases, and as many without an end
pub whole_tells : (ls : List Lease) (h : Header) (ts : List Lent) (list : FollowedList) (blocks links : IndexTables) → FollowsList ls h ts list blocks links →
    (not list.differs && list.begun == length list.leases.now && length (filter is_endless list.leases.now) == list.unended) ≡ true → ls ≡ map lease_of ts
whole_tells ls h ts list blocks links follows e = search (rules, and_parts, not, length, filter, is_endless, agree, eqb-true, is_unended, whole)

pub tells_whole : (ls : List Lease) (h : Header) (ts : List Lent) (list : FollowedList) (blocks links : IndexTables) → FollowsList ls h ts list blocks links → ls ≡ map lease_of ts →
    (not list.differs && list.begun == length list.leases.now && length (filter is_endless list.leases.now) == list.unended) ≡ true
tells_whole ls h ts list blocks links follows e = search (rules, agree, own_agree, not, length, length-map, lease_of, filter, is_endless, own_count, eq-eqb)
