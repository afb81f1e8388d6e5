-- What is known of a list that is followed, in terms of what was and is lent
use Rattle.std.specs.Prelude.{◌≡◌, ℕ, ◌+◌, ◌-◌, ◌==◌, ◌||◌, true, not, List, filter, length, slice_get}
use Rattle.traces.specs.declared.header.Header.{Header}
use Rattle.ring_knowledge.specs.declared.lease.Lease.{Lease}
use Rattle.leases.specs.declared.book.indexes.IndexTables.{IndexTables}
use Rattle.leases.specs.LeaseBooks.Lents.{Lent, is_unended}
use Rattle.leases.specs.declared.log.followed.FollowedList.{FollowedList}
use Rattle.leases.specs.CertificateLogs.Agreement.{agree, begins_as, test_of}
use Rattle.leases.specs.CertificateLogs.OpenPlaces.{AreCrossed, FindsPlaces}

-- a lease begins: it is the next of the list, or the list is another one
pub record Begins (lease : Lease) (old new : FollowedList) : Type 0 where
  pub leases : new.leases.now ≡ old.leases.now
  pub begun : new.begun ≡ old.begun + 1
  pub unended : new.unended ≡ old.unended + 1
  pub differs : new.differs ≡ (old.differs || not (test_of (λ l. begins_as l lease) (slice_get old.leases.now old.begun)))

-- the lease at an index ends at a row: so the list tells, or it is another one
pub record Ends (index row : ℕ) (old new : FollowedList) : Type 0 where
  pub leases : new.leases.now ≡ old.leases.now
  pub begun : new.begun ≡ old.begun
  pub unended : new.unended ≡ old.unended - 1
  pub differs : new.differs ≡ (old.differs || not (test_of (λ l. l.to == row) (slice_get old.leases.now index)))

-- while the list agrees: how many leases aren't over, and where they stand
pub record KnowsOpen (h : Header) (ts : List Lent) (list : FollowedList) (blocks links : IndexTables) : Type 0 where
  pub count : list.unended ≡ length (filter is_unended ts)
  pub places : FindsPlaces h ts blocks links
  pub crossed : AreCrossed h ts

-- the list of these leases was followed along what was and is lent
pub record FollowsList (leases : List Lease) (h : Header) (ts : List Lent) (list : FollowedList) (blocks links : IndexTables) : Type 0 where
  pub same : list.leases.now ≡ leases
  pub begun : list.begun ≡ length ts
  pub differs : list.differs ≡ not (agree ts leases)
  pub known : agree ts leases ≡ true → KnowsOpen h ts list blocks links
