-- How many endpoints have a ring
use Rattle.std.specs.Prelude.{◌≡◌, ℕ, ◌^◌, ◌+◌, ◌<◌, ◌≤◌, ◌∷◌, [], if◌then◌else◌, List, Option, None, Some, slice_index_or}
use Rattle.std.specs.List.{sum_by}
use Rattle.traces.specs.Header.{is_ring}
use Rattle.ring_knowledge.specs.Known.{Known}
use Rattle.trace_record.specs.declared.device_record.holders.Holders.{Holders}
use Rattle.trace_record.specs.declared.device_record.kept.Endpoint.{Endpoint}

-- how many endpoints have ring r, as it is counted
abbrev pub count_of : Holders → ℕ → ℕ
count_of holders r = slice_index_or holders.counts.items r 0

-- one where it is ring r, else none
abbrev pub one_of : ℕ → Option ℕ → ℕ
one_of r o = if is_ring r o then 1 else 0

-- of each ring the endpoints are counted that have it
abbrev pub AreCounted : List Endpoint → Holders → Type 0
AreCounted endpoints holders = (r : ℕ) → r < 256 → count_of holders r ≡ sum_by (λ e. one_of r e.ring) endpoints

-- the ring, if one is named, has an endpoint
abbrev pub IsCounted : Holders → Option ℕ → Type 0
IsCounted holders None = Unit {0}
IsCounted holders (Some r) = r < 256 → 0 < count_of holders r

-- the numbers of these endpoints, summed up, as it is kept
abbrev pub sum_of : Holders → ℕ → ℕ
sum_of holders r = slice_index_or holders.sums.items r 0

-- the number where it is ring r, else none
abbrev pub place_of : ℕ → Option ℕ → ℕ → ℕ
place_of r o n = if is_ring r o then n else 0

-- the numbers of the endpoints that have ring r, where the first one has number n
unfoldable pub places_sum : ℕ → List Endpoint → ℕ → ℕ
places_sum r [] n = 0
places_sum r (e ∷ es) n = place_of r e.ring n + places_sum r es (n + 1)

abbrev pub AreSummed : List Endpoint → Holders → Type 0
AreSummed endpoints holders = (r : ℕ) → r < 256 → sum_of holders r ≡ places_sum r endpoints 0

-- this number of an endpoint of the ring, if one is named, is among them
abbrev pub IsSummed : Holders → Option ℕ → ℕ → Type 0
IsSummed holders None n = Unit {0}
IsSummed holders (Some r) n = r < 256 → n ≤ sum_of holders r

abbrev pub HasSumRoom : Holders → Option ℕ → ℕ → Type 0
HasSumRoom holders None n = Unit {0}
HasSumRoom holders (Some r) n = r < 256 → sum_of holders r + n < 2 ^ 64

-- one more may be counted
abbrev pub HasRoom : Holders → Option ℕ → Type 0
HasRoom holders None = Unit {0}
HasRoom holders (Some r) = r < 256 → count_of holders r + 1 < 2 ^ 64

-- no two endpoints have ring r
abbrev pub HasOneHolder : Known → ℕ → Type 0
HasOneHolder k r = (s i t j : ℕ) → k.ring_of s i ≡ Some r → k.ring_of t j ≡ Some r → (s ≡ t) × (i ≡ j)

-- some endpoint has ring r
pub record HasEndpoint (k : Known) (r : ℕ) : Type 0 where
  pub slot : ℕ
  pub index : ℕ
  pub has : k.ring_of slot index ≡ Some r
