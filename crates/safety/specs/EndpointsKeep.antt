-- What any history keeps of endpoints and their rings
use Rattle.std.specs.Prelude.{◌≡◌, ℕ, true, Some}
use Rattle.traces.specs.declared.header.Header.{Header}
use Rattle.traces.specs.Header.{ring_with}
use Rattle.ring_knowledge.specs.Known.{Known}
use Rattle.ownership_rules.specs.Rings.{is_transfer_ring}

module _ (h : Header) where
  -- the ID of a transfer ring
  abbrev pub IsTransferRing : ℕ → Type 0
  IsTransferRing r = is_transfer_ring (ring_with h r) ≡ true

  pub record EndpointsKeep (k : Known) : Type 0 where
    -- the ring of an endpoint is a transfer ring
    pub transfer : (s i r : ℕ) → k.ring_of s i ≡ Some r → IsTransferRing r
