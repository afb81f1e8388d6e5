-- The rings and endpoints of what a driver keeps, as the laws of rings take them
use Rattle.safety.proofs.Words.{◌≡◌, ◌∙◌, ℕ, true, Option, Some, None, refl, ap, false≢true, Header, Ring, ring_with, is_transfer_kind, Known, is_driver_ring, is_transfer_ring, DriverKeeps, IsDriverRing, IsTransferRing, StatesKeep}
use Rattle.safety.proofs.HeaderRings.RingsOfHeader.{driver_is}
use Rattle.safety.specs.RingsKeep as rings
use Rattle.safety.specs.DriverRings as driver_rings
use Rattle.safety.specs.EndpointsKeep as endpoints

transfer_found : (o : Option Ring) → is_transfer_ring o ≡ true → (r : Ring) × (o ≡ Some r) × (is_transfer_kind r.shape.kind ≡ true)
transfer_found None h = absurd (false≢true h)
transfer_found (Some r) h = (r, refl, h)

module _ (h : Header) where
  pub driver_test : (r : ℕ) → IsDriverRing h r → driver_rings.IsDriverRing h r
  unfolding is_driver_ring
  driver_test r ring = ap is_driver_ring ring.found ∙ ring.kind

  pub driver_ring : (r : ℕ) → driver_rings.IsDriverRing h r → IsDriverRing h r
  driver_ring r is = let found = driver_is (ring_with h r) is in record { ring = found.0; found = found.1; kind = found.2 }

  pub transfer_ring : (r : ℕ) → endpoints.IsTransferRing h r → IsTransferRing h r
  transfer_ring r is = let found = transfer_found (ring_with h r) is in record { ring = found.0; found = found.1; kind = found.2 }

  pub rings_of : (k : Known) → DriverKeeps h k → rings.RingsKeep h k
  rings_of k d r is = d.rings r (driver_ring r is)

  pub endpoints_of : (k : Known) → StatesKeep h k → endpoints.EndpointsKeep h k
  endpoints_of k s = record {
    transfer = λ t i r at. ap is_transfer_ring (s.transfer t i r at).found ∙ (s.transfer t i r at).kind;
  }
