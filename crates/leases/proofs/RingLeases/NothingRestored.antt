-- Where nothing is free a row restores nothing
use Rattle.leases.proofs.BaseWords.{rules, ◌≡◌, ℕ, Option, None, Some, refl, sym, Header, Known, RingView, changed, on_ring, shape_of, ring_elsewhere, IsRestored, Restores, Shape, Row, restored, restored_on, ring_restored}
use Rattle.safety.proofs.RingsKeep.DriverRows.{ring_here}

view_same : (shape : Shape) (v : RingView) → IsRestored v → changed shape v Restores ≡ v
view_same shape v none = λ j. record v { free = λ p. sym (none p) j }

module _ (h : Header) (k : Known) (none : (r : ℕ) → IsRestored (k.ring r)) where
  ring_same : (r q : ℕ) → (on_ring h k r Restores).ring q ≡ k.ring q
  ring_same r q = search (rules, on_ring, Restores, ring_here, view_same, shape_of, ring_elsewhere)

  on_ring_same : (r : ℕ) → on_ring h k r Restores ≡ k
  unfolding on_ring
  on_ring_same r = λ j. record k { ring = λ q. ring_same r q j }

  same_on : (o : Option ℕ) → restored_on h k o ≡ k
  unfolding restored_on
  same_on None = refl
  same_on (Some r) = on_ring_same r

pub restored_same : (h : Header) (k : Known) (row : Row) → ((r : ℕ) → IsRestored (k.ring r)) → restored h k row ≡ k
restored_same h k row none = same_on h k none (ring_restored h k row)
