-- The blocks and Links of a ring stand in the world as the driver wrote them
use Rattle.safety.proofs.Words.{◌≡◌, ◌+◌, ◌%◌, ◌^◌, ◌<◌, ◌≤◌, ◌∙◌, ℕ, true, arith, sym, ap, add-zero, block_at, Spot, Data, Link, Shape, is_inside, IsSpot, spot_address, IsShape, link_aligned, link_ends, address_aligned, address_ends, crossed_link, crosses, link_address_is, address_inside, link_address_inside, Header, IsHeader, shape_of, World, Known, IsDriverRing, DriverKeeps, Stands}
use Rattle.safety.proofs.HeaderRings.Headers.{ring_shape, ring_not_event}

-- blocks of two memories with the same four words
pub same_block_at : (m n : ℕ → ℕ) (a : ℕ) → m a ≡ n a → m (a + 4) ≡ n (a + 4) → m (a + 8) ≡ n (a + 8) → m (a + 12) ≡ n (a + 12) → block_at m a ≡ block_at n a
same_block_at m n a p q r s = cc

-- where a spot lies
pub record SpotLies (shape : Shape) (t : Spot) : Type 0 where
  pub aligned : spot_address shape t % 16 ≡ 0
  pub ends : spot_address shape t + 16 ≤ 2 ^ 64
  pub inside : (b : ℕ) → b < 16 → is_inside shape (spot_address shape t + b) ≡ true

pub spot_lies : (shape : Shape) → IsShape shape → (t : Spot) → IsSpot shape t → SpotLies shape t
spot_lies shape is (Data q) spot = record { aligned = address_aligned shape is q; ends = address_ends shape is q; inside = λ b h. address_inside shape is q b h }
spot_lies shape is (Link q) spot =
    let found = crossed_link shape q spot in
    let at = link_address_is shape q found.0 found.1 in
    let link = (crosses shape q found.0 found.1).link in
    record {
      aligned = omega (arith, at, link_aligned shape is found.0 link);
      ends = omega (arith, at, link_ends shape is found.0 link);
      inside = λ b h. link_address_inside shape is q b spot h;
    }

module _ (h : Header) (is : IsHeader h) (k : Known) (w : World) (d : DriverKeeps h k) (s : Stands h k w) where
  pub ring_word : (r a : ℕ) → IsDriverRing h r → a % 4 ≡ 0 → is_inside (shape_of h r) a ≡ true → w.memory a ≡ k.memory a
  ring_word r a ring word inside = s.quiet a (d.clean r a ring word inside) (ring_not_event h is r a ring word inside)

  pub block_at_spot : (r : ℕ) (t : Spot) → IsDriverRing h r → IsSpot (shape_of h r) t →
      block_at w.memory (spot_address (shape_of h r) t) ≡ block_at k.memory (spot_address (shape_of h r) t)
  block_at_spot r t ring spot =
      let lies = spot_lies (shape_of h r) (ring_shape h is r ring).is t spot in
      let a : ℕ = spot_address (shape_of h r) t in
      same_block_at w.memory k.memory a
      (ring_word r a ring (omega arith) (ap (λ x. is_inside (shape_of h r) x) (sym (add-zero a)) ∙ lies.inside 0 (omega arith)))
      (ring_word r (a + 4) ring (omega arith) (lies.inside 4 (omega arith)))
      (ring_word r (a + 8) ring (omega arith) (lies.inside 8 (omega arith)))
      (ring_word r (a + 12) ring (omega arith) (lies.inside 12 (omega arith)))
