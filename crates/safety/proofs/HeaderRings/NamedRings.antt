-- The ring that a pointer names: one that has it inside is the only one
use Rattle.safety.proofs.Words.{◌≡◌, ◌+◌, ◌==◌, ◌&&◌, ◌∙◌, ℕ, true, Option, None, Some, find, arith, refl, sym, ap, eqb-true, and_parts, none-some, same_Some, Spot, Data, Link, Shape, address_of, is_inside, link_address, IsSpot, spot_address, IsShape, address_inside, link_address_inside, Header, Ring, IsHeader, shape_of, id_of, is_transfer_kind, ring_having, IsTransferRing, rules}
use Rattle.safety.proofs.HeaderRings.Headers.{found_in, together, clash_apart, header_parts, shape_is, ring_shape, transfer_driver}

-- the address of a spot is inside its ring
pub spot_inside : (shape : Shape) → IsShape shape → (t : Spot) → IsSpot shape t → is_inside shape (spot_address shape t) ≡ true
spot_inside shape is (Data q) spot = ap (λ a. is_inside shape a) (add_none (address_of shape q)) ∙ address_inside shape is q 0 (omega arith)
  where
    add_none : (a : ℕ) → a ≡ a + 0
    add_none a = omega arith
spot_inside shape is (Link q) spot = ap (λ a. is_inside shape a) (add_none (link_address shape q)) ∙ link_address_inside shape is q 0 spot (omega arith)
  where
    add_none : (a : ℕ) → a ≡ a + 0
    add_none a = omega arith

id_is : (o : Option Ring) (r : ℕ) → id_of o ≡ Some r → (q : Ring) × (o ≡ Some q) × (q.id ≡ r)
id_is None r at = absurd (none-some r at)
id_is (Some q) r at = (q, refl, same_Some q.id r at)

module _ (h : Header) (is : IsHeader h) where
  -- a transfer ring that has an address inside is the one that is found by it
  pub having_is : (p r q : ℕ) → IsTransferRing h r → is_inside (shape_of h r) p ≡ true → ring_having h p ≡ Some q → q ≡ r
  unfolding ring_having
  having_is p r q transfer inside at =
      let found = id_is (find (λ q. is_transfer_kind q.shape.kind && is_inside q.shape p) h.rings) q at in
      let there = found_in (λ x. is_transfer_kind x.shape.kind && is_inside x.shape p) h.rings found.0 found.1 in
      let has : is_inside found.0.shape p ≡ true = (and_parts (is_transfer_kind found.0.shape.kind) (is_inside found.0.shape p) there.1).1 in
      let mine = found_in (λ x. x.id == r) h.rings transfer.ring transfer.found in
      let own : is_inside transfer.ring.shape p ≡ true = ap (λ s. is_inside s p) (sym (shape_is h r transfer.ring transfer.found)) ∙ inside in
      search (rules, together, header_parts, eqb-true, clash_apart)

  pub moved_having : (p r q : ℕ) (t : Spot) → IsTransferRing h r → IsSpot (shape_of h r) t → spot_address (shape_of h r) t ≡ p → ring_having h p ≡ Some q → q ≡ r
  moved_having p r q t transfer spot at found =
      having_is p r q transfer (ap (λ a. is_inside (shape_of h r) a) (sym at) ∙ (spot_inside (shape_of h r) (ring_shape h is r (transfer_driver h r transfer)).is t spot)) found
