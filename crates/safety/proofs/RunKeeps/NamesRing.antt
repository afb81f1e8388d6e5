-- What CRCR names where it may be written
use Rattle.safety.proofs.Words.{◌≡◌, ◌==◌, ◌||◌, ◌∙◌, ℕ, not, false, Option, Some, arith, refl, ap, eqb-true, or_parts, not-false, false≢true, address_of, Header, Ring, IsHeader, is_command_kind, ring_with, shape_of, command_ring, command_id, base_address, ring_cycle_state, command_stop, command_abort, Known, is_no_first_block, is_bad_crcr, IsDriverRing, is_used}
use Rattle.safety.proofs.HeaderRings.Headers.{command_found, command_named, shape_is}
use Rattle.safety.proofs.HeaderRings.RingIds.{found_again, together}
use Rattle.safety.proofs.RunKeeps.KeptRegisters.{command_drives}

module _ (h : Header) (is : IsHeader h) where
  -- the command ring is found by its ID
  pub command_with : (c : Ring) → command_ring h ≡ Some c → ring_with h (command_id h) ≡ Some c
  unfolding command_ring
  command_with c at = ap (λ n. ring_with h n) (command_named h is (Some c) at) ∙ found_again (λ q. is_command_kind q.shape.kind) h.rings c (together h is) at

  pub command_driver : (c : Ring) → command_ring h ≡ Some c → IsDriverRing h (command_id h)
  command_driver c at = record { ring = c; found = command_with c at; kind = command_drives c.shape.kind (command_found h is c at).1 }

  first_block : (v : ℕ) (o : Option Ring) → command_ring h ≡ o → is_no_first_block v o ≡ false → (IsDriverRing h (command_id h)) × (base_address v ≡ address_of (shape_of h (command_id h)) 0)
  unfolding is_no_first_block
  first_block v o at first =
      grind (arith, false≢true, command_driver, eqb-true, base_address, address_of, not-false, shape_is, command_id, command_with)

  -- where CRCR may be written the command ring is there, its first block is named, and it wasn't started
  pub record NamesRing (k : Known) (v : ℕ) : Type 0 where
    pub is_ring : IsDriverRing h (command_id h)
    pub base : base_address v ≡ address_of (shape_of h (command_id h)) 0
    pub cycle : ring_cycle_state v ≡ 1
    pub unused : is_used h k ≡ false

  pub names_ring : (k : Known) (v : ℕ) → is_bad_crcr h k v ≡ false → NamesRing k v
  unfolding is_bad_crcr
  names_ring k v good =
      let four = or_parts (is_no_first_block v (command_ring h) || not (ring_cycle_state v == 1) || command_stop v || command_abort v) (is_used h k) good in
      let three = or_parts (is_no_first_block v (command_ring h) || not (ring_cycle_state v == 1) || command_stop v) (command_abort v) four.0 in
      let two = or_parts (is_no_first_block v (command_ring h) || not (ring_cycle_state v == 1)) (command_stop v) three.0 in
      let one = or_parts (is_no_first_block v (command_ring h)) (not (ring_cycle_state v == 1)) two.0 in
      let first = first_block v (command_ring h) refl one.0 in
      record { is_ring = first.0; base = first.1; cycle = eqb-true (ring_cycle_state v) 1 (not-false (ring_cycle_state v == 1) one.1); unused = four.1 }
