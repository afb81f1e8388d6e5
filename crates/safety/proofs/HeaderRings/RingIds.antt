-- No two rings of a header have one ID, so each is found by its own
use Rattle.safety.proofs.Words.{event_id, [], ◌≡◌, ◌==◌, ◌&&◌, ◌∷◌, ◌∙◌, ℕ, not, Bool, true, false, List, nat_lt, Option, Some, None, find, refl, sym, ap, subst, inl, inr, eq-eqb, eqb-true, ltb-true, rules, list_any, list_all, cases_Bool, cond-true, cond-false, false≢true, and_parts, or_parts, not-true, none-some, same_Some, RingKind, is_inside, is_shape, Header, Ring, IsHeader, clash, may_stand_together, is_command_kind, is_transfer_kind, ring_with, id_of, id_or_none, command_ring, command_id, ring_having, is_driver_ring, is_transfer_ring, arith, is_event_kind, event_ring}
use Rattle.safety.specs.DriverRings.{IsDriverRing}
use Rattle.safety.specs.EndpointsKeep.{IsTransferRing}
use Rattle.safety.proofs.HeaderRings.RingsOfHeader.{found_passes, found_allowed}

-- what all rings fail the one that is found fails
found_fails : (test fails : Ring → Bool) (rs : List Ring) (r : Ring) → find test rs ≡ Some r → list_any fails rs ≡ false → fails r ≡ false
found_fails test fails [] r found none = absurd (none-some r found)
found_fails test fails (q ∷ rest) r found none =
    let parts = or_parts (fails q) (list_any fails rest) none in
    elim (cases_Bool (test q)) [
      | inl here ↦ ap fails (sym (same_Some q r (sym (cond-true (test q) (Some q) (find test rest) here) ∙ found))) ∙ parts.0
      | inr later ↦ found_fails test fails rest r (sym (cond-false (test q) (Some q) (find test rest) later) ∙ found) parts.1
    ]

pub other_ids : (x r : Ring) → clash x r ≡ false → (x.id == r.id) ≡ false
other_ids x r e = search (rules, or_parts)

-- what any test finds is found by its ID
pub found_again : (test : Ring → Bool) (rs : List Ring) (r : Ring) → may_stand_together rs ≡ true → find test rs ≡ Some r → find (λ q. q.id == r.id) rs ≡ Some r
found_again test [] r together found = absurd (none-some r found)
found_again test (x ∷ rest) r together found =
    let parts = and_parts (not (list_any (clash x) rest)) (may_stand_together rest) together in
    elim (cases_Bool (test x)) [
      | inl here ↦
          let same : x ≡ r = same_Some x r (sym (cond-true (test x) (Some x) (find test rest) here) ∙ found) in
          cond-true (x.id == r.id) (Some x) (find (λ q. q.id == r.id) rest) (eq-eqb x.id r.id (ap (λ (q : Ring). q.id) same)) ∙ ap (λ (q : Ring). Some q) same
      | inr later ↦
          let on : find test rest ≡ Some r = sym (cond-false (test x) (Some x) (find test rest) later) ∙ found in
          let apart = found_fails test (clash x) rest r on (not-true (list_any (clash x) rest) parts.0) in
          cond-false (x.id == r.id) (Some x) (find (λ q. q.id == r.id) rest) (other_ids x r apart) ∙ found_again test rest r parts.1 on
    ]

module _ (h : Header) (is : IsHeader h) where
  pub together : may_stand_together h.rings ≡ true
  together = (and_parts (list_all (λ q. nat_lt q.id 256 && is_shape q.shape) h.rings) (may_stand_together h.rings) is).1

  found_transfer : (test : Ring → Bool) (o : Option Ring) (r : ℕ) → find test h.rings ≡ o → ((q : Ring) → test q ≡ true → is_transfer_kind q.shape.kind ≡ true) → id_of o ≡ Some r →
      IsTransferRing h r
  found_transfer test None r found kinds e = absurd (none-some r e)
  found_transfer test (Some q) r found kinds e =
      subst (λ n. IsTransferRing h n) (same_Some q.id r e) (ap is_transfer_ring (found_again test h.rings q together found) ∙ kinds q (found_passes test h.rings q found))

  -- a ring that has a block at an address is a transfer ring
  pub having_transfer : (p r : ℕ) → ring_having h p ≡ Some r → IsTransferRing h r
  unfolding ring_having
  having_transfer p r e =
      found_transfer (λ q. is_transfer_kind q.shape.kind && is_inside q.shape p) (find (λ q. is_transfer_kind q.shape.kind && is_inside q.shape p) h.rings) r refl
      (λ q passes. (and_parts (is_transfer_kind q.shape.kind) (is_inside q.shape p) passes).0) e

  two_kinds : (kind : RingKind) → is_command_kind kind ≡ true → is_transfer_kind kind ≡ true → ⊥
  two_kinds o c t = grind (arith, false≢true)

  -- no ring has the ID of none
  pub none_has_256 : (q : Ring) → ring_with h 256 ≡ Some q → ⊥
  none_has_256 q found = search (rules, eqb-true, found_passes, ltb-true, and_parts, nat_lt, found_allowed, list_all, is_shape, may_stand_together)

  not_transfer : (o : Option Ring) → find (λ q. is_command_kind q.shape.kind) h.rings ≡ o → IsTransferRing h (id_or_none o) → ⊥
  not_transfer None found transfer = (grind (arith, false≢true, none_has_256))
  not_transfer (Some q) found transfer =
      two_kinds q.shape.kind (found_passes (λ q. is_command_kind q.shape.kind) h.rings q found)
      (sym (ap is_transfer_ring (found_again (λ q. is_command_kind q.shape.kind) h.rings q together found)) ∙ transfer)

  -- the command ring is none
  pub command_not_transfer : IsTransferRing h (command_id h) → ⊥
  unfolding command_id command_ring
  command_not_transfer transfer = not_transfer (find (λ q. is_command_kind q.shape.kind) h.rings) refl transfer

  no_two_kinds : (kind : RingKind) → is_event_kind kind ≡ true → is_transfer_kind kind ≡ true → ⊥
  no_two_kinds o e t = grind (arith, false≢true)

  event_not_transfer : (o : Option Ring) → find (λ q. is_event_kind q.shape.kind) h.rings ≡ o → IsTransferRing h (id_or_none o) → ⊥
  event_not_transfer None found transfer = (grind (arith, false≢true, none_has_256))
  event_not_transfer (Some q) found transfer =
      no_two_kinds q.shape.kind (found_passes (λ q. is_event_kind q.shape.kind) h.rings q found)
      (sym (ap is_transfer_ring (found_again (λ q. is_event_kind q.shape.kind) h.rings q together found)) ∙ transfer)

  -- the event ring is no transfer ring
  pub event_no_transfer : IsTransferRing h (event_id h) → ⊥
  unfolding event_id event_ring
  event_no_transfer transfer = event_not_transfer (find (λ q. is_event_kind q.shape.kind) h.rings) refl transfer

pub transfer_driver : (h : Header) (r : ℕ) → IsTransferRing h r → IsDriverRing h r
unfolding is_driver_ring
transfer_driver h r t = grind (arith, false≢true)
