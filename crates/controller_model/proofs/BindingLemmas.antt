-- When an endpoint gets a ring
use Rattle.controller_model.proofs.LowerLaws.{arith, ◌≡◌, ◌==◌, ◌&&◌, ◌∙◌, ℕ, Bool, true, false, List, Option, Some, None, find, is_some, sym, ap, refl, cond-true, cond-false, EndpointState, is_inside, Ring, Header, id_of, is_transfer_kind, ring_having, ring_with, World, is_had_by_another, placed, placed_on, may_get, found_by_id}

id_known : (test : Ring → Bool) (rings : List Ring) (r : ℕ) (o : Option Ring) → find test rings ≡ o → id_of o ≡ Some r → is_some (find (λ x. x.id == r) rings) ≡ true
id_known test rings r None e d = absurd (cc)
id_known test rings r (Some x) e d =
    let same : x.id ≡ r = cc in
    ap (λ n. is_some (find (λ y. y.id == n) rings)) (sym same) ∙ found_by_id test rings x e

-- a ring that has a block somewhere is one of the header
pub having_known : (h : Header) (a r : ℕ) → ring_having h a ≡ Some r → is_some (ring_with h r) ≡ true
unfolding ring_having
having_known h a r e = id_known (λ x. is_transfer_kind x.shape.kind && is_inside x.shape a) h.rings r (find (λ x. is_transfer_kind x.shape.kind && is_inside x.shape a) h.rings) refl e

module _ (w : World) (s i a : ℕ) (c : Bool) (state : EndpointState) where
  pub placed_none : (o : Option ℕ) (v : World) → o ≡ None → placed_on w s i a c state o ≡ Some v → ⊥
  unfolding placed_on
  placed_none o v none e = grind arith

  pub record Got (r : ℕ) (v : World) : Type 0 where
    pub free : is_had_by_another w s i r ≡ false
    pub is : placed w s i r a c state ≡ v

  pub placed_some : (o : Option ℕ) (r : ℕ) (v : World) → o ≡ Some r → placed_on w s i a c state o ≡ Some v → Got r v
  unfolding placed_on
  placed_some o r v some e = grind (arith, cond-true, cond-false)

  pub may_get_is : (o : Option ℕ) → is_some (placed_on w s i a c state o) ≡ may_get w s i o
  unfolding placed_on
  may_get_is o = grind (arith, is_some, cond-true, cond-false)
