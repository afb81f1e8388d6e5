-- The command and transfer rings of a header, each found by its ID
use Rattle.safety.proofs.Words.{[], ◌≡◌, ◌==◌, ◌&&◌, ◌++◌, ◌∷◌, ◌∙◌, ℕ, Bool, true, false, List, nat_lt, Option, Some, find, filter, sym, ap, inl, inr, eqb-true, rules, list_any, list_all, flat_map, cases_Bool, cond-true, cond-false, false≢true, and_parts, or_parts, none-some, same_Some, list_any-append, IsShape, is_shape, Header, Ring, IsHeader, may_stand_together, is_driver_kind, ring_with, shape_of, shape_or, driver_rings, is_driver_ring, arith, AreUnmoved, Xfer, cases_option}
use Rattle.safety.specs.DriverRings.{IsDriverRing}

-- what is found passes the test, and whatever each ring passes
pub found_passes : (test : Ring → Bool) (rs : List Ring) (r : Ring) → find test rs ≡ Some r → test r ≡ true
found_passes test [] r found = absurd (none-some r found)
found_passes test (q ∷ rest) r found =
    elim (cases_Bool (test q)) [
      | inl here ↦ ap test (sym (same_Some q r (sym (cond-true (test q) (Some q) (find test rest) here) ∙ found))) ∙ here
      | inr later ↦ found_passes test rest r (sym (cond-false (test q) (Some q) (find test rest) later) ∙ found)
    ]

pub found_allowed : (test each : Ring → Bool) (rs : List Ring) (r : Ring) → find test rs ≡ Some r → list_all each rs ≡ true → each r ≡ true
found_allowed test each [] r found all = absurd (none-some r found)
found_allowed test each (q ∷ rest) r found all =
    let parts = and_parts (each q) (list_all each rest) all in
    elim (cases_Bool (test q)) [
      | inl here ↦ ap each (sym (same_Some q r (sym (cond-true (test q) (Some q) (find test rest) here) ∙ found))) ∙ parts.0
      | inr later ↦ found_allowed test each rest r (sym (cond-false (test q) (Some q) (find test rest) later) ∙ found) parts.1
    ]

-- where nothing of all driver rings passes, nothing of the one that is found does
none_of_found : {X : Type 0} (test : Ring → Bool) (passes : X → Bool) (f : Ring → List X) (rs : List Ring) (r : Ring) → find test rs ≡ Some r →
    is_driver_kind r.shape.kind ≡ true → list_any passes (flat_map f (filter (λ q. is_driver_kind q.shape.kind) rs)) ≡ false → list_any passes (f r) ≡ false
none_of_found test passes f [] r found driver none = absurd (none-some r found)
none_of_found test passes f (q ∷ rest) r found driver none =
    let others : List Ring = filter (λ q. is_driver_kind q.shape.kind) rest in
    elim (cases_Bool (is_driver_kind q.shape.kind)) [
      | inl kept ↦
          let all : list_any passes (f q ++ flat_map f others) ≡ false =
          ap (λ qs. list_any passes (flat_map f qs)) (sym (cond-true (is_driver_kind q.shape.kind) (q ∷ others) others kept)) ∙ none in
          let parts = or_parts (list_any passes (f q)) (list_any passes (flat_map f others)) (sym (list_any-append passes (f q) (flat_map f others)) ∙ all) in
          elim (cases_Bool (test q)) [
            | inl here ↦ ap (λ s. list_any passes (f s)) (sym (same_Some q r (sym (cond-true (test q) (Some q) (find test rest) here) ∙ found))) ∙ parts.0
            | inr later ↦ none_of_found test passes f rest r (sym (cond-false (test q) (Some q) (find test rest) later) ∙ found) driver parts.1
          ]
      | inr dropped ↦
          let all : list_any passes (flat_map f others) ≡ false =
          ap (λ qs. list_any passes (flat_map f qs)) (sym (cond-false (is_driver_kind q.shape.kind) (q ∷ others) others dropped)) ∙ none in
          elim (cases_Bool (test q)) [
            | inl here ↦
                let same : q ≡ r = same_Some q r (sym (cond-true (test q) (Some q) (find test rest) here) ∙ found) in
                absurd (false≢true (sym dropped ∙ ap (λ (s : Ring). is_driver_kind s.shape.kind) same ∙ driver))
            | inr later ↦ none_of_found test passes f rest r (sym (cond-false (test q) (Some q) (find test rest) later) ∙ found) driver all
          ]
    ]

-- the ring of an ID
pub record HasRing (h : Header) (r : ℕ) : Type 0 where
  pub ring : Ring
  pub found : ring_with h r ≡ Some ring
  pub id : ring.id ≡ r
  pub shape : shape_of h r ≡ ring.shape
  pub driver : is_driver_kind ring.shape.kind ≡ true

pub driver_is : (o : Option Ring) → is_driver_ring o ≡ true → (ring : Ring) × (o ≡ Some ring) × (is_driver_kind ring.shape.kind ≡ true)
unfolding is_driver_ring
driver_is o h = grind (arith, false≢true)

pub has_ring : (h : Header) (r : ℕ) → IsDriverRing h r → HasRing h r
unfolding shape_of
has_ring h r driver = search (rules, driver_is, eqb-true, found_passes, shape_or)

pub none_of_ring : {X : Type 0} (h : Header) (r : ℕ) (has : HasRing h r) (passes : X → Bool) (f : Ring → List X) →
    list_any passes (flat_map f (driver_rings h)) ≡ false → list_any passes (f has.ring) ≡ false
unfolding driver_rings
none_of_ring h r has passes f none = none_of_found (λ q. q.id == r) passes f h.rings has.ring has.found has.driver none

pub shape_allowed : (h : Header) → IsHeader h → (r : ℕ) → IsDriverRing h r → IsShape (shape_of h r)
shape_allowed h is r driver =
    let has = has_ring h r driver in
    let all = (and_parts (list_all (λ q. nat_lt q.id 256 && is_shape q.shape) h.rings) (may_stand_together h.rings) is).0 in
    let allowed = found_allowed (λ q. q.id == r) (λ q. nat_lt q.id 256 && is_shape q.shape) h.rings has.ring has.found all in
    ap is_shape has.shape ∙ (and_parts (nat_lt has.ring.id 256) (is_shape has.ring.shape) allowed).1

-- where no ring has grown the shape of none has an offset, nor that of no ring
pub shape_unmoved : (h : Header) → AreUnmoved h.rings → (r : ℕ) → (shape_of h r).offset ≡ 0
unfolding shape_of
shape_unmoved h unmoved r =
    elim (cases_option (ring_with h r)) [
      | inl none ↦ ap (λ o. (shape_or Xfer o).offset) none
      | inr some ↦ ap (λ o. (shape_or Xfer o).offset) some.1 ∙ eqb-true some.0.shape.offset 0 (found_allowed (λ q. q.id == r) (λ q. q.shape.offset == 0) h.rings some.0 some.1 unmoved)
    ]
