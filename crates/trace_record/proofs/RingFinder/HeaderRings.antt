-- Each ring of a header is found by its ID and its kind
use Rattle.trace_record.proofs.LowerLaws.{rules, ◌≡◌, ◌≢◌, ◌<◌, ◌∷◌, ◌++◌, ◌∙◌, ◌==◌, ◌&&◌, List, [], Bool, true, false, Option, Some, None, refl, ap, sym, arith, inl, inr, nat_lt, filter, find, ltb-true, list_any, list_all, flat_map, cases_Bool, and_parts, false≢true, IsShape, is_shape, Evt, Xfer, Ring, Header, may_stand_together, IsHeader, is_driver_kind, is_command_kind, is_event_kind, ring_with, shape_of, shape_or, id_or_none, command_ring, command_id, event_ring, event_shape, or_false, IsAmong, Apart, apart_back, first_apart, rest_together, same_or_apart, same_number, other_number}

-- the one ring that passes a test is found
pub find_only : (f : Ring → Bool) (rs : List Ring) → may_stand_together rs ≡ true → (r : Ring) → IsAmong r rs → f r ≡ true → ((q : Ring) → Apart r q → f q ≡ false) → find f rs ≡ Some r
find_only f [] together r among passes others = absurd among
find_only f (x ∷ rest) together r (inl same) passes others = rw (ap f same ∙ passes) (ap (λ y. Some y) same)
find_only f (x ∷ rest) together r (inr later) passes others = search (rules, apart_back, first_apart, rest_together, find_only f rest (rest_together x rest together) r later passes others)

-- what is found stands there and passes
pub find_some : (f : Ring → Bool) (rs : List Ring) (r : Ring) → find f rs ≡ Some r → IsAmong r rs × (f r ≡ true)
find_some f [] r e = absurd (cc)
find_some f (x ∷ rest) r e = search (rules, cases_Bool (f x), find_some f rest r)

abbrev pub drivers_of : List Ring → List Ring
drivers_of rs = filter (λ r. is_driver_kind r.shape.kind) rs

-- no driver ring passes
pub no_driver : (f : Ring → Bool) (rs : List Ring) → ((q : Ring) → IsAmong q rs → is_driver_kind q.shape.kind ≡ true → f q ≡ false) → list_any f (drivers_of rs) ≡ false
no_driver f [] none = refl
no_driver f (x ∷ rest) none = search (rules, is_driver_kind, no_driver f rest (λ q among d. none q (inr among) d))

-- no driver ring but r passes
pub one_driver : (f : Ring → Bool) (rs : List Ring) → may_stand_together rs ≡ true → (r : Ring) → IsAmong r rs → is_driver_kind r.shape.kind ≡ true →
    ((q : Ring) → IsAmong q rs → Apart r q → f q ≡ false) → list_any f (drivers_of rs) ≡ f r
one_driver f [] together r among driver none = absurd among
one_driver f (x ∷ rest) together r (inl same) driver none = search (rules, is_driver_kind, list_any, no_driver, first_apart, or_false)
one_driver f (x ∷ rest) together r (inr later) driver none = search (rules, apart_back, first_apart, list_any, rest_together, is_driver_kind, one_driver f rest (rest_together x rest together) r later driver (λ q among apart. none q (inr among) apart))

-- driver rings from which nothing comes
pub nothing_from : {X : Type 0} (f : Ring → List X) (rs : List Ring) → ((q : Ring) → IsAmong q rs → is_driver_kind q.shape.kind ≡ true → f q ≡ []) → flat_map f (drivers_of rs) ≡ []
nothing_from f [] none = refl
nothing_from f (x ∷ rest) none = search (rules, is_driver_kind, nothing_from f rest (λ q among d. none q (inr among) d))

pub all_from_one : {X : Type 0} (f : Ring → List X) (rs : List Ring) → may_stand_together rs ≡ true → (r : Ring) → IsAmong r rs → is_driver_kind r.shape.kind ≡ true →
    ((q : Ring) → IsAmong q rs → Apart r q → f q ≡ []) → flat_map f (drivers_of rs) ≡ f r ++ []
all_from_one f [] together r among driver none = absurd among
all_from_one f (x ∷ rest) together r (inl same) driver none = search (rules, is_driver_kind, flat_map, nothing_from, first_apart)
all_from_one f (x ∷ rest) together r (inr later) driver none = search (rules, apart_back, first_apart, flat_map, rest_together, is_driver_kind, all_from_one f rest (rest_together x rest together) r later driver (λ q among apart. none q (inr among) apart))

each_allowed : (rs : List Ring) → list_all (λ r. nat_lt r.id 256 && is_shape r.shape) rs ≡ true → (r : Ring) → IsAmong r rs → (nat_lt r.id 256 && is_shape r.shape) ≡ true
each_allowed [] all r among = absurd among
each_allowed (x ∷ rest) all r (inl same) = search (rules, nat_lt, is_shape, and_parts, list_all)
each_allowed (x ∷ rest) all r (inr later) = each_allowed rest (and_parts (nat_lt x.id 256 && is_shape x.shape) (list_all (λ r. nat_lt r.id 256 && is_shape r.shape) rest) all).1 r later

module _ (h : Header) (headed : IsHeader h) where
  pub together : may_stand_together h.rings ≡ true
  together = (and_parts (list_all (λ r. nat_lt r.id 256 && is_shape r.shape) h.rings) (may_stand_together h.rings) headed).1

  module _ (r : Ring) (among : IsAmong r h.rings) where
    parts : (nat_lt r.id 256 ≡ true) × (is_shape r.shape ≡ true)
    parts = search (rules, and_parts, nat_lt, is_shape, each_allowed, list_all, may_stand_together)

    pub id_below : r.id < 256
    id_below = ltb-true r.id 256 parts.0

    pub shape_allowed : IsShape r.shape
    shape_allowed = parts.1

    pub ring_found : ring_with h r.id ≡ Some r
    ring_found = find_only (λ q. q.id == r.id) h.rings together r among (same_number r.id) (λ q apart. other_number q.id r.id (λ e. apart.ids (sym e)))

    -- the shape of its ID is its own
    pub shape_there : shape_of h r.id ≡ r.shape
    unfolding shape_of
    shape_there = ap (λ o. shape_or Xfer o) ring_found

    pub event_found : is_event_kind r.shape.kind ≡ true → event_ring h ≡ Some r
    unfolding event_ring
    event_found is = find_only (λ q. is_event_kind q.shape.kind) h.rings together r among is (λ q apart. search (rules, is_event_kind))

    pub event_here : is_event_kind r.shape.kind ≡ true → event_shape h ≡ r.shape
    unfolding event_shape event_ring
    event_here is = ap (λ o. shape_or Evt o) (event_found is)

  -- the command ring, if it isn't r, has another ID
  pub no_command_here : (r : Ring) → IsAmong r h.rings → is_command_kind r.shape.kind ≡ false → r.id ≢ command_id h
  unfolding command_id command_ring
  no_command_here r among is_none same = by (command_ring h) refl same
    where
      by : (o : Option Ring) → command_ring h ≡ o → r.id ≡ id_or_none o → ⊥
      by None found same = omega (arith, id_below r among, same)
      by (Some c) found same = search (rules, find_some (λ q. is_command_kind q.shape.kind) h.rings c found, same_or_apart h.rings together r c among, false≢true)

-- where no ring has the ID
pub not_found : (f : Ring → Bool) (rs : List Ring) → ((q : Ring) → IsAmong q rs → f q ≡ false) → find f rs ≡ None
not_found f [] fails = refl
not_found f (x ∷ rest) fails = rw (fails x (inl refl)) (not_found f rest (λ q among. fails q (inr among)))
