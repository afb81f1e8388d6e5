-- What a reset leaves
use Rattle.controller_model.proofs.LowerLaws.{take-append-le, ◌≡◌, ◌++◌, ◌*◌, ℕ, List, Some, None, ap, length, take, drop, arith, refl, subst, slice_get, slice_get_within, get_or, take_all, replicate, false, Off, slice_get-get_or, ◌+◌, ◌<◌, Header, World, Slot, Endpoint, RingState, FollowsRings, FollowsSlots, FollowsEndpoints, AreLeft, ring_held, reset, replicate_at, Disabled}

-- what a vector holds whose slice was written over
pub written_over : {X : Type 0} (n : ℕ) (new old : List X) → length new ≡ length old → length old ≡ n → take n (new ++ drop (length new) old) ≡ new
written_over n new old same many = grind (arith, take-append-le, take_all)

pub rings_left : (h : Header) (w : World) (before after : List RingState) → length after ≡ length before → AreLeft before after → FollowsRings h (ring_held w) before →
    FollowsRings h (ring_held (reset w)) after
unfolding reset
rings_left h w before after many left f = record {
  each = λ r y at.
      let inside : r < length before = omega (arith, slice_get_within after r y at, many) in
      let there : slice_get before r ≡ Some (get_or before r y) = slice_get-get_or before r y inside in
      (left.each r (get_or before r y) y there at).follows h r (ring_held w r) (f.each r (get_or before r y) there);
}

pub slots_left : (w : World) (n : ℕ) (slots : List Slot) → slots ≡ replicate n (record { state = Disabled; scribbles = false }) →
    FollowsSlots slots (reset w).slot_state (reset w).scribbles
unfolding reset
slots_left w n slots same = record {
  each = λ s x at.
      let e = replicate_at n s _ x (subst (λ (xs : List Slot). slice_get xs s ≡ Some x) same at) in
      (ap (λ y. y.state) e, ap (λ y. y.scribbles) e);
}

pub endpoints_left : (w : World) (n : ℕ) (endpoints : List Endpoint) → endpoints ≡ replicate n (record { state = Off; ring = None; is_isochronous = false }) →
    FollowsEndpoints endpoints (reset w).endpoint_state (reset w).ring_of (reset w).isochronous
unfolding reset
endpoints_left w n endpoints same = record {
  each = λ s i x low at.
      let e = replicate_at n (s * 32 + i) _ x (subst (λ (xs : List Endpoint). slice_get xs (s * 32 + i) ≡ Some x) same at) in
      (ap (λ y. y.state) e, ap (λ y. y.ring) e, ap (λ y. y.is_isochronous) e);
  no_more = λ s i far. refl;
  low = λ s i r e. absurd (cc);
}
