-- What is kept of rings while endpoints are disabled
use Rattle.controller_model.proofs.LowerLaws.{rules, ◌≡◌, ◌<◌, ◌==◌, ◌&&◌, ◌∙◌, if◌then◌else◌, ℕ, not, Bool, true, false, List, Option, Some, None, refl, sym, ap, subst, arith, Header, is_ring, World, RingState, disabled, has_one_of, Kept, Off, Follows, FollowsEndpoints, FollowsHolder, FollowsRings, IsEndpoint, ring_held, turned_off, here, elsewhere, place_of, put_pair_here, put_pair_there, put_pair_map, any_alike}

-- an endpoint that has no ring is disabled
pub rings_off : (h : Header) (w : World) (s i : ℕ) (rings : List RingState) → ((r : ℕ) → IsEndpoint s i → is_ring r (w.ring_of s i) ≡ false) →
    FollowsRings h (ring_held w) rings → FollowsRings h (ring_held (turned_off w s i)) rings
rings_off h w s i rings nothing f = record {
  each = λ r x at.
      let old = f.each r x at in
      let had = λ (t j : ℕ). is_ring r (w.ring_of t j) in
      let P : (ℕ → ℕ → Bool) → Type 0 = λ test. FollowsHolder test x.holder in
      assumption (subst P (sym (put_pair_map (is_ring r) w.ring_of s i None)) (search (rules, place_of, elsewhere, put_pair_there, here, put_pair_here)));
}

-- only the endpoints below 32 matter
pub disabled_below : (h : Header) (words : ℕ → ℕ) (before k : Kept) (w : World) (s : ℕ) (p q : ℕ → Bool) → ((i : ℕ) → i < 32 → p i ≡ q i) →
    Follows h words before w → Follows h words k (disabled w s p) → Follows h words k (disabled w s q)
unfolding disabled has_one_of
disabled_below h words before k w s p q same first f =
    let rings : FollowsRings h (ring_held (disabled w s q)) k.rings.items = record {
      each = λ r x at.
          let old = f.rings.each r x at in
          let holder : FollowsHolder (λ t j. is_ring r (if t == s && q j then None else w.ring_of t j)) x.holder = record {
            each = λ t j one. ap (λ b. is_ring r (if t == s && b then None else w.ring_of t j)) (sym (same j one.index_below)) ∙ old.holder.each t j one;
            is_one = old.holder.is_one;
          } in
          assumption (holder, ap (λ b. w.is_active r && not b) (any_alike _ _ 1 31 (λ i low high. ap (λ b. b && is_ring r (w.ring_of s i)) (sym (same i (omega arith))))) ∙ old.active);
    } in
    let endpoints : FollowsEndpoints k.endpoints.items (disabled w s q).endpoint_state (disabled w s q).ring_of (disabled w s q).isochronous = record {
      each = λ t j x below at.
          let old = f.endpoints.each t j x below at in (
            ap (λ b. if t == s && b then Off else w.endpoint_state t j) (sym (same j below)) ∙ old.0,
            ap (λ b. if t == s && b then None else w.ring_of t j) (sym (same j below)) ∙ old.1,
            old.2,
          );
      no_more = λ t j many. still (t == s && q j) (w.ring_of t j) (first.endpoints.no_more t j many);
      low = λ t j r has. first.endpoints.low t j r (had (t == s && q j) (w.ring_of t j) r has);
    } in
    assumption (rings, endpoints)
  where
    still : (b : Bool) (o : Option ℕ) → o ≡ None → (if b then None else o) ≡ None
    still true o none = refl
    still false o none = none

    had : (b : Bool) (o : Option ℕ) (r : ℕ) → (if b then None else o) ≡ Some r → o ≡ Some r
    had true o r e = absurd (cc)
    had false o r e = e
