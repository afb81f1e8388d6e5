-- One endpoint is changed
use Rattle.controller_model.proofs.LowerLaws.{put_pair_here, put_pair_id, ◌≡◌, ◌+◌, ◌*◌, ◌<◌, ◌∙◌, ℕ, Bool, ap, sym, subst, List, Option, Some, length, slice_get, get_or, set, inl, inr, arith, cases_eq, put_pair, put_pair_index, put_pair_same, put_pair_slot, EndpointState, Endpoint, FollowsEndpoints, read_at, slice_get-set_same, slice_get-set_other}

module _ (endpoints : List Endpoint) (state : ℕ → ℕ → EndpointState) (ring_of : ℕ → ℕ → Option ℕ) (isochronous : ℕ → ℕ → Bool) (n s i : ℕ)
    (index : n ≡ s * 32 + i) (below : i < 32) (f : FollowsEndpoints endpoints state ring_of isochronous) where
  -- all that is kept of an endpoint is replaced
  all_set : (new : Endpoint) → ((r : ℕ) → new.ring ≡ Some r → r < 256) →
      FollowsEndpoints (set endpoints n new) (put_pair state s i new.state) (put_pair ring_of s i new.ring) (put_pair isochronous s i new.is_isochronous)
  all_set new low = record {
    each = λ t j y within at. elim (cases_eq t s) [
      | inr apart ↦
          let old = f.each t j y within (sym (slice_get-set_other endpoints n (t * 32 + j) new (λ e. apart (omega arith))) ∙ at) in (
            put_pair_slot state s i t j new.state apart ∙ old.0,
            put_pair_slot ring_of s i t j new.ring apart ∙ old.1,
            put_pair_slot isochronous s i t j new.is_isochronous apart ∙ old.2,
          )
      | inl same ↦ elim (cases_eq j i) [
        | inr apart ↦
            let old = f.each t j y within (sym (slice_get-set_other endpoints n (t * 32 + j) new (λ e. apart (omega arith))) ∙ at) in (
              put_pair_index state s i t j new.state apart ∙ old.0,
              put_pair_index ring_of s i t j new.ring apart ∙ old.1,
              put_pair_index isochronous s i t j new.is_isochronous apart ∙ old.2,
            )
        | inl there ↦
            let place : t * 32 + j ≡ n = omega arith in
            let P : ℕ → Type 0 = λ k. slice_get (set endpoints n new) k ≡ Some y in
            let is : new ≡ y = slice_get-set_same endpoints n new y (subst P place at) in (
              put_pair_here state s i t j new.state same there ∙ ap (λ (z : Endpoint). z.state) is,
              put_pair_here ring_of s i t j new.ring same there ∙ ap (λ (z : Endpoint). z.ring) is,
              put_pair_here isochronous s i t j new.is_isochronous same there ∙ ap (λ (z : Endpoint). z.is_isochronous) is,
            )
      ]
    ];
    no_more = λ t j many. put_pair_index ring_of s i t j new.ring (λ e. omega arith) ∙ f.no_more t j many;
    low = grind (arith, cases_eq, put_pair_slot, put_pair_index, put_pair_same);
  }

  module _ (slot : s < 256) (many : length endpoints ≡ 256 * 32) (x new : Endpoint) (value : x ≡ get_or endpoints n x) where
    was : (state s i ≡ x.state) × (ring_of s i ≡ x.ring) × (isochronous s i ≡ x.is_isochronous)
    was = f.each s i x below (read_at endpoints n (s * 32 + i) x index (omega arith) value)

    -- its state and its ring
    pub endpoints_set : new.is_isochronous ≡ x.is_isochronous → ((r : ℕ) → new.ring ≡ Some r → r < 256) →
        FollowsEndpoints (set endpoints n new) (put_pair state s i new.state) (put_pair ring_of s i new.ring) isochronous
    endpoints_set typed low = rw (put_pair_id isochronous s i new.is_isochronous (was.2 ∙ sym typed)) at (all_set new low)

    kept_low : new.ring ≡ x.ring → (r : ℕ) → new.ring ≡ Some r → r < 256
    kept_low kept r has = f.low s i r (was.1 ∙ sym kept ∙ has)

    -- its state
    pub endpoints_state : new.is_isochronous ≡ x.is_isochronous → new.ring ≡ x.ring → FollowsEndpoints (set endpoints n new) (put_pair state s i new.state) ring_of isochronous
    endpoints_state typed kept = rw (put_pair_id ring_of s i new.ring (was.1 ∙ sym kept)) at (endpoints_set typed (kept_low kept))

    -- whether it is isochronous
    pub endpoints_type : new.state ≡ x.state → new.ring ≡ x.ring → FollowsEndpoints (set endpoints n new) state ring_of (put_pair isochronous s i new.is_isochronous)
    endpoints_type stays kept =
        rw (put_pair_id state s i new.state (was.0 ∙ sym stays), put_pair_id ring_of s i new.ring (was.1 ∙ sym kept)) at (all_set new (kept_low kept))
