-- A doorbell is rung
use Rattle.trace_record.proofs.MiddleLaws.{rules, ◌≡◌, ◌==◌, ◌≤◌, ◌&&◌, if◌then◌else◌, ◌∙◌, ℕ, Option, None, ap, sym, subst, nat_lt, is_some, slice_index_or, eq-eqb, ne_eqb, le-ltb, cond-true, cond-false, put_pair, Opens, is_stopped, Running, Header, command_id, Known, on_ring, endpoint_rung, rung, Endpoint, DeviceRecord, rung_endpoint, FollowsDevices, IsWithEndpoint, endpoint_at, fresh_endpoint, follows_beside, follows_still, follows_state}

module _ (h : Header) (k : Known) (s t : ℕ) where
  -- the host controller's doorbell
  pub rung_first : s ≡ 0 → rung h k s t ≡ on_ring h k (command_id h) Opens
  unfolding rung
  rung_first none = cond-true (s == 0) (on_ring h k (command_id h) Opens) (endpoint_rung h k s t (k.ring_of s t)) (eq-eqb s 0 none)

  pub rung_later : (s ≡ 0 → ⊥) → rung h k s t ≡ endpoint_rung h k s t (k.ring_of s t)
  unfolding rung
  rung_later some = cond-false (s == 0) (on_ring h k (command_id h) Opens) (endpoint_rung h k s t (k.ring_of s t)) (ne_eqb s 0 some)

  -- there is no endpoint with an index above 31
  pub no_ring_beyond : (d : DeviceRecord) → FollowsDevices k d → 32 ≤ t → k.ring_of s t ≡ None
  no_ring_beyond d f far = search (rules, cond-false, nat_lt, slice_index_or, fresh_endpoint, le-ltb)

  pub rung_none : k.ring_of s t ≡ None → endpoint_rung h k s t (k.ring_of s t) ≡ k
  unfolding endpoint_rung
  rung_none none = ap (λ o. endpoint_rung h k s t o) none

-- the record after the doorbell of the host controller
pub follows_first : (h : Header) (k : Known) (s t : ℕ) (d : DeviceRecord) → FollowsDevices k d → s ≡ 0 → FollowsDevices (rung h k s t) d
unfolding on_ring
follows_first h k s t d f none = subst (λ k'. FollowsDevices k' d) (sym (rung_first h k s t none)) (follows_beside k (on_ring h k (command_id h) Opens) d f)

-- and after that of no endpoint
pub follows_beyond : (h : Header) (k : Known) (s t : ℕ) (d : DeviceRecord) → FollowsDevices k d → (s ≡ 0 → ⊥) → 32 ≤ t → FollowsDevices (rung h k s t) d
follows_beyond h k s t d f some far =
    subst (λ k'. FollowsDevices k' d) (sym (rung_later h k s t some ∙ rung_none h k s t (no_ring_beyond h k s t d f far))) f

module _ (h : Header) (k : Known) (s t : ℕ) (old new : DeviceRecord) (f : FollowsDevices k old) (x : Endpoint) (w : IsWithEndpoint old new s t x) where
  by_ring : (o : Option ℕ) → x ≡ (if is_some o && is_stopped (k.endpoint_state s t) then record (endpoint_at old.endpoints.items s t) { state = Running } else endpoint_at old.endpoints.items s t) →
      FollowsDevices (endpoint_rung h k s t o) new
  unfolding endpoint_rung on_ring
  by_ring o h1 = search (rules, follows_still, follows_beside, put_pair, on_ring, follows_state, is_stopped)

  pub follows_rung : (s ≡ 0 → ⊥) → x ≡ rung_endpoint (endpoint_at old.endpoints.items s t) → FollowsDevices (rung h k s t) new
  follows_rung some is = search (rules, rung_later, by_ring, is_some, is_stopped, endpoint_at)
