-- What a doorbell adds to the record of a trace
use Rattle.driver_rows.proofs.MiddleLaws.{rules, ◌≡◌, ◌≢◌, ℕ, List, true, false, Option, Some, None, refl, ap, sym, ◌∙◌, inl, inr, subst, ◌==◌, slice_get, position, if◌then◌else◌, cases_eq, eqb-true, eq-eqb, ne_eqb, cond_both, false≢true, Opens, Ring, Header, Bell, IsHeader, is_command_kind, command_id, RingRecord, Known, on_ring, rung, endpoint_rung, learned, FollowsDevices, rung_first, rung_later, ring_elsewhere, unfinished_rung, FollowsRings, IsAmong, among_at, no_command_here, TraceRecord, FollowsTrace, number_of, number_rung, found_at, command_found, command_id_is, AreOffAs, IsBeside, put_on, rings_same, followed}
use Rattle.driver_rows.proofs.DoorbellRows.Followed.{none_found}

module _ (h : Header) (k : Known) (s t : ℕ) where
  -- nothing but rings and the state of endpoints changes
  rung_beside : IsBeside k (rung h k s t)
  unfolding rung endpoint_rung on_ring
  rung_beside = search rules

  -- a Stopped endpoint is on, and so is a Running one
  endpoint_off : (o : Option ℕ) → AreOffAs k (endpoint_rung h k s t o)
  unfolding endpoint_rung on_ring
  endpoint_off o e = search (rules, put_on)

  rung_off : AreOffAs k (rung h k s t)
  unfolding rung on_ring
  rung_off = cond_both (s == 0) (on_ring h k (command_id h) Opens) (endpoint_rung h k s t (k.ring_of s t)) (λ l. AreOffAs k l) (λ _ q. refl) (λ _. endpoint_off (k.ring_of s t))

  module _ (headed : IsHeader h) (items after : List RingRecord) (f : FollowsRings h k items) where
    -- a ring that none of the header is
    elsewhere : (r : ℕ) → ((q : Ring) → IsAmong q h.rings → q.id ≢ r) → FollowsRings h (on_ring h k r Opens) items
    elsewhere r none = rings_same h headed k (on_ring h k r Opens) items f (λ q among. ring_elsewhere h k r q.id Opens (none q among))

    module _ (opened : (o : Option ℕ) (n : ℕ) (ring : Ring) → o ≡ number_rung h k s t → o ≡ Some n → slice_get h.rings n ≡ Some ring → FollowsRings h (on_ring h k ring.id Opens) after)
        (none : number_rung h k s t ≡ None → after ≡ items) where
      of_host : (o : Option ℕ) → (s == 0) ≡ true → position (λ ring. is_command_kind ring.shape.kind) h.rings ≡ o → FollowsRings h (on_ring h k (command_id h) Opens) after
      of_host None host is =
          subst (λ (xs : List RingRecord). FollowsRings h (on_ring h k (command_id h) Opens) xs) (sym (none (ap (λ b. if b then position (λ ring. is_command_kind ring.shape.kind) h.rings else number_of h.rings (k.ring_of s t)) host ∙ is)))
          (elsewhere (command_id h) (λ q among. no_command_here h headed q among (none_found (λ ring. is_command_kind ring.shape.kind) h.rings is q among)))
      of_host (Some n) host is =
          let found = found_at (λ ring. is_command_kind ring.shape.kind) h.rings n is in
          let id = command_id_is h found.0 (command_found h headed found.0 (among_at h.rings n found.0 found.1) found.2) in
          subst (λ (r : ℕ). FollowsRings h (on_ring h k r Opens) after) (sym id)
          (opened (Some n) n found.0 (sym (ap (λ b. if b then position (λ ring. is_command_kind ring.shape.kind) h.rings else number_of h.rings (k.ring_of s t)) host ∙ is)) refl found.1)

      same_number : (s == 0) ≡ false → number_rung h k s t ≡ number_of h.rings (k.ring_of s t)
      same_number other = ap (λ b. if b then position (λ ring. is_command_kind ring.shape.kind) h.rings else number_of h.rings (k.ring_of s t)) other

      with_state : (r : ℕ) → FollowsRings h (on_ring h k r Opens) after → FollowsRings h (endpoint_rung h k s t (Some r)) after
      unfolding endpoint_rung
      with_state r g = rings_same h headed (on_ring h k r Opens) (endpoint_rung h k s t (Some r)) after g (λ q among. refl)

      of_ring : (r : ℕ) (o : Option ℕ) → number_rung h k s t ≡ o → position (λ ring. ring.id == r) h.rings ≡ o → FollowsRings h (on_ring h k r Opens) after
      of_ring r None number is =
          subst (λ (xs : List RingRecord). FollowsRings h (on_ring h k r Opens) xs) (sym (none number))
          (elsewhere r (λ q among same. false≢true (sym (none_found (λ ring. ring.id == r) h.rings is q among) ∙ eq-eqb q.id r same)))
      of_ring r (Some n) number is =
          let found = found_at (λ ring. ring.id == r) h.rings n is in
          subst (λ (i : ℕ). FollowsRings h (on_ring h k i Opens) after) (eqb-true found.0.id r found.2) (opened (Some n) n found.0 (sym number) refl found.1)

      of_endpoint : (o : Option ℕ) → number_rung h k s t ≡ number_of h.rings o → FollowsRings h (endpoint_rung h k s t o) after
      unfolding endpoint_rung
      of_endpoint None number = subst (λ (xs : List RingRecord). FollowsRings h k xs) (sym (none number)) f
      of_endpoint (Some r) number = with_state r (of_ring r (position (λ ring. ring.id == r) h.rings) number refl)

      rung_rings : FollowsRings h (rung h k s t) after
      rung_rings = elim (cases_eq s 0) [
        | inl host ↦ subst (λ (l : Known). FollowsRings h l after) (sym (rung_first h k s t host)) (of_host (position (λ ring. is_command_kind ring.shape.kind) h.rings) (eq-eqb s 0 host) refl)
        | inr other ↦ subst (λ (l : Known). FollowsRings h l after) (sym (rung_later h k s t other)) (of_endpoint (k.ring_of s t) (same_number (ne_eqb s 0 other)))
      ]

  -- the whole record
  pub follows_rung : IsHeader h → (before after : TraceRecord) (m : ℕ → ℕ) → FollowsTrace h k before m → after ≡ record before { rings = after.rings; devices = after.devices } →
      ((o : Option ℕ) (n : ℕ) (ring : Ring) → o ≡ number_rung h k s t → o ≡ Some n → slice_get h.rings n ≡ Some ring → FollowsRings h (on_ring h k ring.id Opens) after.rings.items) →
      (number_rung h k s t ≡ None → after.rings.items ≡ before.rings.items) → FollowsDevices (rung h k s t) after.devices → FollowsTrace h (learned h k (Bell s t)) after m
  unfolding learned
  follows_rung headed before after m f is opened none devices = search (rules, followed, rung_beside, rung_off, unfinished_rung, rung_rings)
