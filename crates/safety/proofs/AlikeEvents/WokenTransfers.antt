-- A Transfer Event that is possible where a ring is held: it is so where the ring was woken, and leaves it woken
use Rattle.safety.proofs.MiddleLaws.{spot_same, is_stopping, told_alike, code_told, ◌≡◌, ◌≢◌, ◌≤◌, ◌&&◌, ◌||◌, if◌then◌else◌, ◌∙◌, ℕ, Bool, true, false, not, Option, None, Some, arith, refl, sym, ap, subst, ltb-true, lt-ltb, rules, false≢true, and_parts, and_from, or_parts, or_from, not-false, not_from_true, same_Some, option_map, Block, slot, endpoint, is_success, is_halting, is_trb_error, Spot, number, after, changed, given_count, ceiling, is_data_below, is_open, is_stop_spot, is_step_given, is_way_given, given_count_same, EndpointState, Halted, Error, is_off, is_running, Header, shape_of, Known, RingSpot, on_ring, spot_on, event_at, passed, broken_off, stopped_at, transferred, transferred_at, transfer_read, is_in_profile, is_working, is_stopping_now, can_report, can_report_at, is_impossible_transfer, both_sides, chain_from, SameDriver, event_ring_of, Woken, woken_floor, woken_reach, woken_elsewhere, woken_state, woken_move, woken_seen}
use Rattle.segments.proofs.Named.{ceiling_open}
use Rattle.safety.proofs.AlikeEvents.AlikeChanges.{both_sides_if}

-- an event that is no success comes from an endpoint that works
pub works_there : (b c low told works stops spot : Bool) → b ≡ false → (if b then low else if c then low && works else told && (works && stops && spot)) ≡ true → works ≡ true
works_there b c low told works stops spot out can = grind arith

module _ (h : Header) (r : ℕ) (S : ℕ → ℕ → Bool) (k l : Known) (w : Woken h r S k l) where
  -- ---- what is read

  module _ (s i q : ℕ) (t : Spot) (other : q ≢ r) (apart : S s i ≡ false) where
    broken_woken : (e : EndpointState) → Woken h r S (broken_off h k s i q t e) (broken_off h l s i q t e)
    unfolding broken_off passed on_ring
    broken_woken e = search (rules, woken_state, on_ring, passed, number, woken_elsewhere, woken_reach, after, shape_of)

    stopped_woken : Woken h r S (stopped_at h k s i q t) (stopped_at h l s i q t)
    unfolding stopped_at on_ring
    stopped_woken = search (rules, woken_seen, woken_reach, woken_elsewhere)

  transferred_woken : (c s i q : ℕ) (t : Spot) → (is_success c ≡ false → (q ≢ r) × (S s i ≡ false)) → Woken h r S (transferred h k c s i q t) (transferred h l c s i q t)
  unfolding transferred broken_off on_ring passed
  transferred_woken c s i q t apart =
      both_sides_if (Woken h r S) (is_success c) _ _ _ _ (λ _. (woken_reach h r S k l w q (after (shape_of h q) (number t))))
      (λ out. let x = apart out in
      both_sides (Woken h r S) (is_halting c) _ _ _ _
      (woken_move h r S (broken_off h k s i q t Halted) (broken_off h l s i q t Halted) s i true (broken_woken s i q t x.0 x.1 Halted))
      (both_sides (Woken h r S) (is_trb_error c) _ _ _ _ (broken_woken s i q t x.0 x.1 Error) (both_sides (Woken h r S) (is_stopping c) _ _ _ _ (stopped_woken s i q t x.0 x.1) w)))

  -- ---- what is possible

  module _ (held : is_open (k.ring r) ≡ false) (within : ceiling (shape_of h r) (k.ring r) ≤ given_count (shape_of h r) (k.ring r))
      (mine : (s i : ℕ) → S s i ≡ true → k.ring_of s i ≡ Some r) (stopping : (s i : ℕ) → is_stopping_now h k s i ≡ true → is_stopping_now h l s i ≡ true) where
    -- an endpoint that works hasn't the ring that is held
    works_apart : (s i q : ℕ) → k.ring_of s i ≡ Some q → is_working k s i q ≡ true → (q ≢ r) × (S s i ≡ false)
    unfolding is_working
    works_apart s i q has works = search (rules, and_parts, false≢true, same_Some)

    report_woken : (c s i q : ℕ) (t : Spot) → k.ring_of s i ≡ Some q → can_report h k c s i q t ≡ true → can_report h l c s i q t ≡ true
    unfolding can_report is_step_given is_way_given is_data_below is_working
    report_woken c s i q t has can = search (rules, chain_from, lt-ltb, ltb-true, ceiling_open, changed, given_count_same, and_parts, and_from, is_running, is_open, l.ring, w.state, k.endpoint_state, w.rings, works_apart)

    report_apart : (c s i q : ℕ) (t : Spot) → k.ring_of s i ≡ Some q → can_report h k c s i q t ≡ true → is_success c ≡ false → (q ≢ r) × (S s i ≡ false)
    unfolding can_report
    report_apart c s i q t has can out =
        works_apart s i q has
        (works_there (is_success c) (is_halting c || is_trb_error c) (is_data_below (ceiling (shape_of h q) (k.ring q)) t) (is_stopping c) (is_working k s i q) (is_stopping_now h k s i)
        (is_stop_spot (shape_of h q) (k.ring q) t) out can)

    report_at : (b : Block) (o : Option RingSpot) → ((at : RingSpot) → o ≡ Some at → k.ring_of (slot b) (endpoint b) ≡ Some at.ring) → can_report_at h k b o ≡ true →
        (can_report_at h l b o ≡ true) × Woken h r S (transferred_at h k b o) (transferred_at h l b o)
    unfolding can_report_at transferred_at
    report_at b None has can = (can, w)
    report_at b (Some at) has can =
        let c : ℕ = code_told h k b in
        let told : code_told h l b ≡ c = told_alike h k l b w.isochronous in (
          ap (λ x. can_report h l x (slot b) (endpoint b) at.ring at.spot) told ∙ report_woken c (slot b) (endpoint b) at.ring at.spot (has at refl) can,
          subst (λ x. Woken h r S (transferred h k c (slot b) (endpoint b) at.ring at.spot) (transferred h l x (slot b) (endpoint b) at.ring at.spot)) (sym told)
              (transferred_woken c (slot b) (endpoint b) at.ring at.spot (report_apart c (slot b) (endpoint b) at.ring at.spot (has at refl) can)),
        )

    off_woken : (s i : ℕ) → is_off (k.endpoint_state s i) ≡ false → is_off (l.endpoint_state s i) ≡ false
    off_woken s i on = search rules

    module _ (d : SameDriver k l) where
      event_same : (b : Block) → event_at h l b ≡ event_at h k b
      unfolding event_at spot_on
      event_same b = grind (arith, option_map, spot_same, woken_floor, w.ring_of)

      pub transfer_woken : (b : Block) → is_impossible_transfer h k b ≡ false → is_in_profile h k b ≡ true →
          (is_impossible_transfer h l b ≡ false) × Woken h r S (transfer_read h k b) (transfer_read h l b)
      unfolding transfer_read is_impossible_transfer
      transfer_woken b possible inside =
          let s : ℕ = slot b in
          let i : ℕ = endpoint b in
          let parts = or_parts (is_off (k.endpoint_state s i)) (not (can_report_at h k b (event_at h k b)))
          (second (is_in_profile h k b) (is_off (k.endpoint_state s i) || not (can_report_at h k b (event_at h k b))) inside possible) in
          let both = report_at b (event_at h k b) (event_ring_of h k b) (not-false (can_report_at h k b (event_at h k b)) parts.1) in (
            and_right (is_in_profile h l b) (is_off (l.endpoint_state s i) || not (can_report_at h l b (event_at h l b)))
                (or_from (is_off (l.endpoint_state s i)) (not (can_report_at h l b (event_at h l b))) (off_woken s i parts.0)
                (not_from_true (can_report_at h l b (event_at h l b)) (ap (λ o. can_report_at h l b o) (event_same b) ∙ both.0))),
            subst (λ o. Woken h r S (transferred_at h k b (event_at h k b)) (transferred_at h l b o)) (sym (event_same b)) both.1,
          )
        where
          and_right : (x y : Bool) → y ≡ false → (x && y) ≡ false
          and_right true y e = e
          and_right false y e = refl

          second : (x y : Bool) → x ≡ true → (x && y) ≡ false → y ≡ false
          second x y in_it both = ap (λ b. b && y) (sym in_it) ∙ both
