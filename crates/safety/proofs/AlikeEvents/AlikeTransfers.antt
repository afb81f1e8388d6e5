-- A Transfer Event that is possible at one of two knowledges that are alike: it is possible at the other, and leaves both alike
use Rattle.safety.proofs.LowerLaws.{spot_named, has_event_data, ceiling, told_below, ◌<◌, option_map, same_Some, None, cond-true, code, is_of_service, told_alike, ◌≡◌, ◌&&◌, ◌||◌, if◌then◌else◌, ◌∙◌, ℕ, Bool, true, false, not, Option, Some, arith, refl, sym, ap, inl, inr, rules, false≢true, and_parts, and_from, or_parts, and_cases, or_from, not-false, not_from_true, none-some, put_pair, Block, slot, endpoint, Spot, number, after, EndpointState, is_off, Header, shape_of, Known, RingSpot, on_ring, spot_on, event_at, passed, broken_off, stopped_at, transferred, transferred_at, transfer_read, is_in_profile, is_working, is_stopping_now, can_report, can_report_at, is_impossible_transfer}
use Rattle.safety.proofs.AlikeEvents.Alike.{Alike, below_more, open_alike, stop_more, stopped_more, reached_alike, held_alike}

pub both_sides : {A : Type 0} (R : A → A → Type 0) (b : Bool) (x y u v : A) → R x u → R y v → R (if b then x else y) (if b then u else v)
both_sides R b x y u v here there = grind arith

-- from one chain of two tests to another
pub chain_from : (b c x y z u v w : Bool) → (x ≡ true → u ≡ true) → (y ≡ true → v ≡ true) → (z ≡ true → w ≡ true) →
    (if b then x else if c then y else z) ≡ true → (if b then u else if c then v else w) ≡ true
chain_from b c x y z u v w one two three h = grind arith

pub state_put : (P : ℕ → Type 0) (m n : Known) (s i : ℕ) (state : EndpointState) → Alike P m n →
    Alike P (let x : Known = record m { endpoint_state = put_pair m.endpoint_state s i state } in x) (let x : Known = record n { endpoint_state = put_pair n.endpoint_state s i state } in x)
state_put P m n s i state b = search rules

pub move_put : (P : ℕ → Type 0) (m n : Known) (s i : ℕ) (f g : ℕ → ℕ → Bool) (must : Bool) → f ≡ g → Alike P m n →
    Alike P (let x : Known = record m { must_move = put_pair g s i must } in x) (let x : Known = record n { must_move = put_pair f s i must } in x)
move_put P m n s i f g must same b = search rules

pub seen_put : (P : ℕ → Type 0) (m n : Known) (s i : ℕ) (seen : Bool) → Alike P m n →
    Alike P (let x : Known = record m { stop_seen = put_pair m.stop_seen s i seen } in x) (let x : Known = record n { stop_seen = put_pair n.stop_seen s i seen } in x)
seen_put P m n s i seen b = search rules

module _ (h : Header) (P : ℕ → Type 0) (k l : Known) (a : Alike P k l) where
  -- ---- what is read

  passed_alike : (r : ℕ) (t : Spot) → Alike P (passed h k r t) (passed h l r t)
  unfolding passed
  passed_alike r t = reached_alike h P k l a r (after (shape_of h r) (number t))

  broken_alike : (s i r : ℕ) (t : Spot) (state : EndpointState) → Alike P (broken_off h k s i r t state) (broken_off h l s i r t state)
  unfolding broken_off passed on_ring
  broken_alike s i r t state = search (rules, state_put, on_ring, passed, number, held_alike, passed_alike)

  stopped_alike : (s i r : ℕ) (t : Spot) → Alike P (stopped_at h k s i r t) (stopped_at h l s i r t)
  unfolding stopped_at on_ring
  stopped_alike s i r t = grind (arith, held_alike, stopped_more, seen_put, reached_alike)

  -- ---- what is possible

  working_alike : (s i r : ℕ) → is_working k s i r ≡ true → is_working l s i r ≡ true
  unfolding is_working
  working_alike s i r works = grind (arith, and_parts, and_from, open_alike)

  module _ (stopping : (s i : ℕ) → is_stopping_now h k s i ≡ true → is_stopping_now h l s i ≡ true) where
    report_alike : (c s i r : ℕ) (t : Spot) → can_report h k c s i r t ≡ true → can_report h l c s i r t ≡ true
    unfolding can_report
    report_alike c s i r t can = search (rules, below_more, chain_from, and_parts, and_from, working_alike, stop_more)

    report_at : (b : Block) (o p : Option RingSpot) → ((at : RingSpot) → o ≡ Some at → p ≡ Some at) → (is_of_service (code b) ≡ true → p ≡ None) → can_report_at h k b o ≡ true →
        (can_report_at h l b p ≡ true) × Alike P (transferred_at h k b o) (transferred_at h l b p)
    unfolding can_report_at transferred_at transferred
    report_at b o p same none can = search (rules, false≢true, report_alike, told_alike, Alike, both_sides, passed_alike, move_put, broken_alike, stopped_alike)

    -- each spot that is named on an endpoint's ring is so at the other too
    module _ (names : (b : Block) (r : ℕ) (t : Spot) → k.ring_of (slot b) (endpoint b) ≡ Some r → (has_event_data b ≡ true → number t < ceiling (shape_of h r) (k.ring r)) → spot_named h k b r ≡ Some t → spot_named h l b r ≡ Some t) where
      event_alike : (b : Block) (at : RingSpot) → (has_event_data b ≡ true → number at.spot < ceiling (shape_of h at.ring) (k.ring at.ring)) → event_at h k b ≡ Some at → event_at h l b ≡ Some at
      unfolding event_at spot_on
      event_alike b at below e = grind (arith, none-some, same_Some, option_map, names)

      none_alike : (b : Block) → is_of_service (code b) ≡ true → event_at h l b ≡ None
      unfolding event_at
      none_alike b service = cond-true (is_of_service (code b)) None _ service

      pub transfer_alike : (b : Block) → is_impossible_transfer h k b ≡ false → is_in_profile h k b ≡ true →
          (is_impossible_transfer h l b ≡ false) × Alike P (transfer_read h k b) (transfer_read h l b)
      unfolding transfer_read is_impossible_transfer
      transfer_alike b possible inside =
          elim (and_cases (is_in_profile h k b) (is_off (k.endpoint_state (slot b) (endpoint b)) || not (can_report_at h k b (event_at h k b))) possible) [
            | inl outside ↦ absurd (false≢true (sym outside ∙ inside))
            | inr none ↦
                let parts = or_parts (is_off (k.endpoint_state (slot b) (endpoint b))) (not (can_report_at h k b (event_at h k b))) none in
                let reported = report_at b (event_at h k b) (event_at h l b) (λ at found.
                event_alike b at (told_below h k b at inside (ap (can_report_at h k b) (sym found) ∙ not-false (can_report_at h k b (event_at h k b)) parts.1)) found) (none_alike b) (not-false (can_report_at h k b (event_at h k b)) parts.1) in (
                  and_right (is_in_profile h l b) (is_off (l.endpoint_state (slot b) (endpoint b)) || not (can_report_at h l b (event_at h l b)))
                      (or_from (is_off (l.endpoint_state (slot b) (endpoint b))) (not (can_report_at h l b (event_at h l b)))
                      (ap (λ f. is_off (f (slot b) (endpoint b))) a.endpoint_state ∙ parts.0) (not_from_true (can_report_at h l b (event_at h l b)) reported.0)),
                  reported.1,
                )
          ]
        where
          and_right : (x y : Bool) → y ≡ false → (x && y) ≡ false
          and_right true y e = e
          and_right false y e = refl
