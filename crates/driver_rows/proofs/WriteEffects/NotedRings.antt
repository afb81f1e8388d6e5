-- The records of rings after the ring that has a word has noted its write
use Rattle.driver_rows.proofs.MiddleLaws.{rules, ◌≡◌, ℕ, ◌%◌, List, true, false, Some, ap, sym, ◌∙◌, set, subst, slice_get, is_inside, touches, RingView, Writes, changed, touches-word, Ring, Header, IsHeader, is_driver_kind, RingRecord, FollowsRing, Known, with_word, FollowsRings, false_unless, IsAmong, among_at, shape_allowed, shape_there, nothing_changed, rings_noted}

module _ (h : Header) (headed : IsHeader h) (a w : ℕ) (aligned : a % 4 ≡ 0) (k : Known) (records : List RingRecord) (f : FollowsRings h k records) where
  view_written : (q : Ring) → IsAmong q h.rings → (with_word h k a w).ring q.id ≡ changed q.shape (k.ring q.id) (Writes a w)
  unfolding with_word
  view_written q among = ap (λ s. changed s (k.ring q.id) (Writes a w)) (shape_there h headed q among)

  inside_is : (q : Ring) → IsAmong q h.rings → touches q.shape a 4 ≡ is_inside q.shape a
  inside_is q among = touches-word q.shape (shape_allowed h headed q among) a aligned

  other_written : (q : Ring) → IsAmong q h.rings → is_inside q.shape a ≡ false → (r : RingRecord) → FollowsRing q.shape (k.ring q.id) r → FollowsRing q.shape ((with_word h k a w).ring q.id) r
  other_written q among outside r t = search (rules, view_written, nothing_changed)

  -- no ring has it
  pub noted_nowhere : ((q : Ring) → IsAmong q h.rings → touches q.shape a 4 ≡ false) → FollowsRings h (with_word h k a w) records
  noted_nowhere none = record {
    as_many = f.as_many;
    each = λ i q r there is driver.
        let among = among_at h.rings i q there in
        other_written q among (sym (inside_is q among) ∙ none q among) r (f.each i q r there is driver);
  }

  -- ring n has it
  module _ (n : ℕ) (ring : Ring) (at : slice_get h.rings n ≡ Some ring) (has : touches ring.shape a 4 ≡ true) where
    pub noted_here : (old new : RingRecord) (after : List RingRecord) → slice_get records n ≡ Some old → after ≡ set records n new →
        (is_driver_kind ring.shape.kind ≡ true → FollowsRing ring.shape (k.ring ring.id) old → FollowsRing ring.shape (changed ring.shape (k.ring ring.id) (Writes a w)) new) →
        FollowsRings h (with_word h k a w) after
    noted_here old new after was is noted =
        subst (FollowsRings h (with_word h k a w)) (sym is)
        (rings_noted h headed k (with_word h k a w) records f n ring at (λ q among apart r g. other_written q among (search (rules, false_unless, inside_is, among_at)) r g) new
        (λ driver. subst (λ (v : RingView). FollowsRing ring.shape v new) (sym (view_written ring (among_at h.rings n ring at))) (noted driver (f.each n ring old at was driver))))
