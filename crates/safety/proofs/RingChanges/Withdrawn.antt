-- A descriptor that is withdrawn of a ring whose endpoint has stopped: what a driver keeps stays, and the row may be made behind any event
-- that isn't read yet
use Rattle.safety.proofs.UpperLaws.{ceiling_held, KeepsValues, Shape, may_tell_value, may_be_told, data_at, no_ops, List, zero, suc, ◌<◌, ◌≤◌, ◌+◌, Option, is_some, any_in_range, none_in_range, le-leb, lt-ltb, leb-true, ltb-true, nat_le, nat_lt, ceiling, floor_number, changed, cases_option, floors_grow, ◌∷◌, [], ◌≡◌, ◌≢◌, ◌==◌, ◌&&◌, ◌∙◌, ℕ, not, true, false, None, Some, refl, sym, ap, subst, inl, inr, eq-eqb, arith, rules, length_from, Withdraws, withdraws_keeps, has_stopped, is_bad_withdraw, rests_with, without_descriptor, cases_eq, list_any, range_with_len, or_parts, or_from, and_parts, and_from, not-false, not_from_true, not_from_false, not-true, false≢true, false_from_ne_true, Block, RingView, IsRestored, is_open, descriptor_length, Command, Running, Stopped, is_stopped, Header, Read, IsHeader, is_ring, shape_of, command_id, Known, on_ring, learned, is_touched, lenient, IsIn, some_of, any_of, MovesRestored, IsTransferRing, IsUnfinished, DriverKeeps, World, counted, Agrees, Runs, ring_is, ring_elsewhere, ring_shape, transfer_not_command, open_held, agrees_counted, set_touches, read_same, withdrawn_agrees, quiet_keeps, is_no_descriptor, is_unfit}
use Rattle.safety.proofs.Behind.HeldBehind.{read_holds}
use Rattle.safety.proofs.Beneath.StillRings.{untouched_behind}
use Rattle.safety.proofs.RingChanges.Restored.{IsGood, quiet_runs}
use Rattle.segments.specs.Descriptors as descriptors

-- ---- what an event may tell of the descriptor

-- a No Op tells no value
no_ops_tell : (xs : List Block) (p n q : ℕ) → (p ≤ q → q < p + n → data_at xs q ≡ None) → data_at (no_ops xs p n) q ≡ data_at xs q
unfolding data_at descriptors.no_ops
no_ops_tell [] p n q none = refl
no_ops_tell (b ∷ rest) zero zero q none = refl
no_ops_tell (b ∷ rest) zero (suc n) zero none = sym (none (omega arith) (omega arith))
no_ops_tell (b ∷ rest) zero (suc n) (suc q) none = no_ops_tell rest zero n q (λ low high. none (omega arith) (omega arith))
no_ops_tell (b ∷ rest) (suc p) n zero none = refl
no_ops_tell (b ∷ rest) (suc p) n (suc q) none = no_ops_tell rest p n q (λ low high. none (omega arith) (omega arith))

some_is : (o : Option ℕ) → is_some o ≡ false → o ≡ None
some_is o none = grind (arith, false≢true)

module _ (shape : Shape) (v : RingView) (p : ℕ) (none : may_tell_value shape v p ≡ false) where
  -- none of its blocks that may be told holds a value
  none_told : (q : ℕ) → p ≤ q → q < p + descriptor_length v p → floor_number v ≤ q → q < ceiling shape v → data_at v.queue q ≡ None
  unfolding may_tell_value may_be_told
  none_told q low high from below = some_is (data_at v.queue q) (search (rules, false_from_ne_true, false≢true, any_in_range, and_from, le-leb, lt-ltb))

  withdraws_values : KeepsValues shape v (changed shape v (Withdraws p))
  unfolding descriptor_length
  withdraws_values q from below = no_ops_tell v.queue p (length_from v.lengths 0 p) q (λ low high. none_told q low high from below)

  -- nor where the floor lies further on, and the ceiling no higher
  none_told_later : (w : RingView) → w.queue ≡ v.queue → descriptor_length w p ≡ descriptor_length v p → floor_number v ≤ floor_number w → ceiling shape w ≤ ceiling shape v → may_tell_value shape w p ≡ false
  unfolding may_tell_value may_be_told
  none_told_later w queue long floor top =
      none_in_range (may_be_told shape w) p (descriptor_length w p) (λ q low high. false_from_ne_true (may_be_told shape w q) (λ told.
      let some = and_parts (nat_le (floor_number w) q && nat_lt q (ceiling shape w)) (is_some (data_at w.queue q)) told in
      grind (arith, and_parts, leb-true, ltb-true, false≢true, none_told q)))

running_is_not : Running ≡ Stopped → ⊥
running_is_not same = false≢true (ap is_stopped same)

module _ (h : Header) (r p : ℕ) where
  -- the stopped endpoint that has the ring
  pub record HasStopped (k : Known) : Type 0 where
    pub slot : ℕ
    pub index : ℕ
    pub slot_in : IsIn slot (range_with_len 1 255)
    pub index_in : IsIn index (range_with_len 1 31)
    pub has : k.ring_of slot index ≡ Some r
    pub stopped : is_stopped (k.endpoint_state slot index) ≡ true
    pub untouched : is_touched h k slot index ≡ false

  pub stopped_with : (k : Known) → has_stopped h k r ≡ true → HasStopped k
  unfolding has_stopped rests_with
  stopped_with k some =
      let row = some_of (λ s. list_any (λ i. rests_with h k r s i) (range_with_len 1 31)) (range_with_len 1 255) some in
      let at = some_of (λ i. rests_with h k r row.0 i) (range_with_len 1 31) row.2 in
      let one = and_parts (is_ring r (k.ring_of row.0 at.0)) (is_stopped (k.endpoint_state row.0 at.0) && not (is_touched h k row.0 at.0)) at.2 in
      let two = and_parts (is_stopped (k.endpoint_state row.0 at.0)) (not (is_touched h k row.0 at.0)) one.1 in
      record {
        slot = row.0;
        index = at.0;
        slot_in = row.1;
        index_in = at.1;
        has = ring_is r (k.ring_of row.0 at.0) one.0;
        stopped = two.0;
        untouched = not-true (is_touched h k row.0 at.0) two.1;
      }

  pub with_stopped : (k : Known) → HasStopped k → has_stopped h k r ≡ true
  unfolding has_stopped rests_with
  with_stopped k s =
      any_of (λ t. list_any (λ i. rests_with h k r t i) (range_with_len 1 31)) (range_with_len 1 255) s.slot s.slot_in
      (any_of (λ i. rests_with h k r s.slot i) (range_with_len 1 31) s.index s.index_in
      (and_from (is_ring r (k.ring_of s.slot s.index)) (is_stopped (k.endpoint_state s.slot s.index) && not (is_touched h k s.slot s.index)) (ap (is_ring r) s.has ∙ eq-eqb r r refl)
      (and_from (is_stopped (k.endpoint_state s.slot s.index)) (not (is_touched h k s.slot s.index)) s.stopped (not_from_false (is_touched h k s.slot s.index) s.untouched))))

  parts : (k : Known) → is_bad_withdraw h k r p ≡ false → HasStopped k × (is_unfit (shape_of h r) (k.ring r) p ≡ false)
  unfolding is_bad_withdraw
  parts k good = search (rules, or_parts, not, has_stopped, stopped_with, not-false)

  module _ (is : IsHeader h) where
    module _ (k : Known) (d : DriverKeeps h k) (s : HasStopped k) where
      transfer : IsTransferRing h r
      transfer = d.states.transfer s.slot s.index r s.has

      -- its ring is held
      pub stopped_held : (k.ring r).held ≢ None
      stopped_held none = running_is_not (sym (d.states.open_runs s.slot s.index r s.has none) ∙ (grind (arith, false≢true)))

      -- no unfinished command moves it
      unmoved : (u : ℕ) (c : Command) → IsUnfinished h k u c → MovesRestored k c → MovesRestored (on_ring h k r (Withdraws p)) c
      unfolding on_ring
      unmoved u c unfinished_at restored t i x cycle at q has =
          elim (cases_eq q r) [
            | inl same ↦
                let one = d.states.one_endpoint t i s.slot s.index r (has ∙ ap (λ n. Some n) same) s.has in
                absurd (set_touches h is k d s.slot s.index i x t cycle u s.untouched (subst (λ y. IsUnfinished h k u y) at unfinished_at) one.0 one.1)
            | inr other ↦ subst IsRestored (sym (ring_elsewhere h k r q (Withdraws p) other)) (restored t i x cycle at q has)
          ]

      pub withdrawn_keeps : DriverKeeps h (on_ring h k r (Withdraws p))
      withdrawn_keeps =
          quiet_keeps h r (Withdraws p) tt (transfer_not_command h is r transfer) k d
          (λ driver. withdraws_keeps (shape_of h r) (ring_shape h is r driver).is k.memory (k.ring r) (d.rings r driver) p stopped_held) unmoved

      module _ (e : Block) (may : lenient h k (Read e) ≡ []) where
        closed : is_open (k.ring r) ≡ false
        closed = false_from_ne_true (is_open (k.ring r)) (λ opened. stopped_held (open_held (k.ring r) opened))

        -- it is held where it was
        ceiling_behind : ceiling (shape_of h r) ((learned h k (Read e)).ring r) ≤ ceiling (shape_of h r) (k.ring r)
        ceiling_behind = search (rules, arith, cases_option (k.ring r).held, stopped_held, ceiling_held, (read_holds h is k d s.slot s.index r s.has closed s.untouched e may).held r s.has)

        pub stopped_behind : HasStopped (learned h k (Read e))
        stopped_behind =
            let holds = read_holds h is k d s.slot s.index r s.has closed s.untouched e may in
            record {
              slot = s.slot;
              index = s.index;
              slot_in = s.slot_in;
              index_in = s.index_in;
              has = holds.ring_of ∙ s.has;
              stopped = ap is_stopped holds.state ∙ s.stopped;
              untouched = untouched_behind h is k d e may s.slot s.index s.untouched;
            }

    behind : (k : Known) (e : Block) → DriverKeeps h k → lenient h k (Read e) ≡ [] → is_bad_withdraw h k r p ≡ false → is_bad_withdraw h (learned h k (Read e)) r p ≡ false
    unfolding is_bad_withdraw is_unfit is_no_descriptor descriptor_length
    behind k e d may good =
        let s = parts k good in
        let one = or_parts (is_no_descriptor (k.ring r) p) _ s.1 in
        let two = or_parts (descriptor_length (k.ring r) p == 0) _ one.0 in
        search (rules, read_same, or_from, not_from_true, with_stopped, stopped_behind, length_from, list_any, range_with_len, none_told_later, floors_grow h is k d e may r, ceiling_behind k d s.0 e may)

    -- where it may be withdrawn
    pub may_withdraw : (k : Known) → DriverKeeps h k → is_bad_withdraw h k r p ≡ false → r ≢ command_id h
    may_withdraw k d good = transfer_not_command h is r (transfer k d (parts k good).0)

    pub withdraw_keeps : (k : Known) → DriverKeeps h k → is_bad_withdraw h k r p ≡ false → DriverKeeps h (on_ring h k r (Withdraws p))
    withdraw_keeps k d good = withdrawn_keeps k d (parts k good).0

    good_values : (k : Known) → is_bad_withdraw h k r p ≡ false → KeepsValues (shape_of h r) (k.ring r) (changed (shape_of h r) (k.ring r) (Withdraws p))
    unfolding is_unfit
    good_values k good = withdraws_values (shape_of h r) (k.ring r) p (or_parts (is_no_descriptor (k.ring r) p) _ (parts k good).1).1

    pub withdraw_good : r ≢ command_id h → IsGood h r (Withdraws p) (λ k. is_bad_withdraw h k r p ≡ false)
    withdraw_good other = record { quiet = tt; other = other; keeps = withdraw_keeps; values = good_values; behind = behind }

    -- the run goes on
    pub withdraw_runs : (k : Known) (w : World) → DriverKeeps h k → is_bad_withdraw h k r p ≡ false → Runs h k w → Runs h (on_ring h k r (Withdraws p)) (counted h (without_descriptor w r p))
    unfolding counted
    withdraw_runs k w d good run =
        let other : r ≢ command_id h = may_withdraw k d good in
        quiet_runs h is r (Withdraws p) (λ k. is_bad_withdraw h k r p ≡ false) (withdraw_good other) k w (counted h (without_descriptor w r p)) d good run
        (λ later keeps still agrees.
        let there : Agrees h (on_ring h later r (Withdraws p)) run.unread (without_descriptor w r p) = withdrawn_agrees h r p other later (good_values later still) run.unread w agrees in
        agrees_counted h (on_ring h later r (Withdraws p)) run.unread (without_descriptor w r p) there.stands there.events there.matches there.read (λ a. let low = there.stamps a in omega (arith, low)))
