-- How far the pointers of the lazy run may be: at the floor, or at what is needed later; that of the command ring also behind a Stop Endpoint
-- that was taken and isn't finished. No row takes that back
use Rattle.safety.proofs.UpperLaws.{◌≡◌, ◌≢◌, ◌+◌, ◌<◌, ◌≤◌, ◌==◌, ◌&&◌, ◌∙◌, ℕ, Bool, true, false, List, Option, Some, None, max, nat_lt, arith, refl, sym, ap, subst, inl, inr, eq-eqb, ne_eqb, lt-ltb, ltb-true, cases_Bool, cond_both, cond-true, cond-false, and_parts, and_from, Block, BlockKind, TransferEvent, CommandCompletion, kind, Shape, RingView, RingChange, Opens, Declares, changed, number, number-after, floor_number, ceiling, Header, Row, Sub, Write, Reg, Bell, Read, RegRead, IsHeader, shape_of, command_id, is_ring, IsDriverRing, DriverKeeps, IsDriverRow, ring_shape, Known, learned, next_command, may_be_taken, need, on_ring, rung, endpoint_rung, reset, given_up, view_after, written_view, register_leaves, status_leaves, event_read, event_same, endpoints_of, completed_view, restored_on, RingWithdraws, bit, bit_most, number_taken, row_starts, not, bit_clear, bit_set, ◌||◌, if◌then◌else◌, next_is, transfer_read, declares_goes_on, goes_same, opens_goes_on, writes_goes_on, RingGoesOn, transfer_command, ceiling_within, given_count_same, given_count, is_step_given, is_way_given, is_crossing, Restores, unwrap_or, command_ring, id_of}
use Rattle.safety.proofs.LazyRuns.CommandRings.{is_its_own, is_there}

-- one place more where the next command can have been taken
unfoldable pub slack : Header → Known → ℕ
slack h k = bit (k.started && may_be_taken h k)

-- how far the pointer of ring r may be
unfoldable pub farthest : Header → Known → List Row → ℕ → ℕ
farthest h k later r = if r == command_id h then floor_number (k.ring r) + slack h k else max (floor_number (k.ring r)) (need h k r later)

pub farthest_command : (h : Header) (k : Known) (later : List Row) (r : ℕ) → r ≡ command_id h → farthest h k later r ≡ floor_number (k.ring r) + slack h k
unfolding farthest
farthest_command h k later r same = cond-true (r == command_id h) (floor_number (k.ring r) + slack h k) _ (eq-eqb r (command_id h) same)

pub farthest_other : (h : Header) (k : Known) (later : List Row) (r : ℕ) → r ≢ command_id h → farthest h k later r ≡ max (floor_number (k.ring r)) (need h k r later)
unfolding farthest
farthest_other h k later r other = cond-false (r == command_id h) (floor_number (k.ring r) + slack h k) _ (ne_eqb r (command_id h) other)

pub floor_reached : (h : Header) (k : Known) (later : List Row) (r n : ℕ) → n ≤ floor_number (k.ring r) → n ≤ farthest h k later r
unfolding farthest
floor_reached h k later r n low =
    cond_both (r == command_id h) (floor_number (k.ring r) + slack h k) (max (floor_number (k.ring r)) (need h k r later)) (λ m. n ≤ m) (λ _. omega arith) (λ _. omega arith)

pub slack_most : (h : Header) (k : Known) → slack h k ≤ 1
unfolding slack
slack_most h k = bit_most (k.started && may_be_taken h k)

pub no_slack : (h : Header) (k : Known) → (k.started && may_be_taken h k) ≡ false → slack h k ≡ 0
unfolding slack
no_slack h k none = bit_clear (k.started && may_be_taken h k) none

pub some_slack : (h : Header) (k : Known) → k.started ≡ true → may_be_taken h k ≡ true → slack h k ≡ 1
unfolding slack
some_slack h k started taken = bit_set (k.started && may_be_taken h k) (and_from k.started (may_be_taken h k) started taken)

pub taken_is : (h : Header) (k : Known) → may_be_taken h k ≡ true → floor_number (k.ring (command_id h)) < ceiling (shape_of h (command_id h)) (k.ring (command_id h))
unfolding may_be_taken next_command
taken_is h k taken = ltb-true (floor_number (k.ring (command_id h))) (ceiling (shape_of h (command_id h)) (k.ring (command_id h))) taken

-- a test that doesn't fail later
bit_stays : (b c : Bool) → (b ≡ true → c ≡ true) → bit b ≤ bit c
bit_stays b c stays = elim (cases_Bool b) [ inl set ↦ omega (arith, bit_set b set, bit_set c (stays set)) | inr clear ↦ omega (arith, bit_clear b clear) ]

-- ---- rows that leave the command ring's floor and ceiling

-- two views of a ring of which as much is given, up to the same number
record SameReach (v w : RingView) : Type 0 where
  floor : w.floor ≡ v.floor
  held : w.held ≡ v.held
  given : w.given ≡ v.given
  crossed : w.crossed ≡ v.crossed

same_steps : (shape : Shape) (v w : RingView) → SameReach v w → (p : ℕ) → is_step_given shape w p ≡ is_step_given shape v p
unfolding is_step_given is_way_given
same_steps shape v w same p =
    ap (λ f. f p && (not (is_crossing shape p) || w.crossed p)) same.given ∙ ap (λ f. v.given p && (not (is_crossing shape p) || f p)) same.crossed

same_ceiling : (shape : Shape) (v w : RingView) → SameReach v w → ceiling shape w ≡ ceiling shape v
unfolding ceiling
same_ceiling shape v w same =
    ap (λ o. unwrap_or o (given_count shape w)) same.held
    ∙ ap (λ n. unwrap_or v.held n) (given_count_same shape w v (ap (λ t. number t) same.floor) (same_steps shape v w same))

module _ (h : Header) where
  slack_same : (k l : Known) → l.started ≡ k.started → SameReach (k.ring (command_id h)) (l.ring (command_id h)) → slack h l ≡ slack h k
  unfolding slack may_be_taken next_command
  slack_same k l started same =
      ap (λ s. bit (s && nat_lt (floor_number (l.ring (command_id h))) (ceiling (shape_of h (command_id h)) (l.ring (command_id h))))) started
      ∙ ap (λ t. bit (k.started && nat_lt (number t) (ceiling (shape_of h (command_id h)) (l.ring (command_id h))))) same.floor
      ∙ ap (λ n. bit (k.started && nat_lt (floor_number (k.ring (command_id h))) n)) (same_ceiling (shape_of h (command_id h)) (k.ring (command_id h)) (l.ring (command_id h)) same)

  quiet_reach : (k : Known) (r : ℕ) (change : RingChange) → ((shape : Shape) (v : RingView) → SameReach v (changed shape v change)) → (q : ℕ) → SameReach (k.ring q) ((on_ring h k r change).ring q)
  quiet_reach k r change same q =
      view_after h (λ v. SameReach (k.ring q) v) k r change q (λ here. subst (λ n. SameReach (k.ring n) (changed (shape_of h r) (k.ring r) change)) (sym here) (same (shape_of h r) (k.ring r)))
      (λ other. record { floor = refl; held = refl; given = refl; crossed = refl })

  pub restored_slack : (k : Known) (o : Option ℕ) → slack h (restored_on h k o) ≡ slack h k
  unfolding restored_on on_ring
  restored_slack k None = refl
  restored_slack k (Some r) =
      slack_same k (restored_on h k (Some r)) refl (quiet_reach k r Restores (λ shape v. record { floor = refl; held = refl; given = refl; crossed = refl }) (command_id h))

  pub withdrawn_slack : (k : Known) (r p : ℕ) → slack h (on_ring h k r (RingWithdraws p)) ≡ slack h k
  unfolding on_ring
  withdrawn_slack k r p =
      slack_same k (on_ring h k r (RingWithdraws p)) refl (quiet_reach k r (RingWithdraws p) (λ shape v. record { floor = refl; held = refl; given = refl; crossed = refl }) (command_id h))

  -- ---- a row of the driver

  module _ (is : IsHeader h) (k : Known) (d : DriverKeeps h k) (ring : IsDriverRing h (command_id h)) where
    abbrev c : ℕ
    c = command_id h

    abbrev GoesOn : RingView → Type 0
    GoesOn v = RingGoesOn (shape_of h (command_id h)) (k.ring (command_id h)) v

    stays_on : GoesOn (k.ring c)
    stays_on = goes_same (shape_of h c) (k.ring c)

    by_change : (r : ℕ) (change : RingChange) → GoesOn (changed (shape_of h c) (k.ring c) change) → GoesOn ((on_ring h k r change).ring c)
    by_change r change on =
        view_after h GoesOn k r change c (λ same. subst (λ n. GoesOn (changed (shape_of h n) (k.ring n) change)) same on) (λ other. stays_on)

    opens_on : (r : ℕ) → GoesOn ((on_ring h k r Opens).ring c)
    opens_on r = by_change r Opens (opens_goes_on (shape_of h c) (ring_shape h is c ring).is k.memory (k.ring c) (d.rings c ring))

    bell_on : (s t : ℕ) → GoesOn ((learned h k (Bell s t)).ring c)
    unfolding learned rung endpoint_rung
    bell_on s t =
        cond_both (s == 0) (on_ring h k c Opens) (endpoint_rung h k s t (k.ring_of s t)) (λ l. GoesOn (l.ring c)) (λ _. opens_on c) (λ _. by (k.ring_of s t))
      where
        by : (o : Option ℕ) → GoesOn ((endpoint_rung h k s t o).ring c)
        by None = stays_on
        by (Some r) = opens_on r

    row_on : (row : Row) → IsDriverRow row → GoesOn ((learned h k row).ring c)
    unfolding learned
    row_on (Sub r blocks) driver_row = by_change r (Declares blocks) (declares_goes_on (shape_of h c) (ring_shape h is c ring).is k.memory (k.ring c) (d.rings c ring) blocks)
    row_on (Write a x) driver_row = subst GoesOn (sym (written_view h k a x c)) (writes_goes_on (shape_of h c) (k.ring c) a x)
    row_on (Reg r x) driver_row = subst GoesOn (ap (λ f. f c) (sym (register_leaves h k r x).ring)) stays_on
    row_on (Bell s t) driver_row = bell_on s t
    row_on (RegRead r x) driver_row = subst GoesOn (ap (λ f. f c) (sym (status_leaves h k r x).ring)) stays_on
    row_on row driver_row = absurd driver_row

    taken_stays : (l : Known) → GoesOn (l.ring c) → may_be_taken h k ≡ true → may_be_taken h l ≡ true
    unfolding may_be_taken next_command
    taken_stays l on taken =
        let below = taken_is h k taken in
        lt-ltb (floor_number (l.ring c)) (ceiling (shape_of h c) (l.ring c)) (omega (arith, below, on.ceiling, ap (λ t. number t) on.floor))

    pub row_slack : (row : Row) → IsDriverRow row → slack h k ≤ slack h (learned h k row)
    unfolding slack
    row_slack row driver_row =
        bit_stays (k.started && may_be_taken h k) ((learned h k row).started && may_be_taken h (learned h k row))
        (λ both.
        let parts = and_parts k.started (may_be_taken h k) both in
        and_from (learned h k row).started (may_be_taken h (learned h k row)) (row_starts h k row driver_row parts.0) (taken_stays (learned h k row) (row_on row driver_row) parts.1))

    -- behind a reset the floor is as far as all that was given
    given_is : floor_number ((reset h k).ring c) ≡ given_count (shape_of h c) (k.ring c)
    unfolding reset given_up
    given_is =
        ap (λ (v : RingView). floor_number v) (cond-true (is_ring c (id_of (command_ring h))) _ _ (is_its_own h (is_there h is ring)))
        ∙ number_taken (shape_of h c) (given_count (shape_of h c) (k.ring c))

    pub reset_reaches : floor_number (k.ring (command_id h)) + slack h k ≤ floor_number ((reset h k).ring (command_id h))
    reset_reaches =
        let within = ceiling_within (shape_of h c) (ring_shape h is c ring).is k.memory (k.ring c) (d.rings c ring) in
        elim (cases_Bool (k.started && may_be_taken h k)) [
          | inr none ↦ omega (arith, within.0, within.1, given_is, no_slack h k none)
          | inl both ↦ omega (arith, taken_is h k (and_parts k.started (may_be_taken h k) both).1, within.1, given_is, slack_most h k)
        ]

  -- ---- an event

  module _ (is : IsHeader h) (k : Known) (d : DriverKeeps h k) (b : Block) where
    still_slack : (m : Known) → m.started ≡ k.started → m.ring (command_id h) ≡ k.ring (command_id h) →
        floor_number (k.ring (command_id h)) + slack h k ≤ floor_number (m.ring (command_id h)) + slack h m
    still_slack m started ring =
        let same = slack_same k m started (record { floor = ap (λ (v : RingView). v.floor) ring; held = ap (λ (v : RingView). v.held) ring; given = ap (λ (v : RingView). v.given) ring; crossed = ap (λ (v : RingView). v.crossed) ring }) in
        omega (arith, same, ap (λ (v : RingView). floor_number v) ring)

    kind_slack : (n : BlockKind) → floor_number (k.ring (command_id h)) + slack h k ≤ floor_number ((event_read h k n b).ring (command_id h)) + slack h (event_read h k n b)
    unfolding event_read
    kind_slack TransferEvent = still_slack (transfer_read h k b) (event_same h k TransferEvent b).started (transfer_command h is k (endpoints_of h k d.states) b)
    kind_slack CommandCompletion =
        let view = completed_view h is k (endpoints_of h k d.states) b in
        omega (arith, ap (λ (v : RingView). floor_number v) view, number-after (shape_of h (command_id h)) (next_command h k), next_is h k, slack_most h k)
    kind_slack _ = omega arith

    pub event_slack : floor_number (k.ring (command_id h)) + slack h k ≤ floor_number ((learned h k (Read b)).ring (command_id h)) + slack h (learned h k (Read b))
    unfolding learned slack may_be_taken next_command
    event_slack = kind_slack (kind b)
