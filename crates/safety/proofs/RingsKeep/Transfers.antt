-- A Transfer Event that may be read keeps what the rules keep of each ring
use Rattle.safety.proofs.LowerLaws.{spot_named, spot_ahead, ◌≡◌, ◌+◌, ◌<◌, ◌≤◌, ◌||◌, if◌then◌else◌, ◌∙◌, ℕ, not, Bool, true, false, Option, None, Some, arith, refl, sym, inl, inr, rules, RingsKept, changed, and_parts, and_cases, or_parts, not-false, false≢true, none-some, same_Some, put_pair, Block, slot, endpoint, is_success, is_halting, is_trb_error, is_stopping, Spot, number, after, Reaches, Holds, floor_number, ceiling, is_data_below, is_stop_spot, stopped_number, RingKeeps, reaches_keeps, reaches_and_holds_keeps, holds_and_reaches_keeps, after_reached, number-after, stop_spot_reached, stopped_within, ceiling_held, ceiling_within, below_is, IsAhead, EndpointState, Halted, Error, Header, IsHeader, shape_of, Known, RingSpot, on_ring, spot_on, event_at, passed, broken_off, stopped_at, transferred, transferred_at, transfer_read, is_in_profile, is_working, can_report, can_report_at, is_impossible_transfer, is_off, RingsKeep, is_open, is_running, IsRestored, shown_where_restored, shape_allowed, open_held, passes_at, passes_held, passes_restored, code_told, spot_told}
use Rattle.safety.specs.DriverRings.{IsDriverRing}
use Rattle.safety.proofs.RingsKeep.DriverRows.{stands, same_keeps, on_ring_keeps, on_ring_twice_keeps}

-- what each branch of a chain of two tests says
pub chain : (b c x y z : Bool) → (if b then x else if c then y else z) ≡ true →
    (b ≡ true → x ≡ true) × (b ≡ false → c ≡ true → y ≡ true) × (b ≡ false → c ≡ false → z ≡ true)
chain true c x y z h = (λ _. h, λ e. absurd (false≢true (sym e)), λ e. absurd (false≢true (sym e)))
chain false true x y z h = (λ e. absurd (false≢true e), λ _ _. h, λ _ e. absurd (false≢true (sym e)))
chain false false x y z h = (λ e. absurd (false≢true e), λ _ e. absurd (false≢true e), λ _ _. h)

-- what an event changes, by its code
pub by_code : {A : Type 0} (P : A → Type 0) (a b c d x y z : Bool) (p q r s t : A) → (if a then x else if b || c then y else z) ≡ true →
    (x ≡ true → P p) → (y ≡ true → P q) → (y ≡ true → P r) → (z ≡ true → P s) → P t → P (if a then p else if b then q else if c then r else if d then s else t)
by_code P true b c d x y z p q r s t can success halting error stops none = success can
by_code P false true c d x y z p q r s t can success halting error stops none = halting can
by_code P false false true d x y z p q r s t can success halting error stops none = error can
by_code P false false false true x y z p q r s t can success halting error stops none = stops can
by_code P false false false false x y z p q r s t can success halting error stops none = none

-- the spot that an event names is named on its ring
pub spot_is : (h : Header) (k : Known) (b : Block) (o : Option ℕ) (at : RingSpot) → spot_on h k b o ≡ Some at → spot_named h k b at.ring ≡ Some at.spot
unfolding spot_on
spot_is h k b None at e = search (rules, none-some, same_Some)
spot_is h k b (Some r) at e = search (rules, none-some, same_Some)

module _ (h : Header) (is : IsHeader h) (k : Known) (keeps : RingsKeep h k) where
  -- the block at the spot is finished
  passed_keeps : (r : ℕ) (t : Spot) → (IsDriverRing h r → floor_number (k.ring r) ≤ number t) → number t < ceiling (shape_of h r) (k.ring r) → RingsKept h k (passed h k r t)
  unfolding passed
  passed_keeps r t ahead below =
      on_ring_keeps h k k r (Reaches (after (shape_of h r) (number t))) (stands h k keeps) (λ driver.
      let allowed = shape_allowed h is r driver in
      let ring : RingKeeps (shape_of h r) k.memory (k.ring r) = keeps r driver in
      let within = ceiling_within (shape_of h r) allowed k.memory (k.ring r) ring in
      record {
        rules = reaches_keeps (shape_of h r) allowed k.memory (k.ring r) ring (after (shape_of h r) (number t))
            (after_reached (shape_of h r) (k.ring r) (number t) (omega (arith, ahead driver)) (omega (arith, within.1, below)))
            (λ m at. omega (arith, number-after (shape_of h r) (number t), ceiling_held (shape_of h r) (k.ring r) m at, below));
        passes = passes_held (shape_of h r) k.memory (k.ring r) (changed (shape_of h r) (k.ring r) (Reaches (after (shape_of h r) (number t)))) ring refl refl;
      })

  -- and the controller stopped behind it
  broken_keeps : (s i r : ℕ) (t : Spot) (state : EndpointState) → (IsDriverRing h r → floor_number (k.ring r) ≤ number t) → number t < ceiling (shape_of h r) (k.ring r) →
      RingsKept h k (broken_off h k s i r t state)
  unfolding passed broken_off
  broken_keeps s i r t state ahead below =
      same_keeps h k (on_ring h (on_ring h k r (Reaches (after (shape_of h r) (number t)))) r (Holds (number t + 1))) (broken_off h k s i r t state) refl refl
      (on_ring_twice_keeps h k k r (Reaches (after (shape_of h r) (number t))) (Holds (number t + 1)) (stands h k keeps) (λ driver.
      let allowed = shape_allowed h is r driver in
      let within = ceiling_within (shape_of h r) allowed k.memory (k.ring r) (keeps r driver) in
      record {
        rules = reaches_and_holds_keeps (shape_of h r) allowed k.memory (k.ring r) (keeps r driver) (after (shape_of h r) (number t))
            (after_reached (shape_of h r) (k.ring r) (number t) (omega (arith, ahead driver)) (omega (arith, within.1, below)))
            (number t + 1) (omega (arith, number-after (shape_of h r) (number t))) (omega (arith, within.1, below)) (λ p free low. omega arith);
        passes = passes_at (shape_of h r) (k.ring r) (changed (shape_of h r) (changed (shape_of h r) (k.ring r) (Reaches (after (shape_of h r) (number t)))) (Holds (number t + 1))) (number t + 1) refl refl
            (λ p free low. omega (arith, low, below));
      }))

  -- it was stopped at the spot
  stopped_keeps : (s i r : ℕ) (t : Spot) → (IsDriverRing h r → IsAhead (shape_of h r) (k.ring r) t) → is_stop_spot (shape_of h r) (k.ring r) t ≡ true → (k.ring r).held ≡ None →
      RingsKept h k (stopped_at h k s i r t)
  unfolding stopped_at
  stopped_keeps s i r t ahead stop opened =
      same_keeps h k (on_ring h (on_ring h k r (Holds (stopped_number (shape_of h r) (k.ring r) t))) r (Reaches t)) (stopped_at h k s i r t) refl refl
      (on_ring_twice_keeps h k k r (Holds (stopped_number (shape_of h r) (k.ring r) t)) (Reaches t) (stands h k keeps) (λ driver.
      let at : IsAhead (shape_of h r) (k.ring r) t = ahead driver in
      let bounds = stopped_within (shape_of h r) (k.ring r) t stop in
      let restored : IsRestored (k.ring r) = (keeps r driver).open_restored opened in
      record {
        rules = holds_and_reaches_keeps (shape_of h r) (shape_allowed h is r driver) k.memory (k.ring r) (keeps r driver) t
            (stop_spot_reached (shape_of h r) (k.ring r) t at.is_spot at.from stop) (stopped_number (shape_of h r) (k.ring r) t) bounds.0 bounds.1
            (shown_where_restored (shape_of h r) (k.ring r) restored (stopped_number (shape_of h r) (k.ring r) t));
        passes = passes_restored (shape_of h r) (k.ring r) (changed (shape_of h r) (changed (shape_of h r) (k.ring r) (Holds (stopped_number (shape_of h r) (k.ring r) t))) (Reaches t)) restored;
      }))

  working_open : (s i r : ℕ) → is_working k s i r ≡ true → (k.ring r).held ≡ None
  unfolding is_working
  working_open s i r works = open_held (k.ring r) (and_parts (is_running (k.endpoint_state s i)) (is_open (k.ring r)) works).1

  transferred_keeps : (c s i r : ℕ) (t : Spot) → (IsDriverRing h r → IsAhead (shape_of h r) (k.ring r) t) → can_report h k c s i r t ≡ true → RingsKept h k (transferred h k c s i r t)
  unfolding transferred can_report
  transferred_keeps c s i r t ahead can =
      let from : IsDriverRing h r → floor_number (k.ring r) ≤ number t = λ driver. (ahead driver).from in
      let below = λ (given : is_data_below (ceiling (shape_of h r) (k.ring r)) t ≡ true). below_is (ceiling (shape_of h r) (k.ring r)) t given in
      by_code (RingsKept h k) (is_success c) (is_halting c) (is_trb_error c) (is_stopping c) _ _ _ _ _ _ _ _ can (λ given. passed_keeps r t from (below given))
      (λ both. same_keeps h k (broken_off h k s i r t Halted) (record (broken_off h k s i r t Halted) { must_move = put_pair k.must_move s i true }) refl refl (broken_keeps s i r t Halted from (below (and_parts _ _ both).0)))
      (λ both. broken_keeps s i r t Error from (below (and_parts _ _ both).0))
      (λ told. let given = and_parts _ _ (and_parts _ _ told).1 in stopped_keeps s i r t ahead given.1 (working_open s i r (and_parts _ _ given.0).0)) (stands h k keeps)

  reported_keeps : (b : Block) (o : Option RingSpot) → event_at h k b ≡ o → can_report_at h k b o ≡ true → RingsKept h k (transferred_at h k b o)
  unfolding transferred_at can_report_at
  reported_keeps b None found can = stands h k keeps
  reported_keeps b (Some at) found can =
      transferred_keeps (code_told h k b) (slot b) (endpoint b) at.ring at.spot
      (λ driver. spot_ahead h k b at.ring at.spot (keeps at.ring driver)
      (spot_is h k b (k.ring_of (slot b) (endpoint b)) at (spot_told h k b at found))) can

  pub transfer_keeps : (b : Block) → is_impossible_transfer h k b ≡ false → is_in_profile h k b ≡ true → RingsKept h k (transfer_read h k b)
  unfolding transfer_read is_impossible_transfer
  transfer_keeps b possible inside =
      elim (and_cases (is_in_profile h k b) (is_off (k.endpoint_state (slot b) (endpoint b)) || not (can_report_at h k b (event_at h k b))) possible) [
        | inl outside ↦ absurd (false≢true (sym outside ∙ inside))
        | inr none ↦
            let parts = or_parts (is_off (k.endpoint_state (slot b) (endpoint b))) (not (can_report_at h k b (event_at h k b))) none in
            reported_keeps b (event_at h k b) refl (not-false (can_report_at h k b (event_at h k b)) parts.1)
      ]
