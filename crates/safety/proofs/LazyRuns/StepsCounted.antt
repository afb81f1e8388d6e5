-- A clean trace has at most three steps for each row, and three more: rows, events posted and halts, and looks, each of which moves a pointer on
use Rattle.safety.proofs.UpperLaws.{[], ◌≡◌, ◌≢◌, ◌+◌, ◌*◌, ◌≤◌, ◌==◌, ◌∷◌, if◌then◌else◌, ℕ, true, false, List, All, length, reverse, Option, Some, None, arith, refl, sym, subst, ne_eqb, length-append, rules, FewSteps, driver_ring, length-reverse, flat_map, cases_Bool, cond_both, false≢true, and_parts, put_off, Block, kind, completion_kind, Spot, number, rank_most, floor_number, Command, Change, Places, changes, is_off, Header, Read, IsHeader, command_id, is_ring, ring_having, Known, RingSpot, learned, IsDriverRow, DriverKeeps, transfer_not_command, need, further, brought, goals, looks_to, EndpointsKeep, endpoints_of, transfer_ring, floors_grow, having_transfer, ring_with, is_driver_ring, Row, RingRow, FreeRow, Data, rank, put, lenient, All-head, All-tail, AreKept, IsRow, header_now, known_now, restored, restored_on, ring_restored, with_ring, without_ring, pointers_at, pointers_after, pointers_for, steps_before, steps_for, lazy_run, max, eq-eqb, cases_eq, cond-true, put_at, Ring, IsKept, header_after, known_after, begins_anew, ends_need, number_reported, known_changed_by, command_taken, lazy_steps, post_of, stopped_goals, taken_up_to, is_placed_by, is_placed_by_all, ring_placed, change_keeps, bit, no_steps, pointers_same, come_to, driver_le, of_driver, on_driver, off_driver, place_value, command_value, transfer_value, progress, total, total_le, total_most, total_twice, further_most, row_learns, NopRow, kept_coming, kept_going, inl, inr, ap, RegRead, Reg, Register, sees_halt, resets, reset, held_at_given, RingView, cond-false, is_first_halt, Halt, ◌∙◌, Bool, ◌&&◌, nat_lt, next_command, may_be_taken, shape_of, no_command_id, ceiling, command_ring, id_of, MayBegin}
use Rattle.safety.proofs.LazyRuns.AllRead.{whole}
use Rattle.safety.specs.LazyRuns.Needs.{is_placed}
use Rattle.safety.proofs.LazyRuns.RingRows.{OthersStay, comes_stay, goes_stay, restored_learns, withdrawn_learns}
use Rattle.safety.proofs.RingChanges.ComingGoing.{absent}
use Rattle.safety.proofs.RingChanges.LiveHeadline.{Keeps, kept_on, now_keeps}
use Rattle.safety.proofs.LazyRuns.CommandRings.{CommandStays, goes_idle, is_there, stays_apart}
use Rattle.safety.proofs.LazyRuns.EventGoals.{goals_few, AreWithin, top, reported_most, goals_within}
use Rattle.safety.proofs.LazyRuns.Farthest.{event_slack, farthest, farthest_command, farthest_other, floor_reached, no_slack, reset_reaches, restored_slack, row_slack, slack, slack_most, withdrawn_slack}
use Rattle.safety.proofs.LazyRuns.GivenCounted.{reads, floors, floors_most, gone, kept_before}
use Rattle.safety.proofs.LazyRuns.Induction.{rows_of}
use Rattle.safety.proofs.RingChanges.Restored.{row_keeps as kept_row}

-- Behind each row of a clean trace no pointer is farther than it may be
module _ (h : Header) where
  -- goals below bounds bring no pointer past them
  brought_within : (most : ℕ → ℕ) (goals : List RingSpot) (pointers : ℕ → Spot) → AreWithin most goals → (r : ℕ) → number (pointers r) ≤ most r → number (brought h pointers goals r) ≤ most r
  unfolding brought
  brought_within most [] pointers within r low = low
  brought_within most (goal ∷ rest) pointers within r low =
      let at : Spot = further (pointers goal.ring) goal.spot in
      brought_within most rest (put pointers goal.ring at) within.1 r
      (elim (cases_eq r goal.ring) [
        | inl same ↦
            subst (λ q. number (put pointers goal.ring at q) ≤ most q) (sym same)
            (omega (arith, ap (λ t. number t) (put_at pointers goal.ring at), further_most (pointers goal.ring) goal.spot (most goal.ring) (subst (λ q. number (pointers q) ≤ most q) same low) within.0))
        | inr other ↦ omega (arith, ap (λ t. number t) (put_off pointers goal.ring at r other), low)
      ])

  -- ---- what is needed before a row

  need_by : (k : Known) (r : ℕ) (row : Row) (later : List Row) → need h k r (row ∷ later) ≤ max (number_reported h k r row) (need (header_after h row) (known_after h k row) r later)
  unfolding need
  need_by k r row later = search (rules, arith, max, number_reported, need, header_after, known_after, cond_both, ends_need)

  comes_none : (k : Known) (r : ℕ) (ring : Ring) → number_reported h k r (RingRow ring) ≡ 0
  unfolding number_reported
  comes_none k r ring = refl

  goes_none : (k : Known) (r id : ℕ) → number_reported h k r (FreeRow id) ≡ 0
  unfolding number_reported
  goes_none k r id = refl

  driver_none : (k : Known) (r : ℕ) (row : Row) → IsDriverRow row → number_reported h k r row ≡ 0
  unfolding number_reported
  driver_none k r (Read b) driver_row = absurd driver_row
  driver_none k r row driver_row = refl

  driver_header : (row : Row) → IsDriverRow row → header_after h row ≡ h
  driver_header (RingRow ring) driver_row = absurd driver_row
  driver_header (FreeRow id) driver_row = absurd driver_row
  driver_header row driver_row = refl

  need_row : (k l : Known) (row : Row) (later : List Row) (r : ℕ) → IsDriverRow row → known_after h k row ≡ l → need h k r (row ∷ later) ≤ need h l r later
  need_row k l row later r driver_row same =
      omega (
        arith,
        need_by k r row later,
        driver_none k r row driver_row,
        ap (λ g. need g (known_after h k row) r later) (driver_header row driver_row),
        ap (λ m. need h m r later) same,
      )

  pub need_placed : (k : Known) (r : ℕ) (b : Block) (later : List Row) → is_placed h k r b ≡ true → need h k r ((Read b) ∷ later) ≡ 0
  unfolding need ends_need begins_anew
  need_placed k r b later placed = cond-true (is_placed h k r b) 0 _ placed

  -- of a ring that goes nothing is needed
  pub need_gone : (k : Known) (id : ℕ) (later : List Row) → need h k id (FreeRow id ∷ later) ≡ 0
  unfolding need ends_need
  need_gone k id later = cond-true (id == id) 0 _ (eq-eqb id id refl)

  -- ---- pointers

  -- of the driver's rings
  abbrev pub IsNear : Known → (ℕ → Spot) → List Row → ℕ → Type 0
  IsNear k pointers later r = is_driver_ring (ring_with h r) ≡ true → number (pointers r) ≤ farthest h k later r

  -- where floors grow, and nothing more is needed
  farther : (k l : Known) (before later : List Row) (r : ℕ) → (r ≡ command_id h → floor_number (k.ring r) + slack h k ≤ floor_number (l.ring r) + slack h l) →
      (r ≢ command_id h → floor_number (k.ring r) ≤ floor_number (l.ring r)) → need h k r before ≤ max (floor_number (l.ring r)) (need h l r later) →
      farthest h k before r ≤ farthest h l later r
  farther k l before later r command other need_less =
      elim (cases_eq r (command_id h)) [
        | inl same ↦ omega (arith, farthest_command h k before r same, farthest_command h l later r same, command same)
        | inr apart ↦ omega (arith, farthest_other h k before r apart, farthest_other h l later r apart, other apart, need_less)
      ]

  pub event_pointer : (k : Known) (pointers : ℕ → Spot) (later : List Row) (b : Block) (r : ℕ) →
      pointers_after h k pointers (Read b) later r ≡ (if is_placed h k r b then ((learned h k (Read b)).ring r).floor else brought h pointers (goals h k later (kind b) b) r)
  unfolding pointers_after
  event_pointer k pointers later b r = refl

  module _ (is : IsHeader h) where
    -- a row of the driver that resets nothing
    row_near : (k : Known) (pointers : ℕ → Spot) (later : List Row) (row : Row) → DriverKeeps h (restored h k row) → IsDriverRow row → known_after h k row ≡ learned h (restored h k row) row → (r : ℕ) →
        IsNear k pointers (row ∷ later) r → IsNear (learned h (restored h k row) row) (pointers_after h (restored h k row) pointers row later) later r
    row_near k pointers later row d driver_row same r near driver =
        let m : Known = restored h k row in
        let l : Known = learned h m row in
        let floor : (l.ring r).floor ≡ (k.ring r).floor = (row_learns h m row driver_row).floors r ∙ (restored_learns h k (ring_restored h k row)).floors r in
        let far = farther k l (row ∷ later) later r
        (λ command.
        let ring = driver_ring h (command_id h) (subst (λ n. is_driver_ring (ring_with h n) ≡ true) command driver) in
        omega (arith, ap (λ t. number t) floor, row_slack h is m d ring row driver_row, restored_slack h k (ring_restored h k row)))
        (λ other. omega (arith, ap (λ t. number t) floor)) (omega (arith, need_row k l row later r driver_row same)) in
        omega (arith, near driver, far, ap (λ t. number t) (pointers_same h m pointers row later r driver_row))

    reset_floor : (k : Known) (r : ℕ) → r ≢ command_id h → ((reset h k).ring r).floor ≡ (k.ring r).floor
    unfolding reset held_at_given command_id
    reset_floor k r other = ap (λ (v : RingView). v.floor) (cond-false (is_ring r (id_of (command_ring h))) _ _ (no_command_id (command_ring h) r other))

    reset_near : (k : Known) (pointers : ℕ → Spot) (later : List Row) (q : Register) (x : ℕ) → DriverKeeps h k → resets k q x ≡ true → (r : ℕ) → IsNear k pointers (Reg q x ∷ later) r → IsNear (reset h k) pointers later r
    reset_near k pointers later q x d now r near driver =
        let far = farther k (reset h k) (Reg q x ∷ later) later r
        (λ command.
        let ring = driver_ring h (command_id h) (subst (λ n. is_driver_ring (ring_with h n) ≡ true) command driver) in
        subst (λ n. floor_number (k.ring n) + slack h k ≤ floor_number ((reset h k).ring n) + slack h (reset h k)) (sym command) (omega (arith, reset_reaches h is k d ring)))
        (λ other. omega (arith, ap (λ t. number t) (reset_floor k r other)))
        (omega (arith, need_row k (reset h k) (Reg q x) later r tt (cond-true (resets k q x) (reset h k) (learned h k (Reg q x)) now))) in
        omega (arith, near driver, far)

    -- a row that reads an event
    module _ (k : Known) (pointers : ℕ → Spot) (later : List Row) (b : Block) (d : DriverKeeps h k) (clean : lenient h k (Read b) ≡ [])
        (near : (r : ℕ) → IsNear k pointers ((Read b) ∷ later) r) where
      before_goals : (r : ℕ) → is_driver_ring (ring_with h r) ≡ true → number (pointers r) ≤ top h k b clean later r
      unfolding ring_restored restored_on
      before_goals r driver =
          let far = farther k (learned h k (Read b)) ((Read b) ∷ later) later r
          (λ command.
          subst (λ n. floor_number (k.ring n) + slack h k ≤ floor_number ((learned h k (Read b)).ring n) + slack h (learned h k (Read b))) (sym command) (event_slack h is k d b))
          (λ other. floors_grow h is k d b clean r) (omega (arith, need_by k r (Read b) later, reported_most h k b clean later r)) in
          omega (arith, near r driver, far)

      -- where the goals bring the pointers
      pub goals_near : (r : ℕ) → is_driver_ring (ring_with h r) ≡ true → number (brought h pointers (goals h k later (kind b) b) r) ≤ top h k b clean later r
      goals_near r driver = brought_within (top h k b clean later) (goals h k later (kind b) b) pointers (goals_within h k b clean later is d) r (before_goals r driver)

      pub event_near : (r : ℕ) → IsNear (learned h k (Read b)) (pointers_after h k pointers (Read b) later) later r
      unfolding pointers_after
      event_near r driver =
          cond_both (is_placed h k r b) ((learned h k (Read b)).ring r).floor (brought h pointers (goals h k later (kind b) b) r) (λ t. number t ≤ farthest h (learned h k (Read b)) later r)
          (λ _. floor_reached h (learned h k (Read b)) later r (floor_number ((learned h k (Read b)).ring r)) (omega arith)) (λ _. goals_near r driver)

  -- a descriptor that is withdrawn moves no floor
  withdrawn_near : (k : Known) (pointers : ℕ → Spot) (later : List Row) (q p r : ℕ) → IsNear k pointers (NopRow q p ∷ later) r → IsNear (known_after h k (NopRow q p)) pointers later r
  unfolding number_reported
  withdrawn_near k pointers later q p r near driver =
      let l : Known = known_after h k (NopRow q p) in
      let floor : (l.ring r).floor ≡ (k.ring r).floor = (withdrawn_learns h k q p).floors r in
      let far = farther k l (NopRow q p ∷ later) later r (λ command. omega (arith, ap (λ t. number t) floor, withdrawn_slack h k q p)) (λ other. omega (arith, ap (λ t. number t) floor))
      (omega (arith, need_by k r (NopRow q p) later)) in
      omega (arith, near driver, far)

-- a ring comes or goes
module _ (h g : Header) (is : IsHeader h) (k l : Known) (id : ℕ) (o : OthersStay h g k l id) (pointers : ℕ → Spot) (row : Row) (later : List Row)
    (need_less : (r : ℕ) → need h k r (row ∷ later) ≤ need g l r later) where
  slack_stays : CommandStays h g id → slack g l ≡ slack h k
  unfolding slack may_be_taken next_command
  slack_stays c =
      let test : Header → Known → ℕ → Bool = λ x m n. m.started && nat_lt (floor_number (m.ring n)) (ceiling (shape_of x n) (m.ring n)) in
      ap (λ n. bit (test g l n)) c.same
      ∙ ap (λ shape. bit (l.started && nat_lt (floor_number (l.ring (command_id h))) (ceiling shape (l.ring (command_id h))))) (o.shapes (command_id h) c.other)
      ∙ ap (λ v. bit (l.started && nat_lt (floor_number v) (ceiling (shape_of h (command_id h)) v))) (o.rings (command_id h) c.other)
      ∙ ap (λ s. bit (s && nat_lt (floor_number (k.ring (command_id h))) (ceiling (shape_of h (command_id h)) (k.ring (command_id h))))) o.started

  still_far : (r : ℕ) → r ≢ id → is_driver_ring (ring_with h r) ≡ true → farthest h k (row ∷ later) r ≤ farthest g l later r
  still_far r other driver =
      let same : floor_number (l.ring r) ≡ floor_number (k.ring r) = ap (λ v. floor_number v) (o.rings r other) in
      let apart : r ≢ command_id h → r ≢ command_id g → farthest h k (row ∷ later) r ≤ farthest g l later r = λ here there.
      omega (arith, farthest_other h k (row ∷ later) r here, farthest_other g l later r there, same, need_less r) in
      elim o.command [
        | inl c ↦ elim (cases_eq r (command_id h)) [
          | inl command ↦ omega (arith, farthest_command h k (row ∷ later) r command, farthest_command g l later r (command ∙ sym c.0.same), same, slack_stays c.0)
          | inr away ↦ apart away (λ there. away (there ∙ c.0.same))
        ]
        | inr c ↦ let both = stays_apart h g id is c.0 r other driver in apart both.0 both.1
      ]

  pub moved_near : (r : ℕ) → IsNear h k pointers (row ∷ later) r → IsNear g l (put pointers id (Data 0)) later r
  moved_near r near driver =
      elim (cases_eq r id) [
        | inl same ↦ omega (arith, ap (λ n. number (put pointers id (Data 0) n)) same, ap (λ t. number t) (put_at pointers id (Data 0)))
        | inr other ↦
            let before : is_driver_ring (ring_with h r) ≡ true = ap is_driver_ring (sym (o.listed r other)) ∙ driver in
            omega (arith, ap (λ t. number t) (put_off pointers id (Data 0) r other), near before, still_far r other before)
      ]

module _ (h : Header) (is : MayBegin h) where
  -- behind each row
  pub pointers_near : (past later : List Row) → All IsRow past → AreKept h past → (r : ℕ) → IsNear (header_now h past) (known_now h past) (pointers_at h past later) later r
  unfolding pointers_at pointers_for pointers_after ring_restored restored_on
  pointers_near [] later are kept r = λ driver. omega arith
  pointers_near (row ∷ past) later are kept r =
      let made : All IsRow past = All-tail IsRow row past are in
      let p : Keeps h is past = now_keeps h is past made kept.0 (kept_on (header_now h past) (known_now h past) row kept.1) in
      one row (All-head IsRow row past are) kept.1 p (pointers_near past (row ∷ later) made kept.0) r
    where
      one : (row : Row) → IsRow row → IsKept (header_now h past) (known_now h past) row → Keeps h is past → ((r : ℕ) → IsNear (header_now h past) (known_now h past) (pointers_at h past (row ∷ later)) (row ∷ later) r) →
          (r : ℕ) → IsNear (header_after (header_now h past) row) (known_after (header_now h past) (known_now h past) row) (pointers_for (header_now h past) (known_now h past) (pointers_at h past (row ∷ later)) row later) later r
      one (Read b) is_row kept p near r = event_near (header_now h past) p.headed (known_now h past) (pointers_at h past ((Read b) ∷ later)) later b p.keeps kept.0 near r
      one (NopRow q n) is_row kept p near r = withdrawn_near (header_now h past) (known_now h past) (pointers_at h past (NopRow q n ∷ later)) later q n r (near r)
      one (RingRow ring) coming kept p near r =
          let g : Header = header_now h past in
          let k : Known = known_now h past in
          moved_near g (with_ring g ring) p.headed k _ ring.id (comes_stay g p.headed k p.keeps ring coming (kept_coming g k ring kept).1) (pointers_at h past (RingRow ring ∷ later)) (RingRow ring) later
          (λ q. omega (arith, need_by g k q (RingRow ring) later, comes_none g k q ring)) r (near r)
      one (FreeRow id) is_row kept p near r =
          let g : Header = header_now h past in
          let k : Known = known_now h past in
          moved_near g (without_ring g id) p.headed k _ id (goes_stay g p.headed k p.keeps id (kept_going g k id kept).1) (pointers_at h past (FreeRow id ∷ later)) (FreeRow id) later
          (λ q. omega (arith, need_by g k q (FreeRow id) later, goes_none g k q id)) r (near r)
      one (Reg q x) is_row kept p near r =
          let g : Header = header_now h past in
          let k : Known = known_now h past in
          elim (cases_Bool (resets k q x)) [
            | inl now ↦
                subst (λ l. IsNear g l (pointers_at h past (Reg q x ∷ later)) later r) (sym (cond-true (resets k q x) (reset g k) (learned g k (Reg q x)) now))
                (reset_near g p.headed k (pointers_at h past (Reg q x ∷ later)) later q x p.keeps now r (near r))
            | inr none ↦
                let same = cond-false (resets k q x) (reset g k) (learned g k (Reg q x)) none in
                subst (λ l. IsNear g l (pointers_at h past (Reg q x ∷ later)) later r) (sym same) (row_near g p.headed k (pointers_at h past (Reg q x ∷ later)) later (Reg q x) p.keeps tt same r (near r))
          ]
      one row is_row kept p near r =
          row_near (header_now h past) p.headed (known_now h past) (pointers_at h past (row ∷ later)) later row (kept_row (header_now h past) p.headed (known_now h past) p.keeps row kept.1) tt refl r (near r)

module _ (h : Header) where
  -- ---- the command ring is never bound or moved

  none_named : IsHeader h → (o : Option ℕ) → ((r : ℕ) → o ≡ Some r → r ≢ command_id h) → is_ring (command_id h) o ≡ false
  none_named is o other = grind (arith, ne_eqb, command_id)

  ring_other : IsHeader h → (k : Known) → EndpointsKeep h k → (change : Change) → is_ring (command_id h) (ring_placed h k change) ≡ false
  unfolding ring_placed
  ring_other is k endpoints (Places s i p cycle state) =
      cond_both (is_off (k.endpoint_state s i)) (ring_having h p) (k.ring_of s i) (λ o. is_ring (command_id h) o ≡ false)
      (λ _. none_named is (ring_having h p) (λ r at. transfer_not_command h is r (transfer_ring h r (having_transfer h is p r at))))
      (λ _. none_named is (k.ring_of s i) (λ r at. transfer_not_command h is r (transfer_ring h r (endpoints.transfer s i r at))))
  ring_other is k endpoints _ = refl

  all_other : IsHeader h → (c : Command) (k : Known) (all : List Change) → EndpointsKeep h k → is_placed_by_all h c k (command_id h) all ≡ false
  unfolding is_placed_by_all
  all_other is c k [] endpoints = refl
  all_other is c k (change ∷ rest) endpoints =
      grind (arith, ring_other is k endpoints change, all_other is c (known_changed_by h c k change) rest (change_keeps h is c k change endpoints))

  -- ---- an event that binds or moves a ring asks for no look at it

  record IsPlacedSo (k : Known) (later : List Row) (b : Block) (r : ℕ) : Type 0 where
    other : r ≢ command_id h
    goals_are : goals h k later (kind b) b ≡ command_taken h k ∷ []

  placed_so : IsHeader h → (k : Known) (later : List Row) (b : Block) (r : ℕ) → EndpointsKeep h k → is_placed h k r b ≡ true → IsPlacedSo k later b r
  unfolding is_placed goals is_placed_by is_placed_by_all ring_placed changes stopped_goals
  placed_so is k later b r endpoints placed = search (rules, and_parts, false≢true, all_other, changes, h.context_size, completion_kind)

  command_off : (k : Known) (pointers : ℕ → Spot) (r : ℕ) → r ≢ command_id h → brought h pointers (command_taken h k ∷ []) r ≡ pointers r
  unfolding brought command_taken taken_up_to
  command_off k pointers r other = search (rules, command_taken, put_off, command_id, further)

  -- ---- one row more

  come_le : (r : ℕ) (s t : Spot) → r ≢ command_id h → (is_driver_ring (ring_with h r) ≡ true → number s ≤ number t) → come_to h r s ≤ come_to h r t
  unfolding come_to
  come_le r s t other low = driver_le h r (place_value h r s) (place_value h r t) (λ driver. omega (arith, low driver, transfer_value h r s other, transfer_value h r t other))

  module _ (is : IsHeader h) (k : Known) (before : ℕ → Spot) (later : List Row) (b : Block) (keeps : DriverKeeps h k) (clean : lenient h k (Read b) ≡ [])
      (near : (r : ℕ) → IsNear h k before ((Read b) ∷ later) r) where
    abbrev now : ℕ → Spot
    now = brought h before (goals h k later (kind b) b)

    placed_on : (r : ℕ) → is_placed h k r b ≡ true → come_to h r (now r) ≤ come_to h r ((learned h k (Read b)).ring r).floor
    placed_on r placed =
        let so : IsPlacedSo k later b r = placed_so is k later b r (endpoints_of h k keeps.states) placed in
        let still : now r ≡ before r = ap (λ g. brought h before g r) so.goals_are ∙ command_off k before r so.other in
        come_le r (now r) ((learned h k (Read b)).ring r).floor so.other
        (λ driver.
        omega (
          arith,
          ap (λ t. number t) still,
          near r driver,
          farthest_other h k ((Read b) ∷ later) r so.other,
          need_placed h k r b later placed,
          floors_grow h is k keeps b clean r,
        ))

    event_few : length (steps_before h k before (Read b) later) + progress h before ≤ progress h (pointers_after h k before (Read b) later) + 2
    unfolding steps_before progress
    event_few = search (rules, arith, length-append, flat_map, looks_to, goals, kind, post_of, total_le, come_to, now, pointers_after, event_pointer, cond_both, is_placed, learned, placed_on, goals_few)

  row_few : (k : Known) (before : ℕ → Spot) (later : List Row) (row : Row) → IsDriverRow row → sees_halt h k row ≡ false →
      length (steps_before h k before row later) + progress h before ≤ progress h (pointers_after h k before row later)
  unfolding progress
  row_few k before later row is quiet = search (rules, arith, progress, pointers_after, total_le, come_to, pointers_same, length, no_steps)

  -- the halt before a register that is read
  status_few : (k : Known) (before : ℕ → Spot) (later : List Row) (r : Register) (x : ℕ) → length (steps_before h k before (RegRead r x) later) ≤ 1
  unfolding steps_before
  status_few k before later r x = cond_both (is_first_halt h k r x) (Halt ∷ []) [] (λ l. length l ≤ 1) (λ _. omega arith) (λ _. omega arith)

  -- ---- sums

  twice : (r m n d : ℕ) → (is_driver_ring (ring_with h r) ≡ true → m ≤ 2 * n + d) → of_driver h r m ≤ 2 * of_driver h r n + d
  twice r m n d low =
      elim (cases_Bool (is_driver_ring (ring_with h r))) [
        | inl driver ↦ omega (arith, low driver, on_driver h r m driver, on_driver h r n driver)
        | inr other ↦ omega (arith, off_driver h r m other)
      ]

  come_absent : (r : ℕ) (t : Spot) → is_driver_ring (ring_with h r) ≡ false → come_to h r t ≡ 0
  unfolding come_to
  come_absent r t absent = off_driver h r (place_value h r t) absent

-- ---- a ring comes or goes

module _ (h g : Header) (is : IsHeader h) (k l : Known) (id : ℕ) (o : OthersStay h g k l id) (before : ℕ → Spot) where
  abbrev after_it : ℕ → Spot
  after_it = put before id (Data 0)

  same_command : (r : ℕ) → r ≢ id → is_driver_ring (ring_with h r) ≡ true → (r == command_id g) ≡ (r == command_id h)
  same_command r other driver =
      elim o.command [
        | inl c ↦ ap (λ n. r == n) c.0.same
        | inr c ↦ let both = stays_apart h g id is c.0 r other driver in ne_eqb r (command_id g) both.1 ∙ sym (ne_eqb r (command_id h) both.0)
      ]

  other_come : (r : ℕ) → r ≢ id → come_to g r (after_it r) ≡ come_to h r (before r)
  unfolding come_to place_value
  other_come r other =
      let listed : is_driver_ring (ring_with g r) ≡ is_driver_ring (ring_with h r) = ap is_driver_ring (o.listed r other) in
      elim (cases_Bool (is_driver_ring (ring_with h r))) [
        | inr none ↦ off_driver g r (place_value g r (after_it r)) (listed ∙ none) ∙ sym (off_driver h r (place_value h r (before r)) none)
        | inl driver ↦
            on_driver g r (place_value g r (after_it r)) (listed ∙ driver)
            ∙ ap (λ b. if b then rank (after_it r) else 2 * number (after_it r)) (same_command r other driver)
            ∙ ap (λ t. if r == command_id h then rank t else 2 * number t) (put_off before id (Data 0) r other) ∙ sym (on_driver h r (place_value h r (before r)) driver)
      ]

  -- no pointer but its own is counted less
  one_less : progress h before ≤ progress g after_it + come_to h id (before id)
  unfolding progress
  one_less =
      total_most (λ r. come_to g r (after_it r)) (λ r. come_to h r (before r)) id (come_to h id (before id)) 256 (λ r other. let same = other_come r other in omega (arith, same)) (omega arith)

-- a ring that isn't there is none of the driver's
none_absent : (h : Header) (r : ℕ) → ring_with h r ≡ None → is_driver_ring (ring_with h r) ≡ false
none_absent h r none = grind (arith, cases_Bool (is_driver_ring (ring_with h r)), driver_ring h r)

-- ---- behind each row

module _ (h : Header) where
  -- how far the pointers of the rings had come that went
  unfoldable spent : List Row → List Row → ℕ
  spent [] later = 0
  spent (FreeRow id ∷ past) later = spent past (FreeRow id ∷ later) + come_to (header_now h past) id (pointers_at h past (FreeRow id ∷ later) id)
  spent (row ∷ past) later = spent past (row ∷ later)

  abbrev IsCounted : List Row → List Row → Type 0
  IsCounted past later = length (lazy_run h past later) ≤ length past + 2 * reads past + progress (header_now h past) (pointers_at h past later) + spent past later

  run_length : (row : Row) (past later : List Row) →
      length (lazy_run h (row ∷ past) later) ≡ length (steps_for (header_now h past) (known_now h past) (pointers_at h past (row ∷ later)) row later) + length (lazy_run h past (row ∷ later)) + 1
  unfolding lazy_run
  run_length row past later = search (rules, arith, steps_for, header_now, known_now, pointers_at, length-append, reverse, lazy_run, length-reverse)

  driven : (row : Row) → IsDriverRow row → (past later : List Row) → sees_halt (header_now h past) (restored (header_now h past) (known_now h past) row) row ≡ false → reads (row ∷ past) ≡ reads past →
      IsCounted past (row ∷ later) → IsCounted (row ∷ past) later
  unfolding spent pointers_at pointers_for steps_for
  driven (RingRow ring) driver_row past later quiet none before = absurd driver_row
  driven (FreeRow id) driver_row past later quiet none before = absurd driver_row
  driven (NopRow r p) driver_row past later quiet none before = absurd driver_row
  driven row driver_row past later quiet none before = search (rules, arith, header_now, run_length, row_few, restored, known_now, pointers_at)

  module _ (is : MayBegin h) where
    counted : (past later : List Row) → All IsRow past → AreKept h past → IsCounted past later
    unfolding reads spent pointers_at pointers_for steps_for steps_before pointers_after ring_restored restored_on lazy_run
    counted [] later are kept = omega arith
    counted ((Read b) ∷ past) later are kept =
        let p = kept_before h is (Read b) past are kept in
        let made : All IsRow past = All-tail IsRow (Read b) past are in
        omega (
          arith,
          counted past ((Read b) ∷ later) made kept.0,
          run_length (Read b) past later,
          event_few (header_now h past) p.headed (known_now h past) (pointers_at h past ((Read b) ∷ later)) later b p.keeps kept.1.0 (pointers_near h is past ((Read b) ∷ later) made kept.0),
        )
    counted (RegRead r v ∷ past) later are kept =
        omega (
          arith,
          counted past (RegRead r v ∷ later) (All-tail IsRow (RegRead r v) past are) kept.0,
          run_length (RegRead r v) past later,
          status_few (header_now h past) (known_now h past) (pointers_at h past (RegRead r v ∷ later)) later r v,
        )
    counted (NopRow r p ∷ past) later are kept =
        omega (arith, counted past (NopRow r p ∷ later) (All-tail IsRow (NopRow r p) past are) kept.0, run_length (NopRow r p) past later)
    counted (RingRow ring ∷ past) later are kept =
        let p = kept_before h is (RingRow ring) past are kept in
        let g : Header = header_now h past in
        let k : Known = known_now h past in
        let before : ℕ → Spot = pointers_at h past (RingRow ring ∷ later) in
        let good = (kept_coming g k ring kept.1).1 in
        let coming = All-head IsRow (RingRow ring) past are in
        omega (
          arith,
          counted past (RingRow ring ∷ later) (All-tail IsRow (RingRow ring) past are) kept.0,
          run_length (RingRow ring) past later,
          one_less g (with_ring g ring) p.headed k _ ring.id (comes_stay g p.headed k p.keeps ring coming good) before,
          come_absent g ring.id (before ring.id) (none_absent g ring.id (absent g p.headed ring coming k p.keeps good)),
        )
    counted (FreeRow id ∷ past) later are kept =
        let p = kept_before h is (FreeRow id) past are kept in
        let g : Header = header_now h past in
        let k : Known = known_now h past in
        omega (
          arith,
          counted past (FreeRow id ∷ later) (All-tail IsRow (FreeRow id) past are) kept.0,
          run_length (FreeRow id) past later,
          one_less g (without_ring g id) p.headed k _ id (goes_stay g p.headed k p.keeps id (kept_going g k id kept.1).1) (pointers_at h past (FreeRow id ∷ later)),
        )
    counted (row ∷ past) later are kept = driven row tt past later refl refl (counted past (row ∷ later) (All-tail IsRow row past are) kept.0)

    -- ---- the rings that went

    -- at their floors: of the command ring nothing is taken that isn't finished
    freed_near : (id : ℕ) (past later : List Row) → All IsRow (FreeRow id ∷ past) → AreKept h (FreeRow id ∷ past) → is_driver_ring (ring_with (header_now h past) id) ≡ true →
        place_value (header_now h past) id (pointers_at h past (FreeRow id ∷ later) id) ≤ 2 * floor_number ((known_now h past).ring id) + 1
    freed_near id past later are kept driver =
        let made : All IsRow past = All-tail IsRow (FreeRow id) past are in
        let p = kept_before h is (FreeRow id) past are kept in
        let g : Header = header_now h past in
        let k : Known = known_now h past in
        let t : Spot = pointers_at h past (FreeRow id ∷ later) id in
        let near = pointers_near h is past (FreeRow id ∷ later) made kept.0 id driver in
        elim (cases_eq id (command_id g)) [
          | inl same ↦
              let there = is_there g p.headed (driver_ring g (command_id g) (subst (λ n. is_driver_ring (ring_with g n) ≡ true) same driver)) in
              omega (
                arith,
                near,
                farthest_command g k (FreeRow id ∷ later) id same,
                no_slack g k (goes_idle g p.headed id k same there (kept_going g k id kept.1).1),
                ap (λ n. place_value g n t) same,
                command_value g t,
                rank_most t,
              )
          | inr other ↦ omega (arith, near, farthest_other g k (FreeRow id ∷ later) id other, need_gone g k id later, transfer_value g id t other)
        ]

    spent_most : (past later : List Row) → All IsRow past → AreKept h past → spent past later ≤ 2 * gone h past
    unfolding spent gone come_to
    spent_most [] later are kept = omega arith
    spent_most (FreeRow id ∷ past) later are kept =
        let g : Header = header_now h past in
        let t : Spot = pointers_at h past (FreeRow id ∷ later) id in
        omega (
          arith,
          spent_most past (FreeRow id ∷ later) (All-tail IsRow (FreeRow id) past are) kept.0,
          twice g id (place_value g id t) (floor_number ((known_now h past).ring id)) 1 (freed_near id past later are kept),
        )
    spent_most (row ∷ past) later are kept = spent_most past (row ∷ later) (All-tail IsRow row past are) kept.0

    -- ---- behind all rows

    ends_other : (past : List Row) → All IsRow past → AreKept h past → (r : ℕ) → r ≢ command_id (header_now h past) → is_driver_ring (ring_with (header_now h past) r) ≡ true →
        place_value (header_now h past) r (pointers_at h past [] r) ≤ 2 * floor_number ((known_now h past).ring r) + 0
    unfolding need
    ends_other past are kept r other driver =
        omega (arith, pointers_near h is past [] are kept r driver, farthest_other (header_now h past) (known_now h past) [] r other, transfer_value (header_now h past) r (pointers_at h past [] r) other)

    ends_command : (past : List Row) → All IsRow past → AreKept h past → is_driver_ring (ring_with (header_now h past) (command_id (header_now h past))) ≡ true →
        place_value (header_now h past) (command_id (header_now h past)) (pointers_at h past [] (command_id (header_now h past))) ≤ 2 * floor_number ((known_now h past).ring (command_id (header_now h past))) + 3
    ends_command past are kept driver =
        let g : Header = header_now h past in
        let k : Known = known_now h past in
        let t : Spot = pointers_at h past [] (command_id g) in
        omega (arith, pointers_near h is past [] are kept (command_id g) driver, farthest_command g k [] (command_id g) refl, slack_most g k, command_value g t, rank_most t)

    ends_near : (past : List Row) → All IsRow past → AreKept h past → progress (header_now h past) (pointers_at h past []) ≤ 2 * floors (header_now h past) (known_now h past) + 3
    unfolding progress floors come_to
    ends_near past are kept =
        let g : Header = header_now h past in
        let k : Known = known_now h past in
        let c : ℕ = command_id g in
        let at : ℕ → Spot = pointers_at h past [] in
        let floor_of : ℕ → ℕ = λ r. of_driver g r (floor_number (k.ring r)) in
        let most : total (λ r. come_to g r (at r)) 256 ≤ total (λ r. 2 * floor_of r) 256 + 3 =
        total_most (λ r. 2 * floor_of r) (λ r. come_to g r (at r)) c 3 256
        (λ r other. let low = twice g r (place_value g r (at r)) (floor_number (k.ring r)) 0 (ends_other past are kept r other) in omega (arith, low))
        (twice g c (place_value g c (at c)) (floor_number (k.ring c)) 3 (ends_command past are kept)) in
        omega (arith, most, total_twice floor_of 256)

  steps_same : (rows : List Row) → length (lazy_steps h rows) ≡ length (lazy_run h (reverse rows) [])
  unfolding lazy_steps
  steps_same rows = length-reverse (lazy_run h (reverse rows) [])

  pub few_steps : FewSteps h
  few_steps rows is unmoved are kept =
      let made : All IsRow (reverse rows) = (rows_of h (reverse rows) [] (subst (All IsRow) (sym (whole h rows)) are)).0 in
      omega (
        arith,
        steps_same rows,
        counted (is, unmoved) (reverse rows) [] made kept,
        spent_most (is, unmoved) (reverse rows) [] made kept,
        ends_near (is, unmoved) (reverse rows) made kept,
        floors_most h (is, unmoved) (reverse rows) made kept,
        length-reverse rows,
      )
