-- The lazy law by induction over the rows, from the step of a row that reads an event
use Rattle.safety.proofs.UpperLaws.{[], ◌≡◌, ◌≢◌, ◌⊎◌, ◌∷◌, ◌∙◌, ℕ, true, false, List, None, Option, Some, sym, ap, subst, inl, inr, rules, cases_Bool, false≢true, Spot, Data, Header, Row, IsHeader, command_id, IsRow, World, counted, Known, learned, MayCome, DriverKeeps, IsDriverRow, Agrees, Runs, transfer_not_command, more_law, pointers_after, AreAtFloors, ◌++◌, All, reverse, option_and_then, refl, All-cons, All-head, All-nil, All-tail, Read, RingRow, FreeRow, NextRow, opening, with_ring, without_ring, LiveScene, live_reached, live_step, live_with, IsStep, reverse-append, AreKept, IsKept, header_after, header_now, known_now, restored, restored_on, ring_restored, IsTimely, lazy_run, pointers_at, pointers_for, steps_for, LazyLaw, AllAreRead, none-some, nothing, opens, agrees_now, pointers_same, driver_reached, StandsAt, IsActiveIfOpen, Follows, Carries, Leads, Past, RowLearns, row_learns, row_active, all_are_read, EventLaw, AreTimely, PointerStays, RowLeaves, row_leaves, done, row_is_done, steps_before, GoesSoFar, Scene, scene_reached, reverse-reverse, NopRow, kept_coming, kept_going, kept_withdrawing, is_ring_row, driver_no_ring, names_command, IsPlain, row_plain, plain_is_done, resets_by, sees_halt, NamesCommand, first_stands, stands_first, row_names, row_named, row_unnamed, row_halted, unused_held, is_named, cond-true, cond-false, Reg, RegRead, Register, resets, reset, driver_reset, driver_resets, same_resets, is_first_halt, known_after, if◌then◌else◌, without_descriptor, row_done, forgotten, on_ring, live_row, resting, known_gone, MayBegin}
use Rattle.safety.proofs.LazyRuns.RowsLearn.{done_asked}
use Rattle.safety.proofs.DriverHistories.{kept_driver}
use Rattle.safety.proofs.Beneath.RowRuns.{row_runs}
use Rattle.safety.proofs.Beneath.Squares.{square_law}
use Rattle.safety.proofs.Beneath.StillRings.{still_rings}
use Rattle.safety.proofs.RingChanges.LiveHeadline.{Keeps, now_keeps, row_goes}
use Rattle.safety.proofs.RingChanges.Headline.{Alike, AreAlike, reached_alike}
use Rattle.safety.proofs.LazyRuns.LazySteps.{run_is}
use Rattle.safety.proofs.LazyRuns.HaltStep.{halt_step}
use Rattle.safety.proofs.LazyRuns.RingRows.{comes_follows, goes_follows, reset_follows, reset_on, restored_follows, withdrawn_follows}
use Rattle.std.proofs.Common.{option_map}
use Rattle.safety.proofs.RingChanges.Restored.{row_comes, row_keeps}
pub use Rattle.safety.proofs.RingChanges.LiveHeadline.{kept_on, later_kept, one_more}

-- The induction's step for a row of the driver

module _ (h : Header) where
  stands_still : (w v : World) (r : ℕ) (t : Spot) → StandsAt h w r t → PointerStays w v r → v.events r ≡ w.events r → StandsAt h v r t
  stands_still w v r t s p events = search rules

  module _ (is : IsHeader h) (row : Row) (past : Past h) (later : List Row) (w : World) (driver_row : IsDriverRow row) (is_row : IsRow row) (may : MayCome h past.known row)
      (stays : resets_by past.known row ≡ false) (quiet : sees_halt h past.known row ≡ false) (f : Follows h past.known past.pointers w) where
    l : Known
    l = learned h past.known row

    v : World
    v = done h w row

    leaves : RowLeaves h (names_command row) w v
    unfolding v
    leaves = row_leaves h w row

    learns : RowLearns h past.known l
    unfolding l
    learns = row_learns h past.known row driver_row

    agrees : Agrees h past.known [] w
    agrees = agrees_now h past.known w f.runs f.all_read

    plain : IsPlain w row
    plain =
        row_plain h past.known w agrees.stands.started f.halted (λ halted. past.keeps.run.started (done_asked past.known.halt halted)) row driver_row may.0 stays quiet

    -- an endpoint that has a ring had it before, and it isn't the command ring
    had : (s i r : ℕ) → l.ring_of s i ≡ Some r → past.known.ring_of s i ≡ Some r
    had s i r at = ap (λ g. g s i) (sym learns.ring_of) ∙ at

    other : (s i r : ℕ) → l.ring_of s i ≡ Some r → r ≢ command_id h
    other s i r at same = transfer_not_command h is r (past.keeps.states.transfer s i r (had s i r at)) same

    floors : (s i r : ℕ) → l.ring_of s i ≡ Some r → StandsAt h (counted h v) r (l.ring r).floor
    unfolding counted
    floors s i r at =
        let p = leaves.pointers r (inl (other s i r at)) in
        let still : StandsAt h v r (past.known.ring r).floor =
        stands_still w v r (past.known.ring r).floor (f.floors s i r (had s i r at)) (record { pointer = p.pointer; cycle = p.cycle }) (leaves.events r) in
        let there : StandsAt h v r (l.ring r).floor = subst (λ t. StandsAt h v r t) (sym (learns.floors r)) still in
        record { is_spot = there.is_spot; pointer = there.pointer; cycle = there.cycle; next = there.next }

    stay_at_floors : AreAtFloors h l (counted h v)
    stay_at_floors s i r at = let stands = floors s i r at in record { pointer = stands.pointer; cycle = stands.cycle }

    pointers_stay : (r : ℕ) → pointers_after h past.known past.pointers row later r ≡ past.pointers r
    pointers_stay r = pointers_same h past.known past.pointers row later r driver_row

    traced : (s i r : ℕ) → l.ring_of s i ≡ Some r → pointers_after h past.known past.pointers row later r ≡ (l.ring r).floor
    traced s i r at = pointers_stay r ∙ f.traced s i r (had s i r at) ∙ sym (learns.floors r)

    active : (q : ℕ) → IsActiveIfOpen past.known w q → IsActiveIfOpen l (counted h v) q
    unfolding counted v l
    active q was opened = row_active h past.known w agrees.stands.started agrees.matches.ring_of agrees.matches.endpoints row q is driver_row may.0 was opened

    module _ (on : l.stopped ≡ false) where
      runs : Runs h (learned h past.known row) (counted h v)
      unfolding l v
      runs =
          row_runs h is (kept_driver h) (still_rings h) (square_law h) (more_law h) past.known row w v is_row driver_row past.keeps f.runs may on stays (plain_is_done h w row driver_row plain)

      all_read : (counted h v).posted ≡ (counted h v).reads
      unfolding counted
      all_read = leaves.posted ∙ f.all_read ∙ sym leaves.reads

      -- CRCR is written: the command ring is at its beginning
      first_pointer : NamesCommand h past.known row → past.pointers (command_id h) ≡ Data 0
      first_pointer n =
          elim (cases_Bool (is_named past.known)) [
            | inl on ↦ stands_first h past.known w agrees n.unused (past.pointers (command_id h)) (f.command on)
            | inr off ↦ f.before n.there n.unused off
          ]

      command_stands : is_named l ≡ true → StandsAt h (counted h v) (command_id h) (past.pointers (command_id h))
      unfolding l counted
      command_stands named =
          elim (cases_Bool (names_command row)) [
            | inl names ↦
                let n : NamesCommand h past.known row = row_names h is past.known row names may.0 in
                let then_agrees : Agrees h (learned h past.known row) [] (counted h v) = agrees_now h (learned h past.known row) (counted h v) runs all_read in
                subst (λ t. StandsAt h (counted h v) (command_id h) t) (sym (first_pointer n)) (first_stands h (learned h past.known row) (counted h v) then_agrees n.unused_then named)
            | inr none ↦
                let p = leaves.pointers (command_id h) (inr none) in
                let there : StandsAt h v (command_id h) (past.pointers (command_id h)) =
                stands_still w v (command_id h) (past.pointers (command_id h)) (f.command (sym (row_named h past.known row driver_row none) ∙ named)) (record { pointer = p.pointer; cycle = p.cycle })
                (leaves.events (command_id h)) in
                record { is_spot = there.is_spot; pointer = there.pointer; cycle = there.cycle; next = there.next }
          ]

      command_active : is_named l ≡ true → IsActiveIfOpen l (counted h v) (command_id h)
      unfolding l
      command_active named =
          elim (cases_Bool (names_command row)) [
            | inl names ↦
                λ opened. absurd (false≢true (sym (unused_held h (learned h past.known row) (row_names h is past.known row names may.0).unused_then) ∙ opened))
            | inr none ↦ active (command_id h) (f.command_active (sym (row_named h past.known row driver_row none) ∙ named))
          ]

      follows_row : Follows h (learned h past.known row) (pointers_after h past.known past.pointers row later) (counted h v)
      unfolding l v counted
      follows_row = record {
        runs = runs;
        all_read = all_read;
        halted = row_halted h past.known w row driver_row quiet f.halted;
        floors = floors;
        traced = traced;
        active = λ s i r at. active r (f.active s i r (had s i r at));
        before = λ there unused off.
            let was = row_unnamed h past.known row driver_row off in
            pointers_stay (command_id h) ∙ f.before there (learns.unused unused) was.1;
        command = λ named. subst (λ t. StandsAt h (counted h v) (command_id h) t) (sym (pointers_stay (command_id h))) (command_stands named);
        command_active = command_active;
      }

    -- the world behind the row, be it a stop or not
    goes : Follows h (learned h past.known row) (pointers_after h past.known past.pointers row later) (counted h v) ⊎ (((learned h past.known row).stopped ≡ true) × AreAtFloors h (learned h past.known row) (counted h v))
    unfolding l
    goes = elim (cases_Bool l.stopped) [ inl stopped ↦ inr (stopped, stay_at_floors) | inr on ↦ inl (follows_row on) ]

    pub driver_step : Leads h past past.made (row ∷ later) w → Carries h past row later
    unfolding v
    driver_step run = record { world = counted h v; run = driver_reached h past w v row later driver_row quiet run (row_is_done h w row driver_row plain); goes = goes }

-- The lazy run before the first row

-- no endpoint has a ring yet, and none is open
pub first : (h : Header) → Follows h nothing (λ r. Data 0) opening
unfolding opening nothing
first h = record {
  runs = opens h;
  all_read = refl;
  halted = refl;
  floors = λ s i r at. absurd (none-some r at);
  traced = λ s i r at. absurd (none-some r at);
  active = λ s i r at. absurd (none-some r at);
  before = λ there unused off. refl;
  command = λ on. absurd (false≢true on);
  command_active = λ on. absurd (false≢true on);
}

module _ (h : Header) where
  later_timely : (xs ys : List Row) → IsTimely h (xs ++ ys) → IsTimely h ys
  later_timely [] ys timely = timely
  later_timely (x ∷ xs) ys timely = later_timely xs ys timely.0

  pub rows_of : (past later : List Row) → All IsRow (reverse past ++ later) → All IsRow past × All IsRow later
  rows_of [] later rows = (All-nil IsRow, rows)
  rows_of (row ∷ past) later rows =
      let r = rows_of past (row ∷ later) (subst (λ l. All IsRow l) (one_more row past later) rows) in
      (All-cons IsRow row past (All-head IsRow row later r.1) r.0, All-tail IsRow row later r.1)

  module _ (is : MayBegin h) where
    -- ---- the rows to come

    timely_from : (later past : List Row) → All IsRow past → All IsRow later → AreKept h (reverse later ++ past) → IsTimely h (reverse later ++ past) → AreTimely (header_now h past) (known_now h past) later
    timely_from [] past made left kept timely = tt
    timely_from (row ∷ later) past made left kept timely =
        let more = one_more row later past in
        let then_kept : AreKept h (reverse later ++ (row ∷ past)) = subst (AreKept h) more kept in
        let then_timely : IsTimely h (reverse later ++ (row ∷ past)) = subst (IsTimely h) more timely in
        let then_made : All IsRow (row ∷ past) = All-cons IsRow row past (All-head IsRow row later left) made in
        let own : AreKept h (row ∷ past) = later_kept h (reverse later) (row ∷ past) then_kept in
        let keeps = now_keeps h is past made own.0 (kept_on (header_now h past) (known_now h past) row own.1) in (
          (keeps.headed, (later_timely (reverse later) (row ∷ past) then_timely).1),
          timely_from later (row ∷ past) then_made (All-tail IsRow row later left) then_kept then_timely,
        )

    -- ---- the lazy run behind the rows so far

    -- after a stop no clean row comes
    pub record Carried (past later : List Row) : Type 0 where
      pub world : World
      pub run : live_reached h (reverse past ++ later) (lazy_run h past later) ≡ Some (live_with (header_now h past) later world)
      pub goes : Follows (header_now h past) (known_now h past) (pointers_at h past later) world
          ⊎ (((known_now h past).stopped ≡ true) × AreAtFloors (header_now h past) (known_now h past) world)

    module _ (events : (g : Header) → EventLaw g) where
      -- what the step of a row rests on
      abbrev past_of : (past later : List Row) (row : Row) → DriverKeeps (header_now h past) (restored (header_now h past) (known_now h past) row) → Past (header_now h past)
      past_of past later row keeps = record {
        first = h;
        rows = reverse past ++ (row ∷ later);
        made = lazy_run h past (row ∷ later);
        known = restored (header_now h past) (known_now h past) row;
        keeps = keeps;
        pointers = pointers_at h past (row ∷ later);
      }

      module _ (past later : List Row) (w : World) (p : Keeps h is past) where
        abbrev g : Header
        g = header_now h past

        abbrev k : Known
        k = known_now h past

        carried : (row : Row) → is_ring_row row ≡ false → resets_by k row ≡ false → (keeps : DriverKeeps g (restored g k row)) → Carries g (past_of past later row keeps) row later → Carried (row ∷ past) later
        unfolding lazy_run pointers_at steps_for pointers_for ring_restored restored_on
        carried (RingRow ring) driven stays keeps c = absurd (false≢true (sym driven))
        carried (FreeRow id) driven stays keeps c = absurd (false≢true (sym driven))
        carried (NopRow r q) driven stays keeps c = absurd (false≢true (sym driven))
        carried (Reg r x) driven stays keeps c = record {
          world = c.world;
          run = subst (λ l. live_reached h l (lazy_run h (Reg r x ∷ past) later) ≡ Some (live_with g later c.world)) (sym (one_more (Reg r x) past later)) c.run;
          goes = subst (λ (l : Known). Follows g l (pointers_at h (Reg r x ∷ past) later) c.world ⊎ ((l.stopped ≡ true) × AreAtFloors g l c.world)) (sym (cond-false (resets k r x) _ _ stays)) c.goes;
        }
        carried row driven stays keeps c = search (rules, live_reached, lazy_run, one_more, goes)

        -- ---- a row of the driver, or one that reads an event

        module _ (row : Row) (is_row : IsRow row) (kept : IsKept g k row) (timely : AreTimely g k (row ∷ later))
            (run : live_reached h (reverse past ++ (row ∷ later)) (lazy_run h past (row ∷ later)) ≡ Some (live_with g (row ∷ later) w))
            (f : Follows g k (pointers_at h past (row ∷ later)) w) where
          keeps : DriverKeeps g (restored g k row)
          keeps = row_keeps g p.headed k p.keeps row kept.1

          may : MayCome g (restored g k row) row
          may = row_comes g p.headed k p.keeps row kept.0 kept.2

          follows : Follows g (restored g k row) (pointers_at h past (row ∷ later)) w
          follows = restored_follows g p.headed k (pointers_at h past (row ∷ later)) w row p.keeps kept.1 f

        drives : (row : Row) → IsDriverRow row → resets_by (restored g k row) row ≡ false → resets_by k row ≡ false → sees_halt g (restored g k row) row ≡ false → IsRow row → IsKept g k row →
            AreTimely g k (row ∷ later) → live_reached h (reverse past ++ (row ∷ later)) (lazy_run h past (row ∷ later)) ≡ Some (live_with g (row ∷ later) w) →
            Follows g k (pointers_at h past (row ∷ later)) w → Carried (row ∷ past) later
        drives row driver_row stays stays_before quiet is_row kept timely run f =
            carried row (driver_no_ring row driver_row) stays_before (keeps row is_row kept timely run f)
            (driver_step g p.headed row (past_of past later row (keeps row is_row kept timely run f)) later w driver_row is_row (may row is_row kept timely run f) stays quiet
            (follows row is_row kept timely run f) run)

        -- ---- a row of another kind

        -- no step of the controller is made before it
        made : (row : Row) (v : World) (x : Header) → live_reached h (reverse past ++ (row ∷ later)) (lazy_run h past (row ∷ later)) ≡ Some (live_with g (row ∷ later) w) →
            live_step (live_with g (row ∷ later) w) NextRow ≡ Some (live_with x later v) →
            live_reached h (reverse (row ∷ past) ++ later) (NextRow ∷ lazy_run h past (row ∷ later)) ≡ Some (live_with x later v)
        made row v x run at = search (rules, live_reached, lazy_run, one_more, option_and_then, live_step)

        -- the run goes on behind it
        goes_on : (row : Row) (v : World) → IsRow row → IsKept g k row → Runs g k w → live_row g w row ≡ Some v → (known_after g k row).stopped ≡ false → Runs (header_after g row) (known_after g k row) (counted g v)
        goes_on row v is_row kept runs at on =
            elim (row_goes g p.headed k p.keeps row w v is_row runs kept at) [ inl run ↦ run | inr over ↦ absurd (false≢true (sym on ∙ over.stopped)) ]

        -- the controller is reset, as the world is
        resets_too : (r : Register) (x : ℕ) → Follows g k (pointers_at h past (Reg r x ∷ later)) w → resets k r x ≡ true → row_done g w (Reg r x) ≡ Some (driver_reset w)
        unfolding row_done
        resets_too r x f now =
            let agrees = agrees_now g k w f.runs f.all_read in
            let same = same_resets g k w agrees.stands.started f.halted (λ halted. p.keeps.run.started (done_asked k.halt halted)) r x in
            ap (λ v. Some v) (cond-true (driver_resets w r x) (driver_reset w) _ (same ∙ now))

        reset_step : (r : Register) (x : ℕ) → resets k r x ≡ true → IsRow (Reg r x) → IsKept g k (Reg r x) →
            live_reached h (reverse past ++ (Reg r x ∷ later)) (lazy_run h past (Reg r x ∷ later)) ≡ Some (live_with g (Reg r x ∷ later) w) →
            Follows g k (pointers_at h past (Reg r x ∷ later)) w → Carried (Reg r x ∷ past) later
        unfolding lazy_run pointers_at steps_for pointers_for steps_before pointers_after ring_restored restored_on
        reset_step r x now is_row kept run f =
            let at = resets_too r x f now in
            let same : (if resets k r x then reset g k else learned g k (Reg r x)) ≡ reset g k = cond-true (resets k r x) (reset g k) (learned g k (Reg r x)) now in
            let stopped : (reset g k).stopped ≡ false = reset_on g k (kept_on g k (Reg r x) kept) in
            let runs : Runs g (reset g k) (counted g (driver_reset w)) =
            subst (λ l. Runs g l (counted g (driver_reset w))) same (goes_on (Reg r x) (driver_reset w) is_row kept f.runs at (ap (λ (l : Known). l.stopped) same ∙ stopped)) in
            record {
              world = counted g (driver_reset w);
              run = made (Reg r x) (counted g (driver_reset w)) g run (ap (λ o. option_map (λ v. live_with g later (counted g v)) o) at);
              goes = inl (subst (λ l. Follows g l (pointers_at h past (Reg r x ∷ later)) (counted g (driver_reset w))) (sym same) (reset_follows g p.headed k (pointers_at h past (Reg r x ∷ later)) w runs));
            }

        step : (row : Row) → IsRow row → IsKept g k row → AreTimely g k (row ∷ later) →
            live_reached h (reverse past ++ (row ∷ later)) (lazy_run h past (row ∷ later)) ≡ Some (live_with g (row ∷ later) w) →
            Follows g k (pointers_at h past (row ∷ later)) w → Carried (row ∷ past) later
        unfolding lazy_run pointers_at steps_for pointers_for steps_before pointers_after ring_restored restored_on forgotten known_gone on_ring
        step (RingRow ring) coming kept timely run f =
            let good = kept_coming g k ring kept in
            record {
              world = _;
              run = made (RingRow ring) _ (with_ring g ring) run refl;
              goes = inl (comes_follows g p.headed k p.keeps ring coming good.1 (pointers_at h past (RingRow ring ∷ later)) w (goes_on (RingRow ring) (resting w ring.id) coming kept f.runs refl good.0) f);
            }
        step (FreeRow id) is_row kept timely run f =
            let good = kept_going g k id kept in
            record {
              world = _;
              run = made (FreeRow id) _ (without_ring g id) run refl;
              goes = inl (goes_follows g p.headed k p.keeps id good.1 (pointers_at h past (FreeRow id ∷ later)) w (goes_on (FreeRow id) (resting w id) is_row kept f.runs refl good.0) f);
            }
        step (NopRow r q) is_row kept timely run f =
            let good = kept_withdrawing g k r q kept in
            record {
              world = _;
              run = made (NopRow r q) _ g run refl;
              goes = inl (withdrawn_follows g k (pointers_at h past (NopRow r q ∷ later)) w r q (goes_on (NopRow r q) (without_descriptor w r q) is_row kept f.runs refl good.0) f);
            }
        step (Read b) is_row kept timely run f =
            carried (Read b) refl refl (keeps (Read b) is_row kept timely run f)
            (events g (past_of past later (Read b) (keeps (Read b) is_row kept timely run f)) later b w p.headed is_row kept.0 timely run (follows (Read b) is_row kept timely run f))
        step (Reg r x) is_row kept timely run f =
            elim (cases_Bool (resets k r x)) [ inl now ↦ reset_step r x now is_row kept run f | inr none ↦ drives (Reg r x) tt none none refl is_row kept timely run f ]
        step (RegRead r x) is_row kept timely run f =
            elim (cases_Bool (is_first_halt g k r x)) [
              | inl seen ↦
                  carried (RegRead r x) refl refl (keeps (RegRead r x) is_row kept timely run f)
                  (halt_step g p.headed (past_of past later (RegRead r x) (keeps (RegRead r x) is_row kept timely run f)) later w r x seen is_row (may (RegRead r x) is_row kept timely run f) f run)
              | inr none ↦ drives (RegRead r x) tt refl refl none is_row kept timely run f
            ]
        step row is_row kept timely run f = drives row tt refl refl refl is_row kept timely run f

      carries : (past later : List Row) → All IsRow (reverse past ++ later) → AreKept h (reverse later ++ past) → IsTimely h (reverse later ++ past) → Carried past later
      unfolding lazy_run pointers_at
      carries [] later rows kept timely = record { world = opening; run = refl; goes = inl (first h) }
      carries (row ∷ past) later rows kept timely =
          let more = one_more row later past in
          let before : Carried past (row ∷ later) =
          carries past (row ∷ later) (subst (λ l. All IsRow l) (one_more row past later) rows) (subst (AreKept h) (sym more) kept) (subst (IsTimely h) (sym more) timely) in
          let r = rows_of (row ∷ past) later rows in
          let made : All IsRow past = All-tail IsRow row past r.0 in
          let is_row : IsRow row = All-head IsRow row past r.0 in
          let own : AreKept h (row ∷ past) = later_kept h (reverse later) (row ∷ past) kept in
          let on = kept_on (header_now h past) (known_now h past) row own.1 in
          let to_come = timely_from (row ∷ later) past made (All-cons IsRow row later is_row r.1) (subst (AreKept h) (sym more) kept) (subst (IsTimely h) (sym more) timely) in
          elim before.goes [
            | inl f ↦ step past later before.world (now_keeps h is past made own.0 on) row is_row own.1 to_come before.run f
            | inr over ↦ absurd (false≢true (sym on ∙ over.0))
          ]

    -- ---- the lazy law is part of it, by the run of the model beside this one

    at_floors : (past later : List Row) (c : Carried past later) → AreAtFloors (header_now h past) (known_now h past) c.world
    at_floors past later c = elim c.goes [ inl f ↦ λ s i r at. assumption (f.floors s i r at) | inr over ↦ over.1 ]

    -- a run that the rings that live see has one of the model beside it
    beside : (x : LiveScene) (o : Option LiveScene) (u : Option Scene) → o ≡ Some x → AreAlike h is o u → (y : Scene) × (u ≡ Some y) × Alike h is x y
    beside x o None at alike = absurd (subst (λ p. AreAlike h is p None) at alike)
    beside x o (Some y) at alike = (y, refl, subst (λ p. AreAlike h is p (Some y)) at alike)

    goes_so_far : (past later : List Row) → All IsRow (reverse past ++ later) → AreKept h (reverse later ++ past) → Carried past later → GoesSoFar h past later
    goes_so_far past later rows kept c =
        let turned : reverse (reverse past ++ later) ≡ reverse later ++ past = reverse-append (reverse past) later ∙ ap (λ l. reverse later ++ l) (reverse-reverse past) in
        let made : All IsStep (lazy_run h past later) = run_is h is past later (rows_of past later rows).0 (later_kept h (reverse later) past kept) in
        let alike = reached_alike h is (reverse past ++ later) rows (subst (AreKept h) (sym turned) kept) (lazy_run h past later) made in
        let y = beside (live_with (header_now h past) later c.world) (live_reached h (reverse past ++ later) (lazy_run h past later)) (scene_reached h (reverse past ++ later) (lazy_run h past later)) c.run alike in
        let a = y.2 in
        let floors = at_floors past later c in
        record {
          scene = y.0;
          run = y.1;
          live = ap (λ (z : Scene). z.live) a.same;
          left = ap (λ (z : Scene). z.rows) a.same;
          floors = λ s i r at. record {
            pointer = ap (λ (z : Scene). z.world.pointer_of r) a.same ∙ (floors s i r at).pointer;
            cycle = ap (λ (z : Scene). z.world.cycle_state r) a.same ∙ (floors s i r at).cycle;
          };
        }

  pub lazy_from_events : ((g : Header) → EventLaw g) → LazyLaw h
  lazy_from_events events past later is unmoved rows kept timely = goes_so_far (is, unmoved) past later rows kept (carries (is, unmoved) events past later rows kept timely)

  pub all_read_from_events : ((g : Header) → EventLaw g) → AllAreRead h
  all_read_from_events events = all_are_read h (lazy_from_events events)
