-- Behind each step of each run, as the rings that live see it, beside rows that break no rule the world is safe for them
use Rattle.safety.proofs.UpperLaws.{[], ◌≡◌, ◌∷◌, ◌++◌, ◌∙◌, false, List, Some, All, reverse, refl, sym, ap, subst, inl, inr, append_assoc, append-nil, rules, opening, Row, AreKept, IsKept, IsRow, LiveScene, header_after, header_now, known_after, known_now, live_row, live_next, live_reached, live_step, restored, ring_restored, false≢true, reverse-append, All-cons, All-head, All-tail, none-some, same_Some, Header, Step, NextRow, IsHeader, IsStep, World, IsSafe, Known, DriverKeeps, Runs, nothing_kept, mapped, some_then, opens, safe, clean_tests, RingRow, FreeRow, NopRow, kept_coming, kept_going, kept_withdrawing, Reg, Register, ℕ, cases_Bool, cond-true, cond-false, lenient, learned, with_ring, without_ring, forgotten, resting, register_facts, if◌then◌else◌, restored_on, MayCome, live_with, no_reset, plain_done, reset, resets, gone, is_bad_register, MayBegin}
use Rattle.std.proofs.Common.{option_map}
use Rattle.safety.specs.Invariant.{Holds}
use Rattle.safety.proofs.DriverHistories.{kept_driver, run_keeps}
use Rattle.safety.proofs.StepRuns.{row_holds, step_goes, runs_on}
use Rattle.safety.proofs.RingChanges.Restored.{row_comes, row_keeps, row_runs as restored_row_runs, stopped_still}
use Rattle.safety.proofs.RingChanges.Withdrawn.{withdraw_keeps, withdraw_runs}
use Rattle.safety.proofs.RingChanges.ComingGoing.{coming_header, coming_keeps, coming_runs, going_header, going_keeps, going_runs}
use Rattle.safety.proofs.ResetRuns.Resets.{reset_keeps, reset_runs}
use Rattle.world_state.specs.DriverRows as driver
use Rattle.world_state.specs.Steps as steps

-- ---- one row, one step, where the header is that of the rings that are there

module _ (h : Header) (is : IsHeader h) (k : Known) (keeps : DriverKeeps h k) where
  -- a row that resets nothing is as on a controller that runs but once
  plain : (r : Register) (x : ℕ) (w v : World) → Runs h k w → is_bad_register h k r x ≡ false → resets k r x ≡ false → driver.row_done h w (Reg r x) ≡ Some v →
      plain_done h w (Reg r x) ≡ Some v
  unfolding driver.row_done
  plain r x w v run good none at =
      ap (λ b. Some (if b then driver.reset w else driver.register_row h w r x)) (sym (no_reset h k w run keeps r x good none)) ∙ at

  -- a register restores no ring
  pub reg_kept : (r : Register) (x : ℕ) → IsKept h k (Reg r x) → (lenient h k (Reg r x) ≡ []) × MayCome h k (Reg r x)
  unfolding ring_restored restored_on
  reg_kept r x kept = (kept.0, row_comes h is k keeps (Reg r x) kept.0 kept.2)

  pub row_goes : (row : Row) (w v : World) → IsRow row → Runs h k w → IsKept h k row → live_row h w row ≡ Some v → Holds (header_after h row) (known_after h k row) (steps.counted h v)
  row_goes (NopRow r p) w v is_row run kept at = search (rules, kept_withdrawing, same_Some, withdraw_runs)
  row_goes (RingRow ring) w v is_row run kept at =
      let good = kept_coming h k ring kept in
      inl (subst (λ u. Runs (with_ring h ring) (forgotten k ring.id) (steps.counted h u)) (same_Some (resting w ring.id) v at) (coming_runs h is ring is_row k keeps good.1 w run))
  row_goes (FreeRow id) w v is_row run kept at =
      let good = kept_going h k id kept in
      inl (subst (λ u. Runs (without_ring h id) (gone h k id) (steps.counted h u)) (same_Some (resting w id) v at) (going_runs h is id k keeps good.1 w run))
  row_goes (Reg r x) w v is_row run kept at =
      elim (cases_Bool (resets k r x)) [
        | inl done_so ↦
            subst (λ m. Holds h m (steps.counted h v)) (sym (cond-true (resets k r x) (reset h k) (learned h k (Reg r x)) done_so))
            (inl (reset_runs h is k keeps r x (reg_kept r x kept).0 done_so w v run at))
        | inr none ↦
            subst (λ m. Holds h m (steps.counted h v)) (sym (cond-false (resets k r x) (reset h k) (learned h k (Reg r x)) none))
            (row_holds h is k w v keeps run (Reg r x) refl is_row (reg_kept r x kept).1 none (plain r x w v run (register_facts h k r x (reg_kept r x kept).0).good none at))
      ]
  row_goes row w v is_row run kept at = search (rules, row_holds, row_keeps, restored_row_runs, row_comes, same_Some)

-- a row that is kept isn't behind a stop
pub kept_on : (h : Header) (k : Known) (row : Row) → IsKept h k row → k.stopped ≡ false
kept_on h k row kept = sym (stopped_still h k (ring_restored h k row)) ∙ (clean_tests h (restored h k row) row kept.0).0

-- ---- whole runs

-- rows told from their history
pub one_more : (row : Row) (rest past : List Row) → reverse (row ∷ rest) ++ past ≡ reverse rest ++ (row ∷ past)
one_more row rest past = ap (λ l. l ++ past) (reverse-append (row ∷ []) rest) ∙ append_assoc (reverse rest) (row ∷ []) past

pub later_kept : (h : Header) (xs ys : List Row) → AreKept h (xs ++ ys) → AreKept h ys
later_kept h [] ys kept = kept
later_kept h (x ∷ xs) ys kept = later_kept h xs ys kept.0

module _ (h : Header) (is : MayBegin h) where
  -- what holds behind rows that break no rule
  pub record Keeps (past : List Row) : Type 0 where
    pub headed : IsHeader (header_now h past)
    pub keeps : DriverKeeps (header_now h past) (known_now h past)

  pub now_keeps : (past : List Row) → All IsRow past → AreKept h past → (known_now h past).stopped ≡ false → Keeps past
  now_keeps [] are kept on = record { headed = is.0; keeps = nothing_kept h is }
  now_keeps (NopRow r q ∷ past) are kept on =
      let good = kept_withdrawing (header_now h past) (known_now h past) r q kept.1 in
      let p = now_keeps past (All-tail IsRow (NopRow r q) past are) kept.0 good.0 in
      record { headed = p.headed; keeps = withdraw_keeps (header_now h past) r q p.headed (known_now h past) p.keeps good.1 }
  now_keeps (RingRow b ∷ past) are kept on =
      let good = kept_coming (header_now h past) (known_now h past) b kept.1 in
      let p = now_keeps past (All-tail IsRow (RingRow b) past are) kept.0 good.0 in
      let coming = All-head IsRow (RingRow b) past are in
      record {
        headed = coming_header (header_now h past) p.headed b coming (known_now h past) p.keeps good.1;
        keeps = coming_keeps (header_now h past) p.headed b coming (known_now h past) p.keeps good.1;
      }
  now_keeps (FreeRow id ∷ past) are kept on =
      let good = kept_going (header_now h past) (known_now h past) id kept.1 in
      let p = now_keeps past (All-tail IsRow (FreeRow id) past are) kept.0 good.0 in
      record {
        headed = going_header (header_now h past) p.headed id (known_now h past) p.keeps good.1;
        keeps = going_keeps (header_now h past) p.headed id (known_now h past) p.keeps good.1;
      }
  now_keeps (Reg r x ∷ past) are kept on =
      let g : Header = header_now h past in
      let k : Known = known_now h past in
      let p = now_keeps past (All-tail IsRow (Reg r x) past are) kept.0 (kept_on (header_now h past) (known_now h past) (Reg r x) kept.1) in
      record {
        headed = p.headed;
        keeps = elim (cases_Bool (resets k r x)) [
          | inl done_so ↦
              subst (DriverKeeps g) (sym (cond-true (resets k r x) (reset g k) (learned g k (Reg r x)) done_so)) (reset_keeps g p.headed k p.keeps r x (reg_kept g p.headed k p.keeps r x kept.1).0 done_so)
          | inr none ↦
              subst (DriverKeeps g) (sym (cond-false (resets k r x) (reset g k) (learned g k (Reg r x)) none))
              (kept_driver g p.headed k (Reg r x) p.keeps (reg_kept g p.headed k p.keeps r x kept.1).1
              (ap (λ (m : Known). m.stopped) (sym (cond-false (resets k r x) (reset g k) (learned g k (Reg r x)) none)) ∙ on))
        ];
      }
  now_keeps (row ∷ past) are kept on =
      let g : Header = header_now h past in
      let k : Known = known_now h past in
      let p = now_keeps past (All-tail IsRow row past are) kept.0 (kept_on (header_now h past) (known_now h past) row kept.1) in
      record {
        headed = p.headed;
        keeps = kept_driver g p.headed (restored g k row) row (row_keeps g p.headed k p.keeps row kept.1.1) (row_comes g p.headed k p.keeps row kept.1.0 kept.1.2) on;
      }

  -- a run has come to a scene, with `past` the rows that were made, the newest first
  pub record CameTo (past : List Row) (x : LiveScene) : Type 0 where
    pub made : All IsRow past
    pub left : All IsRow x.rows
    pub kept : AreKept h (reverse x.rows ++ past)
    pub header : x.header ≡ header_now h past
    pub holds : Holds (header_now h past) (known_now h past) x.world

  pub here : (past : List Row) (x : LiveScene) → CameTo past x → Runs (header_now h past) (known_now h past) x.world → Keeps past
  here past x c run = now_keeps past c.made (later_kept h (reverse x.rows) past c.kept) run.on

  -- ---- a row

  pub row_came : (past : List Row) (row : Row) (rest : List Row) (w v : World) → CameTo past (live_with (header_now h past) (row ∷ rest) w) → live_row (header_now h past) w row ≡ Some v →
      CameTo (row ∷ past) (live_with (header_after (header_now h past) row) rest (steps.counted (header_now h past) v))
  row_came past row rest w v c at =
      let kept : AreKept h (reverse rest ++ (row ∷ past)) = subst (AreKept h) (one_more row rest past) c.kept in
      let own : AreKept h (row ∷ past) = later_kept h (reverse rest) (row ∷ past) kept in
      let is_row : IsRow row = All-head IsRow row rest c.left in
      record {
        made = All-cons IsRow row past is_row c.made;
        left = All-tail IsRow row rest c.left;
        kept = kept;
        header = refl;
        holds = elim c.holds [
          | inl run ↦
              let p = here past (live_with (header_now h past) (row ∷ rest) w) c run in
              row_goes (header_now h past) p.headed (known_now h past) p.keeps row w v is_row run own.1 at
          | inr over ↦ absurd (false≢true (sym (kept_on (header_now h past) (known_now h past) row own.1) ∙ over.stopped))
        ];
      }

  next : (past : List Row) (x y : LiveScene) (rows : List Row) → x.rows ≡ rows → CameTo past x → live_next (record { header = header_now h past; rows = x.rows; world = x.world }) rows ≡ Some y →
      (row : Row) × CameTo (row ∷ past) y
  next past x y [] same c at = absurd (none-some y at)
  next past x y (row ∷ rest) same c at =
      let there = mapped (λ w. live_with (header_after (header_now h past) row) rest (steps.counted (header_now h past) w)) (live_row (header_now h past) x.world row) y at in
      let now : CameTo past (live_with (header_now h past) (row ∷ rest) x.world) = record { made = c.made; left = subst (All IsRow) same c.left; kept = subst (λ l. AreKept h (reverse l ++ past)) same c.kept; header = refl; holds = c.holds } in
      (row, subst (CameTo (row ∷ past)) there.2 (row_came past row rest x.world there.0 now there.1))

  -- ---- a controller's step: the same rows stay

  pub stays : (past : List Row) (x y : LiveScene) (s : Step) → IsStep s → (s ≡ NextRow → ⊥) → CameTo past x →
      option_map (λ w. let z : LiveScene = record { header = header_now h past; rows = x.rows; world = steps.counted (header_now h past) w } in z) (steps.made (header_now h past) (header_now h past) x.world s) ≡ Some y → CameTo past y
  stays past x y s is_step other c at = search (rules, mapped, header_now, x.world, here, step_goes, known_now, false≢true, runs_on)

  pub step : (past : List Row) (x y : LiveScene) (s : Step) → IsStep s → CameTo past x → live_step x s ≡ Some y → (now : List Row) × CameTo now y
  step past x y s is_step c at = by s is_step (ap (λ z. live_step z s) (sym same) ∙ at)
    where
      same : ◌≡◌ {A = LiveScene} x (record { header = header_now h past; rows = x.rows; world = x.world })
      same = λ j. record { header = c.header j; rows = x.rows; world = x.world }

      by : (s : Step) → IsStep s → live_step (record { header = header_now h past; rows = x.rows; world = x.world }) s ≡ Some y → (now : List Row) × CameTo now y
      by NextRow is_step at = let n = next past x y x.rows refl c at in (n.0 ∷ past, n.1)
      by s is_step at = (past, stays past x y s is_step (λ e. cc) c at)

  pub came : (rows : List Row) → All IsRow rows → AreKept h (reverse rows) → (made : List Step) (x : LiveScene) → All IsStep made → live_reached h rows made ≡ Some x →
      (past : List Row) × CameTo past x
  came rows are kept [] x all at = ([], subst (CameTo []) (same_Some (record { header = h; rows = rows; world = opening }) x at) (search (rules, reverse, append-nil, opens)))
  came rows are kept (s ∷ older) x all at =
      let before = some_then (λ z. live_step z s) (live_reached h rows older) x at in
      let came_before = came rows are kept older before.0 (All-tail IsStep s older all) before.1 in
      step came_before.0 before.0 x s (All-head IsStep s older all) came_before.1 before.2

  pub safe_there : (past : List Row) (x : LiveScene) → CameTo past x → IsSafe x.header x.world
  safe_there past x c =
      subst (λ g. IsSafe g x.world) (sym c.header)
      (elim c.holds [
        | inl run ↦ let p = here past x c run in safe (header_now h past) p.headed (known_now h past) x.world run (run_keeps (header_now h past) p.headed (known_now h past) x.world p.keeps run)
        | inr over ↦ over.safe
      ])
