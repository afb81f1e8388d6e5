-- A step of the controller keeps the invariant, and so does a row of the driver, or the run has ended behind it
use Rattle.safety.proofs.UpperLaws.{has_runs, agrees_once_counted, phase_agrees, Evt, event_ring, shape_or, plain_done, [], ◌≡◌, ◌∷◌, ◌∙◌, false, List, Option, Some, refl, sym, ap, subst, inl, inr, rules, cases_Bool, cond-false, cond-true, false≢true, none-some, Block, Header, Row, Sub, Write, Reg, Bell, Read, Step, NextRow, Look, Report, Finish, Other, Scribble, IsHeader, IsRow, IsStep, World, IsSafe, Known, learned, MayCome, DriverKeeps, IsDriverRow, Runs, all_read, ◌||◌, if◌then◌else◌, ℕ, Bool, true, not, kind, Usbcmd, run_bit, reset_bit, counted, Ended, harm_of, harms, has_changed_context, is_changed_since, is_context_changed, waits, register_written, run_or_stop, valued, arith, finish_runs, look_runs, other_runs, report_runs, declaration_leaves, write_leaves, bell_leaves, safe, scribble_runs, learned_read, event_same, read_runs, more_law, is_ring_row, runs_again, runs_once, Halt, RegRead, same_Some, Ring, nat_lt, is_none, event_size, event_shape, place_count, can_post, and_parts, status_leaves, is_asked, None, Agrees, ◌&&◌, Register, resets_by, ◌<◌}
use Rattle.std.proofs.Common.{option_map}
use Rattle.safety.specs.Invariant.{Holds}
use Rattle.safety.proofs.DriverHistories.{kept_driver, run_keeps}
use Rattle.safety.proofs.Rows.ReadRow.{read_on}
use Rattle.safety.proofs.Beneath.RowRuns.{row_runs}
use Rattle.safety.proofs.Beneath.Squares.{square_law}
use Rattle.safety.proofs.Beneath.StillRings.{still_rings}
use Rattle.world_state.specs.Finishes as finishes
use Rattle.world_state.specs.Posts as posts
use Rattle.world_state.specs.DriverRows as driver
use Rattle.world_state.specs.Steps as steps

-- The driver stops the controller: the run has ended, and its world is safe

-- the value stops a controller that runs
abbrev is_stop : ℕ → Bool
is_stop x = not (run_bit x) || reset_bit x

-- how a row can have stopped the controller
record IsStopRow (h : Header) (k : Known) (row : Row) : Type 0 where
  value : ℕ
  row_is : row ≡ Reg Usbcmd value
  once : has_runs h.version ≡ false
  started : k.started ≡ true
  stop : is_stop value ≡ true

module _ (h : Header) where
  stopped_world : World → ℕ → World
  stopped_world w x = record (driver.valued w Usbcmd x) { stopped = true }

  again_stopped : (k : Known) (x : ℕ) → (runs_again k x).stopped ≡ k.stopped
  unfolding runs_again
  again_stopped k x = grind arith

  once_stopped : (k : Known) (x : ℕ) → k.stopped ≡ false → (runs_once k x).stopped ≡ true → (k.started ≡ true) × (is_stop x ≡ true)
  unfolding runs_once
  once_stopped k x on stopped = grind arith

  stop_command : (k : Known) (x : ℕ) → k.stopped ≡ false → (run_or_stop h (valued k Usbcmd x) x).stopped ≡ true → IsStopRow h k (Reg Usbcmd x)
  unfolding run_or_stop valued
  stop_command k x on stopped =
      elim (cases_Bool (has_runs h.version)) [
        | inl again ↦
            absurd (false≢true (sym on ∙ sym (again_stopped (valued k Usbcmd x) x) ∙ subst (λ b. (if b then runs_again (valued k Usbcmd x) x else runs_once (valued k Usbcmd x) x).stopped ≡ true) again stopped))
        | inr once ↦
            let facts = once_stopped (valued k Usbcmd x) x on (subst (λ b. (if b then runs_again (valued k Usbcmd x) x else runs_once (valued k Usbcmd x) x).stopped ≡ true) once stopped) in
            record { value = x; row_is = refl; once = once; started = facts.0; stop = facts.1 }
      ]

  stop_register : (k : Known) (r : Register) (x : ℕ) → k.stopped ≡ false → (register_written h k r x).stopped ≡ true → IsStopRow h k (Reg r x)
  unfolding register_written valued
  stop_register k Usbcmd x on stopped = stop_command k x on stopped
  stop_register k r x on stopped = absurd (false≢true (sym on ∙ stopped))

  stop_row : (k : Known) (row : Row) → k.stopped ≡ false → (learned h k row).stopped ≡ true → IsStopRow h k row
  unfolding learned
  stop_row k (Sub r blocks) on stopped = absurd (false≢true (sym on ∙ sym (declaration_leaves h k r blocks).registers.stopped ∙ stopped))
  stop_row k (Write a w) on stopped = absurd (false≢true (sym on ∙ sym (write_leaves h k a w).registers.stopped ∙ stopped))
  stop_row k (Reg r x) on stopped = stop_register k r x on stopped
  stop_row k (Bell s t) on stopped = absurd (false≢true (sym on ∙ sym (bell_leaves h k s t).registers.stopped ∙ stopped))
  stop_row k (Read b) on stopped = absurd (false≢true (sym (read_on h k b on) ∙ stopped))
  stop_row k (RegRead r x) on stopped = absurd (false≢true (sym on ∙ sym (status_leaves h k r x).stopped ∙ stopped))
  stop_row k row on stopped = absurd (false≢true (sym on ∙ stopped))

  -- reading events starts nothing
  read_started : (unread : List Block) (k : Known) → (all_read h k unread).started ≡ k.started
  read_started [] k = refl
  read_started (e ∷ unread) k =
      read_started unread (learned h k (Read e))
      ∙ ap (λ m. m.started) (learned_read h k e)
      ∙ (event_same h k (kind e) e).started

  stops : (w : World) (x : ℕ) → (stopped_world w x).stopped ≡ true
  unfolding stopped_world
  stops w x = refl

  stopped_is : (w v : World) (x : ℕ) → has_runs h.version ≡ false → w.started ≡ true → is_stop x ≡ true → plain_done h w (Reg Usbcmd x) ≡ Some v → stopped_world w x ≡ v
  unfolding stopped_world driver.register_row driver.run_or_stop driver.runs_once driver.valued
  stopped_is w v x once on stop at = (grind (arith, same_Some))

  -- the run has ended behind the row that stops the controller
  pub stop_ends : IsHeader h → (now : Known) (row : Row) (w v : World) → (run : Runs h now w) → DriverKeeps h (all_read h now run.unread) → (learned h now row).stopped ≡ true →
      plain_done h w row ≡ Some v → Ended h (learned h now row) (counted h v)
  unfolding counted harm_of harms waits has_changed_context is_context_changed is_changed_since driver.valued stopped_world driver.row_done driver.register_row driver.run_or_stop driver.runs_once driver.runs_again
  stop_ends is now row w v run d stopped at =
      let s = stop_row now row run.on stopped in
      let on : w.started ≡ true = run.agrees.stands.started ∙ read_started run.unread now ∙ s.started in
      let world : stopped_world w s.value ≡ v = stopped_is w v s.value s.once on s.stop (subst (λ d. plain_done h w d ≡ Some v) s.row_is at) in
      record {
        stopped = stopped;
        also = sym (ap (λ x. x.stopped) world) ∙ stops w s.value;
        ring = λ some. run.agrees.events.ring (subst (λ n. 0 < n) (sym (ap (λ x. x.posted) world)) some);
        safe = subst (λ x. IsSafe h (counted h x)) world (safe h is now w run d);
      }

-- ---- a post is possible where an event ring is there alone

-- a ring with places is there
pub sized_there : (h : Header) → nat_lt 0 (event_size h) ≡ true → is_none (event_ring h) ≡ false
unfolding event_size event_shape
sized_there h size = by_ring (event_ring h) size
  where
    by_ring : (o : Option Ring) → nat_lt 0 (place_count (shape_or Evt o)) ≡ true → is_none o ≡ false
    by_ring None size = absurd (false≢true size)
    by_ring (Some r) size = refl

pub can_there : (h : Header) (w : World) (b : Block) → can_post h w b ≡ true → nat_lt 0 (event_size h) ≡ true
unfolding can_post
can_there h w b can = grind (arith, and_parts)

report_there : (h : Header) (w v : World) (b : Block) → posts.reported h w b ≡ Some v → nat_lt 0 (event_size h) ≡ true
unfolding posts.reported
report_there h w v b at = grind (arith, can_there, none-some)

finish_there : (h : Header) (w v : World) (b : Block) → finishes.finished h h w b ≡ Some v → nat_lt 0 (event_size h) ≡ true
unfolding finishes.finished
finish_there h w v b at = grind (arith, can_there, none-some)

other_there : (h : Header) (w v : World) (b : Block) → posts.other_posted h w b ≡ Some v → nat_lt 0 (event_size h) ≡ true
unfolding posts.other_posted
other_there h w v b at = grind (arith, can_there, none-some)

-- ---- a step of the controller

module _ (h : Header) where
  running_is : (w u : World) (o : Option World) → steps.while_running h w o ≡ Some u → (w.stopped ≡ false) × (o ≡ Some u)
  unfolding steps.while_running
  running_is w u o at = search (rules, none-some, cond-true, cond-false)

  until_is : (w u : World) (o : Option World) → steps.until_halted h w o ≡ Some u → (w.halted ≡ false) × (w.stopped ≡ false) × (o ≡ Some u)
  unfolding steps.until_halted
  until_is w u o at = grind (arith, running_is, none-some)

  -- a post, where an event ring is there
  noted_is : (w u : World) (o : Option World) → option_map (steps.noting_post h) o ≡ Some u → (v : World) × (o ≡ Some v) × (steps.noting_post h v ≡ u)
  noted_is w u None at = absurd (none-some u at)
  noted_is w u (Some v) at = (v, refl, same_Some (steps.noting_post h v) u at)

  -- it is made before a stop alone
  pub runs_on : (w u : World) (s : Step) → steps.made h h w s ≡ Some u → (s ≡ NextRow → ⊥) → w.stopped ≡ false
  unfolding steps.made
  runs_on w u NextRow at other = absurd (other refl)
  runs_on w u (Look r) at other = (until_is w u _ at).1
  runs_on w u (Report b) at other = (until_is w u _ at).1
  runs_on w u (Finish b) at other = (until_is w u _ at).1
  runs_on w u (Other b) at other = (until_is w u _ at).1
  runs_on w u (Scribble a x) at other = (running_is w u _ at).0
  runs_on w u Halt at other = (running_is w u _ at).0

  -- behind a post where an event ring is there
  noted_runs : (k : Known) (v u : World) → nat_lt 0 (event_size h) ≡ true → steps.noting_post h v ≡ u → Runs h k (steps.counted h v) → Runs h k (steps.counted h u)
  unfolding steps.noting_post
  noted_runs k v u there noted run =
      let same : v.posted_nowhere ≡ (v.posted_nowhere || (is_none (event_ring h) && has_runs h.version)) = (grind (arith, sized_there)) in
      subst (λ x. Runs h k (steps.counted h x)) noted (subst (λ (b : Bool). Runs h k (steps.counted h (let x : World = record v { posted_nowhere = b } in x))) same run)

  halts_is : (b : Bool) (x u : World) → (if b then Some x else None) ≡ Some u → (b ≡ true) × (x ≡ u)
  halts_is true x u at = (refl, same_Some x u at)
  halts_is false x u at = absurd (none-some u at)

  -- the controller halts
  halt_runs : (k : Known) (w u : World) → steps.halts h w ≡ Some u → Runs h k w → Runs h k (steps.counted h u)
  unfolding steps.halts
  halt_runs k w u at run =
      let m : Known = all_read h k run.unread in
      let parts = halts_is (w.halting && not w.halted) (let x : World = record w { halted = true } in x) u at in
      let asked : is_asked m.halt ≡ true = sym run.agrees.stands.halting ∙ (and_parts w.halting (not w.halted) parts.0).0 in
      let there : Agrees h m run.unread (let x : World = record w { halted = true } in x) =
      subst (λ (b : Bool). Agrees h m run.unread (let x : World = record w { halting = b; halted = true } in x)) (sym run.agrees.stands.halting)
      (subst (λ (b : Bool). Agrees h m run.unread (let x : World = record w { started = b; halting = is_asked m.halt; halted = true } in x)) (sym run.agrees.stands.started)
      (phase_agrees h m run.unread w run.agrees m.started m.halt true (λ _. refl) (λ _. asked) (λ some. sym run.agrees.stands.started ∙ run.agrees.events.started some))) in
      record {
        unread = run.unread;
        possible = run.possible;
        blocks = run.blocks;
        on = run.on;
        agrees = subst (λ x. Agrees h m run.unread (steps.counted h x)) parts.1 (agrees_once_counted h m run.unread (let x : World = record w { halted = true } in x) there);
      }

  -- and the run goes on
  pub step_goes : IsHeader h → (k : Known) → DriverKeeps h k → (w u : World) (s : Step) → IsStep s → steps.made h h w s ≡ Some u → (s ≡ NextRow → ⊥) → Runs h k w → Runs h k (steps.counted h u)
  unfolding steps.made
  step_goes is k keeps w u NextRow is_step at other run = absurd (other refl)
  step_goes is k keeps w u (Look r) is_step at other run = look_runs h is k w u r run (run_keeps h is k w keeps run) (until_is w u _ at).2
  step_goes is k keeps w u (Report b) is_step at other run =
      let made = until_is w u _ at in
      let noted = noted_is w u _ made.2 in
      noted_runs k noted.0 u (report_there h w noted.0 b noted.1) noted.2 (report_runs h is k w noted.0 b is_step made.1 run (run_keeps h is k w keeps run) noted.1)
  step_goes is k keeps w u (Finish b) is_step at other run =
      let made = until_is w u _ at in
      let noted = noted_is w u _ made.2 in
      noted_runs k noted.0 u (finish_there h w noted.0 b noted.1) noted.2 (finish_runs h is k w noted.0 b is_step made.1 run (run_keeps h is k w keeps run) noted.1)
  step_goes is k keeps w u (Other b) is_step at other run =
      let made = until_is w u _ at in
      let noted = noted_is w u _ made.2 in
      noted_runs k noted.0 u (other_there h w noted.0 b noted.1) noted.2 (other_runs h is k w noted.0 b is_step made.1 run (run_keeps h is k w keeps run) noted.1)
  step_goes is k keeps w u (Scribble a x) is_step at other run = scribble_runs h is k w u a x run (run_keeps h is k w keeps run) (running_is w u _ at).1
  step_goes is k keeps w u Halt is_step at other run = halt_runs k w u (running_is w u _ at).1 run

  -- ---- a row of the trace

  module _ (is : IsHeader h) (now : Known) (w v : World) (keeps : DriverKeeps h now) (run : Runs h now w) where
    driver_row : (row : Row) → IsRow row → IsDriverRow row → MayCome h now row → resets_by now row ≡ false → plain_done h w row ≡ Some v → Holds h (learned h now row) (steps.counted h v)
    driver_row row is_row of_driver possible stays at =
        elim (cases_Bool (learned h now row).stopped) [
          | inl stopped ↦ inr (stop_ends h is now row w v run (run_keeps h is now w keeps run) stopped at)
          | inr on ↦ inl (row_runs h is (kept_driver h) (still_rings h) (square_law h) (more_law h) now row w v is_row of_driver keeps run possible on stays at)
        ]

    pub row_holds : (row : Row) → is_ring_row row ≡ false → IsRow row → MayCome h now row → resets_by now row ≡ false → plain_done h w row ≡ Some v → Holds h (learned h now row) (steps.counted h v)
    unfolding driver.row_done
    row_holds (Read e) driven is_row possible stays at = inl (read_runs h now e w v is_row run at)
    row_holds (Sub r blocks) driven is_row possible stays at = driver_row (Sub r blocks) is_row tt possible stays at
    row_holds (Write a x) driven is_row possible stays at = driver_row (Write a x) is_row tt possible stays at
    row_holds (Reg r x) driven is_row possible stays at = driver_row (Reg r x) is_row tt possible stays at
    row_holds (Bell s t) driven is_row possible stays at = driver_row (Bell s t) is_row tt possible stays at
    row_holds (RegRead r x) driven is_row possible stays at = driver_row (RegRead r x) is_row tt possible stays at
    row_holds row driven is_row possible stays at = absurd (false≢true (sym driven))
