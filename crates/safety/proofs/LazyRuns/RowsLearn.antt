-- What a row of the driver leaves as it was, in the world and in what is known: floors, and which ring an endpoint has. A ring that it opens is active then
use Rattle.safety.proofs.MiddleLaws.{◌≡◌, ◌≢◌, ◌==◌, ◌&&◌, ◌||◌, ◌⊎◌, if◌then◌else◌, ◌∙◌, ℕ, not, Bool, true, false, List, Option, Some, None, refl, sym, ap, inl, inr, cases_eq, cond_both, false≢true, put, put_pair, Block, is_running, is_stopped, position_from, erdp_address, is_event_place, Header, Row, Sub, Write, Reg, Bell, Register, Usbcmd, Erdp, command_id, event_shape, run_bit, reset_bit, base_address, ring_cycle_state, World, stored, IsDriverRow, put_at, put_off, activated, bell_row, driver_declared, driver_endpoint_bell, register_row, row_done, driver_run_or_stop, driver_valued, with_dequeue, [], nat_lt, is_none, subst, rules, cases_Bool, cond-true, cond-false, or_parts, not-false, RingView, Opens, is_open, Known, on_ring, run_or_stop, valued, register_written, endpoint_rung, rung, learned, is_bad_bell, lenient, BellFacts, bell_facts, declaration_leaves, write_leaves, register_leaves, bell_leaves, view_after, arith, driver_runs_again, driver_runs_once, runs_again, runs_once, RegRead, Crcr, Usbsts, driver_resets, shows, is_command_ring, command_placed, with_command_ring, is_done, is_asked, HaltState, is_used, is_named, is_value, is_some, command_ring, Ring, is_first_halt, is_no_first_block, is_bad_crcr, is_bad_register, is_in_run, is_impossible_read, is_impossible_status, lenient_tests, read_tests, tests_fail, register_facts, status_leaves, resets, resets_by, register_read, status_read, and_from, not_from_false, IsHeader, Read, names_ring, no_command_ring, runs_leave, halted_bit, has_runs}
use Rattle.safety.proofs.LazyRuns.Follows.{sees_halt}
use Rattle.safety.proofs.Rows.PlainRows.{plain_done}

-- What a row of the driver that resets nothing leaves as it is in the world: CRCR alone moves a pointer, that of the command ring

-- the pointer of ring r stays, and so does its cycle state
pub record PointerStays (w v : World) (r : ℕ) : Type 0 where
  pub pointer : v.pointer_of r ≡ w.pointer_of r
  pub cycle : v.cycle_state r ≡ w.cycle_state r

pub stays_still : (w : World) (r : ℕ) → PointerStays w w r
stays_still w r = record { pointer = refl; cycle = refl }

-- what has halted was told to
pub done_asked : (o : HaltState) → is_done o ≡ true → is_asked o ≡ true
done_asked o done = grind arith

abbrev names_by : Register → Bool
names_by Crcr = true
names_by r = false

-- the row writes CRCR
abbrev pub names_command : Row → Bool
names_command (Reg r x) = names_by r
names_command row = false

-- a register shows what is read of it, and the controller isn't reset
abbrev pub IsPlain : World → Row → Type 0
IsPlain w (Reg r x) = driver_resets w r x ≡ false
IsPlain w (RegRead r x) = shows w r x ≡ true
IsPlain w row = Unit {0}

module _ (h : Header) where
  -- behind a row that writes CRCR, or doesn't
  pub record RowLeaves (names : Bool) (w v : World) : Type 0 where
    pub posted : v.posted ≡ w.posted
    pub reads : v.reads ≡ w.reads
    pub events : (r : ℕ) → v.events r ≡ w.events r
    pub active : (r : ℕ) → (is_command_ring h r ≡ false) ⊎ (names ≡ false) → w.is_active r ≡ true → v.is_active r ≡ true
    pub pointers : (r : ℕ) → (r ≢ command_id h) ⊎ (names ≡ false) → PointerStays w v r

  leaves_all : (w : World) → RowLeaves false w w
  leaves_all w = record { posted = refl; reads = refl; events = λ r. refl; active = λ r why on. on; pointers = λ r why. stays_still w r }

  -- where CRCR is written that holds of less
  leaves_less : (w v : World) → RowLeaves false w v → RowLeaves true w v
  leaves_less w v l = record { posted = l.posted; reads = l.reads; events = l.events; active = λ r why. l.active r (inr refl); pointers = λ r why. l.pointers r (inr refl) }

  -- ---- the registers

  -- in another phase
  in_phase : (w : World) (s t a b : Bool) → RowLeaves false w (let v : World = record w { started = s; stopped = t; halting = a; halted = b } in v)
  in_phase w s t a b = record { posted = refl; reads = refl; events = λ r. refl; active = λ r why on. on; pointers = λ r why. record { pointer = refl; cycle = refl } }

  either : (b : Bool) (w u v : World) → RowLeaves false w u → RowLeaves false w v → RowLeaves false w (if b then u else v)
  either b w u v one other = cond_both b u v (RowLeaves false w) (λ _. one) (λ _. other)

  runs : (w : World) (x : ℕ) → RowLeaves false w (driver_run_or_stop h w x)
  unfolding driver_run_or_stop driver_runs_once driver_runs_again
  runs w x =
      either (has_runs h.version) w _ _
      (either (reset_bit x) w w _ (leaves_all w)
      (either (run_bit x) w _ _ (in_phase w true w.stopped false false) (either w.started w _ w (in_phase w w.started w.stopped true w.halted) (leaves_all w))))
      (either (not w.started) w _ _
      (either (run_bit x && not (reset_bit x)) w _ w (in_phase w true w.stopped w.halting w.halted) (leaves_all w))
      (either (not (run_bit x) || reset_bit x) w _ w (in_phase w w.started true w.halting w.halted) (leaves_all w)))

  placed : (w : World) (x : ℕ) → RowLeaves true w (command_placed h w x)
  unfolding command_placed
  placed w x = record {
    posted = refl;
    reads = refl;
    events = λ r. refl;
    active = λ r why on. elim why [
      | inl other ↦ and_from (w.is_active r) (not (is_command_ring h r)) on (not_from_false (is_command_ring h r) other)
      | inr none ↦ absurd (false≢true (sym none))
    ];
    pointers = λ r why. elim why [
      | inl other ↦ record { pointer = put_off w.pointer_of (command_id h) (base_address x) r other; cycle = put_off w.cycle_state (command_id h) (ring_cycle_state x) r other }
      | inr none ↦ absurd (false≢true (sym none))
    ];
  }

  -- a register's value is no part of it
  from_valued : (names : Bool) (w v : World) (r : Register) (x : ℕ) → RowLeaves names (driver_valued w r x) v → RowLeaves names w v
  unfolding driver_valued
  from_valued names w v r x l = search rules

  registers : (w : World) (r : Register) (x : ℕ) → RowLeaves (names_by r) w (register_row h w r x)
  unfolding register_row with_dequeue with_command_ring
  registers w Usbcmd x = from_valued false w (driver_run_or_stop h (driver_valued w Usbcmd x) x) Usbcmd x (runs (driver_valued w Usbcmd x) x)
  registers w Crcr x =
      let v : World = driver_valued w Crcr x in
      from_valued true w (with_command_ring h v x) Crcr x
      (cond_both (v.started && not v.halted) v (command_placed h v x) (RowLeaves true v) (λ _. leaves_less v v (leaves_all v)) (λ _. placed v x))
  registers w Erdp x = from_valued false w (with_dequeue h (driver_valued w Erdp x) (erdp_address x)) Erdp x (search (rules, position_from, event_shape, cond_both, is_event_place, leaves_all))
  registers w r x = from_valued false w (driver_valued w r x) r x (leaves_all (driver_valued w r x))

  -- ---- the doorbells

  rings : (w : World) (s t : ℕ) → RowLeaves false w (bell_row h w s t)
  unfolding bell_row activated driver_endpoint_bell
  rings w s t = search (rules, w.started, activated, command_id, driver_endpoint_bell, w.ring_of, cases_eq, put, put_at, put_off, leaves_all, put_pair, is_running, is_stopped)

  -- ---- all of them

  declares : (w : World) (r : ℕ) (blocks : List Block) → RowLeaves false w (driver_declared h w r blocks)
  unfolding driver_declared
  declares w r blocks = record { posted = refl; reads = refl; events = λ q. refl; active = λ q why on. on; pointers = λ q why. record { pointer = refl; cycle = refl } }

  stores : (w : World) (a x : ℕ) → RowLeaves false w (stored w a x)
  unfolding stored
  stores w a x = record { posted = refl; reads = refl; events = λ q. refl; active = λ q why on. on; pointers = λ q why. record { pointer = refl; cycle = refl } }

  -- such a row is possible
  unfoldable pub done : World → Row → World
  done w (Sub r blocks) = driver_declared h w r blocks
  done w (Write a x) = stored w a x
  done w (Reg r x) = register_row h w r x
  done w (Bell s t) = bell_row h w s t
  done w _ = w

  pub row_is_done : (w : World) (row : Row) → IsDriverRow row → IsPlain w row → row_done h w row ≡ Some (done w row)
  unfolding row_done done
  row_is_done w (Sub r blocks) driver_row plain = refl
  row_is_done w (Write a x) driver_row plain = refl
  row_is_done w (Reg r x) driver_row plain = ap (λ v. Some v) (cond-false (driver_resets w r x) _ _ plain)
  row_is_done w (Bell s t) driver_row plain = refl
  row_is_done w (RegRead r x) driver_row plain = cond-true (shows w r x) (Some w) None plain
  row_is_done w row driver_row plain = absurd driver_row

  pub plain_is_done : (w : World) (row : Row) → IsDriverRow row → IsPlain w row → plain_done h w row ≡ Some (done w row)
  unfolding done
  plain_is_done w (Reg r x) driver_row plain = refl
  plain_is_done w row driver_row plain = row_is_done w row driver_row plain

  pub row_leaves : (w : World) (row : Row) → RowLeaves (names_command row) w (done w row)
  unfolding done
  row_leaves w (Sub r blocks) = declares w r blocks
  row_leaves w (Write a x) = stores w a x
  row_leaves w (Reg r x) = registers w r x
  row_leaves w (Bell s t) = rings w s t
  row_leaves w row = leaves_all w

pub open_before : (v w : RingView) → w.held ≡ v.held → is_open w ≡ true → is_open v ≡ true
unfolding is_open
open_before v w same opened = ap (λ o. is_none o) (sym same) ∙ opened

module _ (h : Header) where
  pub record RowLearns (k l : Known) : Type 0 where
    pub ring_of : l.ring_of ≡ k.ring_of
    pub floors : (r : ℕ) → (l.ring r).floor ≡ (k.ring r).floor
    -- a command ring that isn't started behind the row wasn't before it
    pub unused : is_used h l ≡ false → is_used h k ≡ false

  -- ---- a doorbell

  opens_floor : (k : Known) (r q : ℕ) → ((on_ring h k r Opens).ring q).floor ≡ (k.ring q).floor
  opens_floor k r q =
      view_after h (λ v. v.floor ≡ (k.ring q).floor) k r Opens q
      (λ same. ap (λ n. (k.ring n).floor) (sym same)) (λ other. refl)

  -- it holds no ring
  opens_unused : (k : Known) (r : ℕ) → is_used h (on_ring h k r Opens) ≡ false → is_used h k ≡ false
  opens_unused k r =
      view_after h (λ v. not (is_value 0 v.held) ≡ false → is_used h k ≡ false) k r Opens (command_id h)
      (λ same none. absurd (false≢true (sym none))) (λ other none. none)

  same_unused : (k l : Known) → (l.ring (command_id h)).held ≡ (k.ring (command_id h)).held → is_used h l ≡ false → is_used h k ≡ false
  same_unused k l same none = ap (λ o. not (is_value 0 o)) (sym same) ∙ none

  bell_unused : (k : Known) (s t : ℕ) → is_used h (learned h k (Bell s t)) ≡ false → is_used h k ≡ false
  unfolding learned rung endpoint_rung
  bell_unused k s t =
      cond_both (s == 0) (on_ring h k (command_id h) Opens) (endpoint_rung h k s t (k.ring_of s t)) (λ l. is_used h l ≡ false → is_used h k ≡ false)
      (λ _. opens_unused k (command_id h)) (λ _. by (k.ring_of s t))
    where
      by : (o : Option ℕ) → is_used h (endpoint_rung h k s t o) ≡ false → is_used h k ≡ false
      by None none = none
      by (Some r) none = opens_unused k r none

  -- ---- any row of the driver

  bell_learns : (k : Known) (s t : ℕ) → RowLearns k (learned h k (Bell s t))
  unfolding learned rung endpoint_rung
  bell_learns k s t = record {
    ring_of = (bell_leaves h k s t).slots.ring_of;
    floors = λ q. (search (rules, cond_both, on_ring, command_id, endpoint_rung, k.ring_of, opens_floor));
    unused = bell_unused k s t;
  }

  pub row_learns : (k : Known) (row : Row) → IsDriverRow row → RowLearns k (learned h k row)
  row_learns k (Sub r blocks) driver_row =
      let same = declaration_leaves h k r blocks in
      record { ring_of = same.slots.ring_of; floors = λ q. (same.pointers q).floor; unused = same_unused k (learned h k (Sub r blocks)) (same.pointers (command_id h)).held }
  row_learns k (Write a x) driver_row =
      let same = write_leaves h k a x in
      record { ring_of = same.slots.ring_of; floors = λ q. (same.pointers q).floor; unused = same_unused k (learned h k (Write a x)) (same.pointers (command_id h)).held }
  row_learns k (Reg r x) driver_row =
      let same = register_leaves h k r x in
      record { ring_of = same.slots.ring_of; floors = λ q. ap (λ f. (f q).floor) same.ring; unused = same_unused k (learned h k (Reg r x)) (ap (λ f. (f (command_id h)).held) same.ring) }
  row_learns k (Bell s t) driver_row = bell_learns k s t
  row_learns k (RegRead r x) driver_row =
      let same = status_leaves h k r x in
      record { ring_of = same.slots.ring_of; floors = λ q. ap (λ f. (f q).floor) same.ring; unused = same_unused k (learned h k (RegRead r x)) (ap (λ f. (f (command_id h)).held) same.ring) }
  row_learns k row driver_row = absurd driver_row

  -- ---- the command ring: whether CRCR names it

  crcr_named : (k l : Known) → l.register ≡ k.register → is_named l ≡ is_named k
  crcr_named k l same = ap (λ f. is_some (f Crcr)) same

  register_named : (k : Known) (r : Register) (x : ℕ) → names_by r ≡ false → is_named (learned h k (Reg r x)) ≡ is_named k
  unfolding learned register_written valued
  register_named k Usbcmd x other = ap (λ f. is_some (f Crcr)) (runs_leave h (valued k Usbcmd x) x).register
  register_named k Crcr x other = absurd (false≢true (sym other))
  register_named k r x other = refl

  pub row_named : (k : Known) (row : Row) → IsDriverRow row → names_command row ≡ false → is_named (learned h k row) ≡ is_named k
  row_named k (Sub r blocks) driver_row other = crcr_named k (learned h k (Sub r blocks)) (declaration_leaves h k r blocks).registers.register
  row_named k (Write a x) driver_row other = crcr_named k (learned h k (Write a x)) (write_leaves h k a x).registers.register
  row_named k (Reg r x) driver_row other = register_named k r x other
  row_named k (Bell s t) driver_row other = crcr_named k (learned h k (Bell s t)) (bell_leaves h k s t).registers.register
  row_named k (RegRead r x) driver_row other = crcr_named k (learned h k (RegRead r x)) (status_leaves h k r x).register
  row_named k row driver_row other = absurd driver_row

  pub row_unnamed : (k : Known) (row : Row) → IsDriverRow row → is_named (learned h k row) ≡ false → (names_command row ≡ false) × (is_named k ≡ false)
  unfolding learned register_written valued
  row_unnamed k (Reg Crcr x) driver_row off = absurd (false≢true (sym off))
  row_unnamed k (Reg r x) driver_row off = (refl, sym (register_named k r x refl) ∙ off)
  row_unnamed k (Read b) driver_row off = absurd driver_row
  row_unnamed k row driver_row off = (refl, sym (row_named k row driver_row refl) ∙ off)

  -- a row that writes CRCR
  pub record NamesCommand (k : Known) (row : Row) : Type 0 where
    pub there : is_some (command_ring h) ≡ true
    pub unused : is_used h k ≡ false
    pub unused_then : is_used h (learned h k row) ≡ false

  first_there : (v : ℕ) (o : Option Ring) → is_no_first_block v o ≡ false → is_some o ≡ true
  unfolding is_no_first_block
  first_there v None first = absurd (false≢true (sym first))
  first_there v (Some q) first = refl

  crcr_there : (k : Known) (x : ℕ) → is_bad_crcr h k x ≡ false → is_some (command_ring h) ≡ true
  unfolding is_bad_crcr
  crcr_there k x good = first_there x (command_ring h) (search (rules, or_parts))

  crcr_names : IsHeader h → (k : Known) (x : ℕ) → is_bad_register h k Crcr x ≡ false → NamesCommand k (Reg Crcr x)
  unfolding is_bad_register
  crcr_names is k x bad =
      let good : is_bad_crcr h k x ≡ false = (or_parts (is_in_run k) (is_bad_crcr h k x) bad).1 in
      let n = names_ring h is k x good in
      record { there = crcr_there k x good; unused = n.unused; unused_then = ap (λ f. not (is_value 0 (f (command_id h)).held)) (register_leaves h k Crcr x).ring ∙ n.unused }

  pub row_names : IsHeader h → (k : Known) (row : Row) → names_command row ≡ true → lenient h k row ≡ [] → NamesCommand k row
  row_names is k (Reg Crcr x) names clean = crcr_names is k x (register_facts h k Crcr x clean).good
  row_names is k (Reg r x) names clean = absurd (false≢true names)
  row_names is k row names clean = absurd (false≢true names)

  -- ---- how far the controller is in halting

  -- the world and what is known have the same phase
  abbrev pub HaltsSo : Known → World → Type 0
  HaltsSo k w = w.halted ≡ is_done k.halt

  once_halted : (k : Known) (w : World) (x : ℕ) → HaltsSo k w → HaltsSo (runs_once k x) (driver_runs_once h w x)
  unfolding runs_once driver_runs_once
  once_halted k w x so = grind arith

  again_halted : (k : Known) (w : World) (x : ℕ) → HaltsSo k w → HaltsSo (runs_again k x) (driver_runs_again h w x)
  unfolding runs_again driver_runs_again
  again_halted k w x so = grind arith

  run_halted : (k : Known) (w : World) (x : ℕ) → HaltsSo k w → HaltsSo (run_or_stop h k x) (driver_run_or_stop h w x)
  unfolding run_or_stop driver_run_or_stop
  run_halted k w x so =
      elim (cases_Bool (has_runs h.version)) [
        | inl again ↦ subst (λ b. (if b then driver_runs_again h w x else driver_runs_once h w x).halted ≡ is_done (if b then runs_again k x else runs_once k x).halt) (sym again) (again_halted k w x so)
        | inr once ↦ subst (λ b. (if b then driver_runs_again h w x else driver_runs_once h w x).halted ≡ is_done (if b then runs_again k x else runs_once k x).halt) (sym once) (once_halted k w x so)
      ]

  register_halted : (k : Known) (w : World) (r : Register) (x : ℕ) → HaltsSo k w → HaltsSo (learned h k (Reg r x)) (register_row h w r x)
  unfolding learned register_written register_row valued driver_valued with_dequeue with_command_ring command_placed
  register_halted k w Usbcmd x so = run_halted (valued k Usbcmd x) (driver_valued w Usbcmd x) x so
  register_halted k w Crcr x so =
      let v : World = driver_valued w Crcr x in
      cond_both (v.started && not v.halted) v (command_placed h v x) (λ u. u.halted ≡ is_done k.halt) (λ _. so) (λ _. so)
  register_halted k w Erdp x so = (search (rules, cond_both, is_event_place, event_shape))
  register_halted k w r x so = so

  bell_halted : (w : World) (s t : ℕ) → (bell_row h w s t).halted ≡ w.halted
  unfolding bell_row activated driver_endpoint_bell
  bell_halted w s t = grind arith

  -- a register that is read tells nothing new
  read_halted : (k : Known) (r : Register) (x : ℕ) → is_first_halt h k r x ≡ false → is_done (learned h k (RegRead r x)).halt ≡ is_done k.halt
  unfolding learned register_read status_read is_first_halt
  read_halted k o x none = grind arith

  pub row_halted : (k : Known) (w : World) (row : Row) → IsDriverRow row → sees_halt h k row ≡ false → HaltsSo k w → HaltsSo (learned h k row) (done h w row)
  unfolding done driver_declared stored
  row_halted k w (Sub r blocks) driver_row none so = so ∙ ap is_done (sym (declaration_leaves h k r blocks).registers.halt)
  row_halted k w (Write a x) driver_row none so = so ∙ ap is_done (sym (write_leaves h k a x).registers.halt)
  row_halted k w (Reg r x) driver_row none so = register_halted k w r x so
  row_halted k w (Bell s t) driver_row none so = bell_halted w s t ∙ so ∙ ap is_done (sym (bell_leaves h k s t).registers.halt)
  row_halted k w (RegRead r x) driver_row none so = so ∙ sym (read_halted k r x none)
  row_halted k w row driver_row none so = absurd driver_row

  -- ---- rows that are possible

  module _ (k : Known) (w : World) (started : w.started ≡ k.started) (halted : w.halted ≡ is_done k.halt) (run : is_done k.halt ≡ true → k.started ≡ true) where
    pub same_resets : (r : Register) (x : ℕ) → driver_resets w r x ≡ resets k r x
    unfolding driver_resets resets
    same_resets o x = grind arith

    status_shown : (bit s d a : Bool) → (d ≡ true → a ≡ true) → (if bit then s && not a else not s || d) ≡ false → (bit && a && not d) ≡ false → (if bit then d || not s else s && not d) ≡ true
    status_shown bit s d a asked possible none = grind arith

    read_shown : (r : Register) (x : ℕ) → is_impossible_read h k r x ≡ false → is_first_halt h k r x ≡ false → shows w r x ≡ true
    unfolding is_impossible_read is_impossible_status is_first_halt shows
    read_shown Usbsts x possible none = (grind (arith, status_shown (halted_bit x) k.started (is_done k.halt) (is_asked k.halt), done_asked k.halt))
    read_shown o x possible none = grind arith

    read_possible : (r : Register) (x : ℕ) → lenient h k (RegRead r x) ≡ [] → is_impossible_read h k r x ≡ false
    unfolding lenient_tests read_tests
    read_possible r x clean = (tests_fail h k (RegRead r x) clean).0

    pub row_plain : (row : Row) → IsDriverRow row → lenient h k row ≡ [] → resets_by k row ≡ false → sees_halt h k row ≡ false → IsPlain w row
    row_plain (Reg r x) driver_row clean stays none = same_resets r x ∙ stays
    row_plain (RegRead r x) driver_row clean stays none = read_shown r x (read_possible r x clean) none
    row_plain row driver_row clean stays none = tt

  -- ---- the rings that are open

  -- ring q is active in v, if it was in w where it was open
  abbrev WasActive : Known → World → ℕ → Type 0
  WasActive k w q = is_open (k.ring q) ≡ true → w.is_active q ≡ true

  -- one ring is opened, and is active
  opens_one : (k : Known) (w v : World) (r q : ℕ) → v.is_active r ≡ true → (w.is_active q ≡ true → v.is_active q ≡ true) → WasActive k w q →
      is_open ((on_ring h k r Opens).ring q) ≡ true → v.is_active q ≡ true
  opens_one k w v r q on still was =
      view_after h (λ x. is_open x ≡ true → v.is_active q ≡ true) k r Opens q
      (λ same opened. ap (λ n. v.is_active n) same ∙ on) (λ other opened. still (was opened))

  command_bell : (k : Known) (w : World) (t q : ℕ) → (t == 0) ≡ true → w.started ≡ true → (w.is_active q ≡ true → (if t == 0 && w.started then activated h w (command_id h) else w).is_active q ≡ true) →
      WasActive k w q → is_open ((on_ring h k (command_id h) Opens).ring q) ≡ true → (if t == 0 && w.started then activated h w (command_id h) else w).is_active q ≡ true
  unfolding activated
  command_bell k w t q zero on still was =
      let v : World = if t == 0 && w.started then activated h w (command_id h) else w in opens_one k w v (command_id h) q (simp (zero, on) (put_at w.is_active (command_id h) true)) still was

  endpoint_bell : (k : Known) (w : World) (s t q : ℕ) (o : Option ℕ) → (is_running (w.endpoint_state s t) || is_stopped (w.endpoint_state s t)) ≡ true →
      (w.is_active q ≡ true → (driver_endpoint_bell h w s t o).is_active q ≡ true) → WasActive k w q →
      is_open ((endpoint_rung h k s t o).ring q) ≡ true → (driver_endpoint_bell h w s t o).is_active q ≡ true
  unfolding driver_endpoint_bell activated endpoint_rung
  endpoint_bell k w s t q None may still was opened = still (was opened)
  endpoint_bell k w s t q (Some r) may still was opened =
      opens_one k w (driver_endpoint_bell h w s t (Some r)) r q (simp may (put_at w.is_active r true)) still was opened

  may_ring : (k : Known) (s t : ℕ) → is_bad_bell h k s t ≡ false → (is_running (k.endpoint_state s t) || is_stopped (k.endpoint_state s t)) ≡ true
  unfolding is_bad_bell
  may_ring k s t good = search (rules, or_parts, nat_lt, not-false)

  pub unused_held : (k : Known) → is_used h k ≡ false → is_open (k.ring (command_id h)) ≡ false
  unfolding is_open
  unused_held k unused = by (k.ring (command_id h)).held unused
    where
      by : (o : Option ℕ) → not (is_value 0 o) ≡ false → is_none o ≡ false
      by None none = absurd (false≢true (sym none))
      by (Some n) none = refl

  -- CRCR is written where the command ring isn't open
  stays_active : (k : Known) (r : Register) (x q : ℕ) → IsHeader h → lenient h k (Reg r x) ≡ [] → is_open (k.ring q) ≡ true → (is_command_ring h q ≡ false) ⊎ (names_by r ≡ false)
  stays_active k Crcr x q is clean opened =
      inl (elim (cases_eq q (command_id h)) [
        | inl same ↦ absurd (false≢true (sym (unused_held k (row_names is k (Reg Crcr x) refl clean).unused) ∙ ap (λ n. is_open (k.ring n)) (sym same) ∙ opened))
        | inr other ↦ no_command_ring h is q other
      ])
  stays_active k r x q is clean opened = inr refl

  module _ (k : Known) (w : World) (started : w.started ≡ k.started) (ring_of : (s i : ℕ) → w.ring_of s i ≡ k.ring_of s i)
      (endpoints : (s i : ℕ) → w.endpoint_state s i ≡ k.endpoint_state s i) where
    bell_active : (s t q : ℕ) → lenient h k (Bell s t) ≡ [] → (w.is_active q ≡ true → (bell_row h w s t).is_active q ≡ true) → WasActive k w q →
        is_open ((learned h k (Bell s t)).ring q) ≡ true → (bell_row h w s t).is_active q ≡ true
    unfolding learned rung bell_row
    bell_active s t q clean still was opened =
        let f : BellFacts h k s t = bell_facts h k s t clean in
        let first : World = if t == 0 && w.started then activated h w (command_id h) else w in
        let second : World = driver_endpoint_bell h w s t (w.ring_of s t) in
        let one : Known = on_ring h k (command_id h) Opens in
        let two : Known = endpoint_rung h k s t (k.ring_of s t) in
        elim (cases_Bool (s == 0)) [
          | inl command ↦ (grind (arith, cond-true, is_bad_bell, is_open, command_bell, not-false))
          | inr endpoint ↦
              let same : (if s == 0 then first else second) ≡ second = cond-false (s == 0) first second endpoint in
              let good : is_bad_bell h k s t ≡ false = sym (cond-false (s == 0) (not (t == 0)) (is_bad_bell h k s t) endpoint) ∙ f.good in
              let may : (is_running (w.endpoint_state s t) || is_stopped (w.endpoint_state s t)) ≡ true = ap (λ e. is_running e || is_stopped e) (endpoints s t) ∙ may_ring k s t good in
              let open_there : is_open (two.ring q) ≡ true = ap (λ (l : Known). is_open (l.ring q)) (sym (cond-false (s == 0) one two endpoint)) ∙ opened in
              ap (λ (u : World). u.is_active q) same
              ∙ endpoint_bell k w s t q (w.ring_of s t) may (λ on. sym (ap (λ (u : World). u.is_active q) same) ∙ still on) was
              (subst (λ o. is_open ((endpoint_rung h k s t o).ring q) ≡ true) (sym (ring_of s t)) open_there)
        ]

    -- a ring that is open behind a row is active then, if it was so before
    pub row_active : (row : Row) (q : ℕ) → IsHeader h → IsDriverRow row → lenient h k row ≡ [] → WasActive k w q → is_open ((learned h k row).ring q) ≡ true → (done h w row).is_active q ≡ true
    unfolding done
    row_active (Bell s t) q is driver_row clean was opened = bell_active s t q clean ((row_leaves h w (Bell s t)).active q (inr refl)) was opened
    row_active (Sub r blocks) q is driver_row clean was opened = (row_leaves h w (Sub r blocks)).active q (inr refl) (was (open_before (k.ring q) ((learned h k (Sub r blocks)).ring q) ((declaration_leaves h k r blocks).pointers q).held opened))
    row_active (Write a x) q is driver_row clean was opened = (row_leaves h w (Write a x)).active q (inr refl) (was (open_before (k.ring q) ((learned h k (Write a x)).ring q) ((write_leaves h k a x).pointers q).held opened))
    row_active (Reg r x) q is driver_row clean was opened =
        let before : is_open (k.ring q) ≡ true = ap (λ f. is_open (f q)) (sym (register_leaves h k r x).ring) ∙ opened in
        (row_leaves h w (Reg r x)).active q (stays_active k r x q is clean before) (was before)
    row_active (RegRead r x) q is driver_row clean was opened = was (ap (λ f. is_open (f q)) (sym (status_leaves h k r x).ring) ∙ opened)
    row_active row q is driver_row clean was opened = absurd driver_row

  -- ---- the start

  -- no row takes the start back
  register_starts : (k : Known) (r : Register) (x : ℕ) → k.started ≡ true → (learned h k (Reg r x)).started ≡ true
  unfolding learned register_written valued
  register_starts k Usbcmd x on = (runs_leave h (valued k Usbcmd x) x).started on
  register_starts k r x on = on

  pub row_starts : (k : Known) (row : Row) → IsDriverRow row → k.started ≡ true → (learned h k row).started ≡ true
  row_starts k (Sub r blocks) driver_row on = (declaration_leaves h k r blocks).registers.started ∙ on
  row_starts k (Write a x) driver_row on = (write_leaves h k a x).registers.started ∙ on
  row_starts k (Reg r x) driver_row on = register_starts k r x on
  row_starts k (Bell s t) driver_row on = (bell_leaves h k s t).registers.started ∙ on
  row_starts k (RegRead r x) driver_row on = (status_leaves h k r x).started ∙ on
  row_starts k row driver_row on = absurd driver_row
