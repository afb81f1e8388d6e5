-- A row of the driver makes of the model's world what it makes of the world of the rings that live
use Rattle.safety.proofs.UpperLaws.{◌≡◌, ◌≢◌, ◌<◌, ◌==◌, ◌&&◌, ◌||◌, ◌∙◌, if◌then◌else◌, ℕ, not, Bool, true, false, List, Option, Some, None, is_none, nat_lt, put, refl, sym, ap, arith, inl, inr, cases_Bool, cases_option, false≢true, false_from_ne_true, same_Some, eqb-true, and_from, and_parts, fun_ext, some_of, list_any, IsIn, found_in, Block, Header, Ring, Sub, Write, Reg, Bell, Read, RegRead, Register, Usbcmd, Erdp, erdp_address, World, IsHeader, ring_with, event_shape, place_count, Known, DriverKeeps, Runs, is_asked, is_named, is_run, is_bad_erdp, Left, aside, Lists, bell_so, declared_so, dequeue_so, phase_so, read_so, ◌⊎◌, zero, suc, base_address, ring_cycle_state, command_ring, event_ring, shape_or, is_command_kind, Evt, Crcr, Usbsts, any_of, is_reached_within, is_bad_command_register, is_early_resume, is_unwritten, names_no_place, is_command, only_one, declared_lingers, dequeue_lingers, lingering, none_lingers, phase_lingers, read_lingers, command_is, events_are}
use Rattle.std.specs.Prelude.{option_map}
use Rattle.safety.proofs.RingChanges.Alike.{Lingers}
use Rattle.safety.proofs.RingChanges.StepsAside.{none_still}
use Rattle.safety.proofs.RingChanges.RunFacts as facts
use Rattle.world_state.specs.World as world
use Rattle.world_state.specs.DriverRows as driver

-- ---- which rings are command rings

command_if : (rs : List Ring) (r : ℕ) (q : Ring) → ((x : Ring) → IsIn x rs → x.id ≡ r → x ≡ q) → IsIn q rs → (q.id == r) ≡ true → list_any (λ x. is_command_kind x.shape.kind && x.id == r) rs ≡ is_command q
command_if rs r q one at named =
    elim (cases_Bool (is_command q)) [
      | inl it ↦ any_of (λ x. is_command_kind x.shape.kind && x.id == r) rs q at (and_from (is_command q) (q.id == r) it named) ∙ sym it
      | inr other ↦
          false_from_ne_true (list_any (λ x. is_command_kind x.shape.kind && x.id == r) rs) (λ some.
          let x = some_of (λ x. is_command_kind x.shape.kind && x.id == r) rs some in
          let both = and_parts (is_command x.0) (x.0.id == r) x.2 in
          false≢true (sym other ∙ ap is_command (sym (one x.0 x.1 (eqb-true x.0.id r both.1))) ∙ both.0))
          ∙ sym other
    ]

module _ (l : Left) (g d : Header) (lists : Lists l g d) (headed : IsHeader g) where
  -- a ring that lives is one where it is one
  pub command_same : (r : ℕ) (q : Ring) → ring_with g r ≡ Some q → driver.is_command_ring d r ≡ driver.is_command_ring g r
  unfolding driver.is_command_ring
  command_same r q at =
      let declared = lists.found r q at in
      let in_d = found_in (λ x. x.id == r) d.rings q declared.0 in
      let in_g = found_in (λ x. x.id == r) g.rings q at in
      command_if d.rings r q
      (λ x there same. elim (lists.each x there) [
        | inl lives ↦ same_Some x q (sym lives ∙ ap (ring_with g) same ∙ at)
        | inr went ↦ absurd (false≢true (sym declared.1 ∙ ap l.gone (sym same) ∙ went))
      ]) in_d.0 in_d.1
      ∙ sym (command_if g.rings r q (only_one g headed r q at) in_g.0 in_g.1)

-- ---- events that are read

no_read : (h : Header) (w : World) (e : Block) → w.posted ≡ 0 → driver.event_read h w e ≡ None
unfolding driver.event_read
no_read h w e none = grind (arith, none)

-- ---- a register that is written

no_places : (o : Option Ring) → o ≡ None → nat_lt 0 (place_count (shape_or Evt o)) ≡ false
no_places o none = grind (arith, place_count)

-- a value of ERDP is refused where there is no event ring
erdp_refused : (h : Header) (k : Known) (x : ℕ) → event_ring h ≡ None → is_bad_erdp h k Erdp x ≡ true
unfolding is_bad_erdp names_no_place event_shape
erdp_refused h k x none = grind (arith, no_places, is_reached_within)

-- while the controller halts it goes on with a command ring that CRCR names
pub resume_refused : (h : Header) (k : Known) (x : ℕ) → k.started ≡ true → is_asked k.halt ≡ true → is_named k ≡ false → is_run x ≡ true → is_bad_command_register h k x ≡ true
unfolding is_bad_command_register is_early_resume is_unwritten
resume_refused h k x started asked unnamed is_run_so = grind (arith, started, asked, unnamed, is_run_so, is_none)

pub halts_on : (h : Header) (w : World) (x : ℕ) → is_run x ≡ false → w.halted ≡ true → (driver.run_or_stop h (driver.valued w Usbcmd x) x).halted ≡ true
unfolding driver.run_or_stop driver.runs_once driver.runs_again driver.valued
halts_on h w x stays halted = grind arith

-- ---- rows

zero_or : (n : ℕ) → (n ≡ 0) ⊎ (0 < n)
zero_or zero = inl refl
zero_or (suc n) = inr (omega arith)

shown_alike : (f : World → World) (b : Bool) (w u : World) → f w ≡ u → option_map f (if b then Some w else None) ≡ (if b then Some u else None)
shown_alike f b w u same = grind arith

or_false : (b : Bool) → (b || false) ≡ b
or_false o = grind arith

module _ (l : Left) (still : ℕ → Bool) (g d : Header) (lists : Lists l g d) (headed : IsHeader g) (k : Known) (keeps : DriverKeeps g k) (w : World) (run : Runs g k w) (lingers : (r : ℕ) → still r ≡ true → Lingers l d k w r) where
  abbrev pub of_model : World → World
  of_model v = lingering still (aside l v)

  halted_of : (r : ℕ) → still r ≡ true → w.halted ≡ true
  halted_of r is_still = (lingers r is_still).halted

  pub sub_aside : (r : ℕ) (blocks : List Block) → l.gone r ≡ false → option_map of_model (driver.row_done g w (Sub r blocks)) ≡ driver.row_done d (of_model w) (Sub r blocks)
  unfolding driver.row_done
  sub_aside r blocks off = ap (λ (v : World). Some v) (ap (lingering still) (declared_so l g d w r blocks off) ∙ sym (declared_lingers still d (aside l w) r blocks))

  pub write_aside : (a x : ℕ) → option_map of_model (driver.row_done g w (Write a x)) ≡ driver.row_done d (of_model w) (Write a x)
  unfolding driver.row_done world.stored
  write_aside a x = refl

  pub status_aside : (r : Register) (x : ℕ) → option_map of_model (driver.row_done g w (RegRead r x)) ≡ driver.row_done d (of_model w) (RegRead r x)
  unfolding driver.row_done driver.shows
  status_aside Usbsts x = shown_alike of_model _ w (of_model w) refl
  status_aside r x = refl

  -- before a start no event was posted
  none_posted : w.started ≡ false → w.posted ≡ 0
  none_posted before = elim (zero_or w.posted) [ inl none ↦ none | inr some ↦ absurd (false≢true (sym before ∙ run.agrees.events.started some)) ]

  twice : (o u z : Option World) → option_map (aside l) o ≡ u → z ≡ option_map (lingering still) u → option_map of_model o ≡ z
  twice o u z one other = grind (arith, option_map)

  pub read_aside : (e : Block) → option_map of_model (driver.row_done g w (Read e)) ≡ driver.row_done d (of_model w) (Read e)
  unfolding driver.row_done
  read_aside e =
      elim (cases_Bool w.started) [
        | inl started ↦
            let event = facts.event_there g headed k keeps w run started in
            let same = read_so l g d (events_are l g d lists event.0 event.1) w e in
            twice (driver.event_read g w e) (driver.event_read d (aside l w) e) (driver.event_read d (of_model w) e) same (read_lingers still d (aside l w) e)
        | inr before ↦ ap (option_map of_model) (no_read g w e (none_posted before)) ∙ sym (no_read d (of_model w) e (none_posted before))
      ]

  -- the doorbell of a controller that runs: no ring lingers
  pub bell_aside : (s t : ℕ) → w.started ≡ true → w.halted ≡ false → option_map of_model (driver.row_done g w (Bell s t)) ≡ driver.row_done d (of_model w) (Bell s t)
  unfolding driver.row_done
  bell_aside s t started on =
      let command = facts.command_there g headed k keeps w run (facts.runs_named g headed k keeps w run started on) in
      let none : (r : ℕ) → still r ≡ false = none_still l still g d lists headed k keeps w run halted_of on in
      ap (λ (v : World). Some v)
      (none_lingers still (aside l (driver.bell_row g w s t)) none ∙ bell_so l g d (command_is l g d lists command.0 command.1) w s t
      ∙ ap (λ u. driver.bell_row d u s t) (sym (none_lingers still (aside l w) none)))

  -- ---- registers

  -- how a register's row is made, where it resets the controller and where it doesn't
  pub reset_row : (h : Header) (u : World) (r : Register) (x : ℕ) → driver.resets u r x ≡ true → driver.row_done h u (Reg r x) ≡ Some (driver.reset u)
  unfolding driver.row_done
  reset_row h u r x is_reset = ap (λ b. Some (if b then driver.reset u else driver.register_row h u r x)) is_reset

  pub plain_row : (h : Header) (u : World) (r : Register) (x : ℕ) → driver.resets u r x ≡ false → driver.row_done h u (Reg r x) ≡ Some (driver.register_row h u r x)
  unfolding driver.row_done
  plain_row h u r x none = ap (λ b. Some (if b then driver.reset u else driver.register_row h u r x)) none

  pub resets_same : (r : Register) (x : ℕ) → driver.resets (of_model w) r x ≡ driver.resets w r x
  unfolding driver.resets
  resets_same Usbcmd x = refl
  resets_same r x = refl

  aside_reset : (u : World) → lingering (λ n. false) (aside l (driver.reset u)) ≡ driver.reset (of_model u)
  unfolding driver.reset
  aside_reset u = refl

  pub reset_aside : (r : Register) (x : ℕ) → driver.resets w r x ≡ true →
      option_map (λ v. lingering (λ n. false) (aside l v)) (driver.row_done g w (Reg r x)) ≡ driver.row_done d (of_model w) (Reg r x)
  reset_aside r x is_reset =
      ap (option_map (λ v. lingering (λ n. false) (aside l v))) (reset_row g w r x is_reset) ∙ ap (λ (v : World). Some v) (aside_reset w)
      ∙ sym (reset_row d (of_model w) r x (resets_same r x ∙ is_reset))

  -- the rows of all registers but CRCR
  erdp_there : (x : ℕ) → is_bad_erdp g k Erdp x ≡ false → (q : Ring) × (event_ring g ≡ Some q)
  erdp_there x good =
      elim (cases_option (event_ring g)) [ inl none ↦ absurd (false≢true (sym good ∙ erdp_refused g k x none)) | inr some ↦ some ]

  register_aside : (r : Register) (x : ℕ) → r ≢ Crcr → is_bad_erdp g k r x ≡ false → of_model (driver.register_row g w r x) ≡ driver.register_row d (of_model w) r x
  unfolding driver.register_row driver.valued
  register_aside Usbcmd x other good =
      ap (lingering still) (phase_so l g d lists.version (driver.valued w Usbcmd x) x) ∙ sym (phase_lingers still d (aside l (driver.valued w Usbcmd x)) x)
  register_aside Erdp x other good =
      let event = erdp_there x good in
      ap (lingering still) (dequeue_so l g d (events_are l g d lists event.0 event.1) (driver.valued w Erdp x) (erdp_address x)) ∙ sym (dequeue_lingers still d (aside l (driver.valued w Erdp x)) (erdp_address x))
  register_aside Crcr x other good = absurd (other refl)
  register_aside r x other good = refl

  pub plain_aside : (r : Register) (x : ℕ) → r ≢ Crcr → driver.resets w r x ≡ false → is_bad_erdp g k r x ≡ false →
      option_map of_model (driver.row_done g w (Reg r x)) ≡ driver.row_done d (of_model w) (Reg r x)
  plain_aside r x other none good =
      ap (option_map of_model) (plain_row g w r x none) ∙ ap (λ (v : World). Some v) (register_aside r x other good) ∙ sym (plain_row d (of_model w) r x (resets_same r x ∙ none))

  -- CRCR, where the controller doesn't run: it looks at no command ring that was there before
  placed_idle : (r : ℕ) → false ≡ (still r && not (driver.is_command_ring d r))
  placed_idle r =
      elim (cases_Bool (still r)) [
        | inl is_still ↦ (λ j. sym is_still j && not (sym (lingers r is_still).command j))
        | inr off ↦ (λ j. sym off j && not (driver.is_command_ring d r))
      ]

  placed_alike : (r : ℕ) → ((w.is_active r && not (driver.is_command_ring g r)) || false) ≡ ((w.is_active r || still r) && not (driver.is_command_ring d r))
  placed_alike r =
      elim (cases_Bool (w.is_active r)) [
        | inl on ↦
            let there = facts.active g headed k keeps w run r on in
            let off : still r ≡ false = false_from_ne_true (still r) (λ is_still. false≢true (sym (lists.found r there.0 there.1).1 ∙ (lingers r is_still).gone)) in
            let same = command_same l g d lists headed r there.0 there.1 in
            (λ j. (on j && not (driver.is_command_ring g r)) || false) ∙ or_false (not (driver.is_command_ring g r)) ∙ (λ j. (sym on j || sym off j) && not (sym same j))
        | inr idle ↦ (λ j. (idle j && not (driver.is_command_ring g r)) || false) ∙ placed_idle r ∙ (λ j. (sym idle j || still r) && not (driver.is_command_ring d r))
      ]

  pub crcr_aside : (x : ℕ) (q : Ring) → command_ring g ≡ Some q → (w.started && not w.halted) ≡ false →
      lingering (λ n. false) (aside l (driver.register_row g w Crcr x)) ≡ driver.register_row d (of_model w) Crcr x
  unfolding driver.register_row driver.valued driver.with_command_ring driver.command_placed
  crcr_aside x q there off =
      let same = command_is l g d lists q there in
      ap (λ b. lingering (λ n. false) (aside l (if b then driver.valued w Crcr x else driver.command_placed g (driver.valued w Crcr x) x))) off
      ∙ (λ j. record (of_model (driver.valued w Crcr x)) {
        is_active = fun_ext placed_alike j;
        pointer_of = put w.pointer_of (sym same j) (base_address x);
        cycle_state = put w.cycle_state (sym same j) (ring_cycle_state x);
      })
      ∙ ap (λ b. if b then driver.valued (of_model w) Crcr x else driver.command_placed d (driver.valued (of_model w) Crcr x) x) (sym off)
