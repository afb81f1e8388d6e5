-- Each row keeps a run of the model and what the rings that live see of it alike
use Rattle.safety.proofs.UpperLaws.{forgotten, is_inside_descriptor, with_register, [], ◌≡◌, ◌≢◌, ◌∷◌, ◌&&◌, ◌||◌, ◌==◌, ◌∙◌, if◌then◌else◌, ℕ, not, Bool, true, false, List, Option, Some, None, is_some, refl, sym, ap, arith, inl, inr, cases_Bool, cases_eq, cond-true, cond-false, false≢true, false_from_ne_true, same_Some, or_parts, and_parts, and_from, some_of, found_in, eqb-true, eq-eqb, put, put_at, put_off, fun_ext, Block, Header, Ring, Row, Sub, Write, Reg, Bell, Read, RegRead, RingRow, FreeRow, NopRow, Register, Usbcmd, Erdp, World, IsRow, IsKept, ring_with, command_id, counted, without_ring, with_ring, row_done, Known, Runs, live_next, live_with, header_now, known_after, known_now, listed, may_come, Scene, row_next, with_coming, with_left, with_world, may_declare, driver_is, Left, aside, kept_coming, kept_going, kept_withdrawing, Lists, came_aside, come_again, comes_lists, goes_lists, left_behind, may_come_there, was_live, went_aside, is_named, is_done, is_asked, is_in_run, is_run, bell_facts, register_facts, restored, restored_on, ring_restored, learned, is_bad_erdp, has_stopped, is_bad_withdraw, laid, laid_here, laid_put, length_from, no_ops, split_at, without_descriptor, not-false, command_ring, event_ring, is_command_kind, is_command, Crcr, any_of, emptied, lenient, on_ring, resting, gone, resets, is_bad_crcr, is_bad_register, is_no_first_block, registered, lingering, still_listed, MayBegin}
use Rattle.safety.proofs.RingChanges.Withdrawn.{stopped_with}
use Rattle.std.proofs.Common.{option_map}
use Rattle.safety.proofs.RingChanges.LeftOut.{is_event}
use Rattle.safety.proofs.RingChanges.Alike.{AreAlike, Goes, IsIdle, Lingers, alike_row, whole}
use Rattle.safety.proofs.RingChanges.LiveHeadline.{CameTo, Keeps, here, reg_kept, row_came}
use Rattle.safety.proofs.RingChanges.RowsIdle.{halted_left, leaves, registers_left, row_idle}
use Rattle.safety.proofs.RunKeeps.Phases as phases
use Rattle.safety.proofs.RingChanges.ComingGoing as kinds
use Rattle.safety.proofs.RingChanges.RunFacts as facts
use Rattle.safety.proofs.RingChanges.RowsAside as rows_aside
use Rattle.world_state.specs.DriverRows as driver

-- ---- what a row leaves of the phase

phase_restored : (h : Header) (k : Known) (o : Option ℕ) → ((restored_on h k o).started ≡ k.started) × ((restored_on h k o).halt ≡ k.halt)
unfolding restored_on on_ring
phase_restored h k None = (refl, refl)
phase_restored h k (Some r) = (refl, refl)

-- any register but CRCR leaves CRCR, and any but USBCMD the halt
crcr_left : (values : Register → Option ℕ) (r : Register) (x : ℕ) → r ≢ Crcr → with_register values r x Crcr ≡ values Crcr
crcr_left values Crcr x other = absurd (other refl)
crcr_left values r x other = refl

no_reset_by_crcr : (w : World) (x : ℕ) → driver.resets w Crcr x ≡ false
unfolding driver.resets
no_reset_by_crcr w x = refl

dequeue_halted : (h : Header) (u : World) (a : ℕ) → (driver.with_dequeue h u a).halted ≡ u.halted
unfolding driver.with_dequeue
dequeue_halted h u a = grind arith

halt_left : (h : Header) (w : World) (r : Register) (x : ℕ) → r ≢ Crcr → r ≢ Usbcmd → (driver.register_row h w r x).halted ≡ w.halted
unfolding driver.register_row driver.valued
halt_left h w Usbcmd x other command = absurd (command refl)
halt_left h w Crcr x other command = absurd (other refl)
halt_left h w Erdp x other command = dequeue_halted h (driver.valued w Erdp x) _
halt_left h w r x other command = refl

gone_unnamed : (h : Header) (k : Known) (id : ℕ) → is_named k ≡ false → is_named (gone h k id) ≡ false
unfolding gone
gone_unnamed h k id off = grind arith

coming_unnamed : (k : Known) (id : ℕ) → is_named k ≡ false → is_named (forgotten k id) ≡ false
unfolding forgotten
coming_unnamed k id off = off

gone_command : (h : Header) (k : Known) (id : ℕ) → command_id h ≡ id → is_named (gone h k id) ≡ false
unfolding gone
gone_command h k id same = ap (λ b. is_some (if b then None else k.register Crcr)) (eq-eqb id (command_id h) (sym same))

no_named_block : (o : Option Ring) (x : ℕ) → is_no_first_block x o ≡ false → (q : Ring) × (o ≡ Some q)
unfolding is_no_first_block
no_named_block None x named = absurd (false≢true (sym named))
no_named_block (Some q) x named = (q, refl)

crcr_there : (h : Header) (k : Known) (x : ℕ) → is_bad_register h k Crcr x ≡ false → (is_in_run k ≡ false) × ((q : Ring) × (command_ring h ≡ Some q))
unfolding is_bad_register is_bad_crcr
crcr_there h k x good =
    let two = or_parts (is_in_run k) _ good in
    (two.0, no_named_block (command_ring h) x (or_parts _ _ (or_parts _ _ (or_parts _ _ (or_parts _ _ two.1).0).0).0).0)

or_none : (b : Bool) → (b || false) ≡ (false || b)
or_none o = grind arith

not_in_run : (started halted k_started done : Bool) → started ≡ k_started → (done ≡ true → halted ≡ true) → (k_started && not done) ≡ false → (started && not halted) ≡ false
not_in_run started halted k_started done same seen off = grind arith

module _ (h : Header) (is : MayBegin h) (past : List Row) (w : World) (l : Left) (still : ℕ → Bool) (d : Header) (lists : Lists l (header_now h past) d) (rest : IsIdle l w)
    (lingers : (r : ℕ) → still r ≡ true → Lingers l d (known_now h past) w r) (rest_of : List Row) (p : Keeps h is past) (run : Runs (header_now h past) (known_now h past) w) where
  abbrev g : Header
  g = header_now h past

  abbrev k : Known
  k = known_now h past

  abbrev of_model : World → World
  of_model v = lingering still (aside l v)

  abbrev before : Row → Scene
  before row = whole l still d (live_with g (row ∷ rest_of) w)

  -- ---- rows of the driver

  driven : (row : Row) (now : ℕ → Bool) → option_map (λ v. lingering now (aside l v)) (row_done g w row) ≡ row_done d (of_model w) row →
      ((v : World) → row_done g w row ≡ Some v → Goes h is (row ∷ past) l now d g lists rest_of v) →
      AreAlike h is (option_map (λ v. live_with g rest_of (counted g v)) (row_done g w row)) (option_map (with_left rest_of) (option_map (with_world (before row)) (row_done d (of_model w) row)))
  driven row now same goes = alike_row h is (row ∷ past) l now d g lists rest_of (before row) refl refl (row_done g w row) (row_done d (of_model w) row) same goes

  left_lingers : (row : Row) (v : World) → leaves row ≡ true → row_done g w row ≡ Some v → (r : ℕ) → still r ≡ true → Lingers l d (known_after g k row) v r
  left_lingers row v of_these at r is_still =
      let x = lingers r is_still in
      record { gone = x.gone; command = x.command; halted = halted_left g w v row of_these at ∙ x.halted; unnamed = ap (λ f. is_some (f Crcr)) (registers_left g k row of_these) ∙ x.unnamed; ended = x.ended }

  idle_behind : (row : Row) (v : World) → ((s t : ℕ) → row ≡ Bell s t → w.halted ≡ false) → row_done g w row ≡ Some v → IsIdle l v
  idle_behind row v bell at = row_idle l g d lists p.headed k p.keeps w run rest row v bell at

  declares : (r : ℕ) (blocks : List Block) → IsKept g k (Sub r blocks) → l.gone r ≡ false
  unfolding ring_restored restored_on
  declares r blocks kept = let ring = driver_is (ring_with g r) (may_declare g k r blocks kept.0).0 in (lists.found r ring.0 ring.1).1

  runs_at_bell : (s t : ℕ) → IsKept g k (Bell s t) → (w.started ≡ true) × (w.halted ≡ false)
  runs_at_bell s t kept =
      let b = bell_facts g (restored g k (Bell s t)) s t kept.0 in
      let same = phase_restored g k (ring_restored g k (Bell s t)) in (
        phases.started_is g k w run ∙ sym same.0 ∙ b.started,
        false_from_ne_true w.halted (λ halted. false≢true (sym b.on ∙ ap is_asked same.1 ∙ phases.told g k w run halted)),
      )

  none_lingering : w.halted ≡ false → (r : ℕ) → still r ≡ true → ⊥
  none_lingering on r is_still = false≢true (sym on ∙ (lingers r is_still).halted)

  -- ---- registers

  module _ (r : Register) (x : ℕ) (kept : IsKept g k (Reg r x)) where
    may : lenient g k (Reg r x) ≡ []
    may = (reg_kept g p.headed k p.keeps r x kept).0

    fine : (is_bad_register g k r x ≡ false) × (is_bad_erdp g k r x ≡ false)
    fine = let f = register_facts g k r x may in (f.good, f.erdp)

    behind : resets k r x ≡ false → (known_after g k (Reg r x)).register ≡ with_register k.register r x
    behind none = ap (λ m. m.register) (cond-false (resets k r x) _ (learned g k (Reg r x)) none) ∙ registered g k r x

    -- a reset: nothing lingers
    reset_made : resets k r x ≡ true → (at_v : (v : World) → row_done g w (Reg r x) ≡ Some v → CameTo h is (Reg r x ∷ past) (live_with g rest_of (counted g v))) →
        AreAlike h is (option_map (λ v. live_with g rest_of (counted g v)) (row_done g w (Reg r x))) (option_map (with_left rest_of) (option_map (with_world (before (Reg r x))) (row_done d (of_model w) (Reg r x))))
    reset_made is_reset came =
        driven (Reg r x) (λ n. false) (rows_aside.reset_aside l still g d lists p.headed k p.keeps w run lingers r x (phases.resets_too g k w run r x p.keeps is_reset))
        (λ v at. record { came = came v at; idle = idle_behind (Reg r x) v (λ s t e. cc) at; lingers = λ n is_still. absurd (false≢true is_still) })

    -- any but CRCR and USBCMD
    plain_made : r ≢ Crcr → r ≢ Usbcmd → resets k r x ≡ false → (at_v : (v : World) → row_done g w (Reg r x) ≡ Some v → CameTo h is (Reg r x ∷ past) (live_with g rest_of (counted g v))) →
        AreAlike h is (option_map (λ v. live_with g rest_of (counted g v)) (row_done g w (Reg r x))) (option_map (with_left rest_of) (option_map (with_world (before (Reg r x))) (row_done d (of_model w) (Reg r x))))
    plain_made other command none came =
        let no_reset = phases.no_reset g k w run p.keeps r x fine.0 none in
        driven (Reg r x) still (rows_aside.plain_aside l still g d lists p.headed k p.keeps w run lingers r x other no_reset fine.1)
        (λ v at. record {
          came = came v at;
          idle = idle_behind (Reg r x) v (λ s t e. cc) at;
          lingers = λ n is_still. let y = lingers n is_still in record {
            gone = y.gone;
            command = y.command;
            halted = ap (λ u. u.halted) (sym (same_Some _ v (sym (rows_aside.plain_row l still g d lists p.headed k p.keeps w run lingers g w r x no_reset) ∙ at))) ∙ halt_left g w r x other command ∙ y.halted;
            unnamed = ap (λ f. is_some (f Crcr)) (behind none) ∙ ap (λ o. is_some o) (crcr_left k.register r x other) ∙ y.unnamed;
            ended = y.ended;
          };
        })

  -- USBCMD: what lingers doesn't let the controller go on
  command_made : (x : ℕ) (kept : IsKept g k (Reg Usbcmd x)) → resets k Usbcmd x ≡ false → (at_v : (v : World) → row_done g w (Reg Usbcmd x) ≡ Some v → CameTo h is (Reg Usbcmd x ∷ past) (live_with g rest_of (counted g v))) →
      AreAlike h is (option_map (λ v. live_with g rest_of (counted g v)) (row_done g w (Reg Usbcmd x))) (option_map (with_left rest_of) (option_map (with_world (before (Reg Usbcmd x))) (row_done d (of_model w) (Reg Usbcmd x))))
  unfolding is_bad_register driver.register_row
  command_made x kept none came =
      let no_reset = phases.no_reset g k w run p.keeps Usbcmd x (fine Usbcmd x kept).0 none in
      driven (Reg Usbcmd x) still (rows_aside.plain_aside l still g d lists p.headed k p.keeps w run lingers Usbcmd x (λ e. cc) no_reset (fine Usbcmd x kept).1)
      (λ v at. record {
        came = came v at;
        idle = idle_behind (Reg Usbcmd x) v (λ s t e. cc) at;
        lingers = λ n is_still.
            let y = lingers n is_still in
            let asked = phases.told g k w run y.halted in
            let stays : is_run x ≡ false = false_from_ne_true (is_run x) (λ runs. false≢true (sym (fine Usbcmd x kept).0 ∙ rows_aside.resume_refused g k x (p.keeps.run.started asked) asked y.unnamed runs)) in
            record {
              gone = y.gone;
              command = y.command;
              halted = ap (λ u. u.halted) (sym (same_Some _ v (sym (rows_aside.plain_row l still g d lists p.headed k p.keeps w run lingers g w Usbcmd x no_reset) ∙ at))) ∙ rows_aside.halts_on g w x stays y.halted;
              unnamed = ap (λ f. is_some (f Crcr)) (behind Usbcmd x kept none) ∙ ap (λ o. is_some o) (crcr_left k.register Usbcmd x (λ e. cc)) ∙ y.unnamed;
              ended = y.ended;
            };
      })

  -- CRCR: nothing lingers any more
  pointer_made : (x : ℕ) (kept : IsKept g k (Reg Crcr x)) → (at_v : (v : World) → row_done g w (Reg Crcr x) ≡ Some v → CameTo h is (Reg Crcr x ∷ past) (live_with g rest_of (counted g v))) →
      AreAlike h is (option_map (λ v. live_with g rest_of (counted g v)) (row_done g w (Reg Crcr x))) (option_map (with_left rest_of) (option_map (with_world (before (Reg Crcr x))) (row_done d (of_model w) (Reg Crcr x))))
  pointer_made x kept came =
      let there = crcr_there g k x (fine Crcr x kept).0 in
      let off = not_in_run w.started w.halted k.started (is_done k.halt) (phases.started_is g k w run) (phases.halted_is g k w run) there.0 in
      let same = rows_aside.crcr_aside l still g d lists p.headed k p.keeps w run lingers x there.1.0 there.1.1 off in
      let row = rows_aside.plain_row l still g d lists p.headed k p.keeps w run lingers in
      driven (Reg Crcr x) (λ n. false)
      (ap (option_map (λ v. lingering (λ n. false) (aside l v))) (row g w Crcr x (no_reset_by_crcr w x)) ∙ ap (λ (v : World). Some v) same ∙ sym (row d (of_model w) Crcr x (no_reset_by_crcr (of_model w) x)))
      (λ v at. record { came = came v at; idle = idle_behind (Reg Crcr x) v (λ s t e. cc) at; lingers = λ n is_still. absurd (false≢true is_still) })

  -- ---- a descriptor is withdrawn

  withdraws : (r q : ℕ) → IsKept g k (NopRow r q) → l.gone r ≡ false
  unfolding is_bad_withdraw
  withdraws r q kept =
      let good = (kept_withdrawing g k r q kept).1 in
      let s = stopped_with g r q k (not-false (has_stopped g k r) (or_parts (not (has_stopped g k r)) _ good).0) in
      let t = p.keeps.states.transfer s.slot s.index r s.has in
      (lists.found r t.ring t.found).1

  withdraw_so : (r q : ℕ) → l.gone r ≡ false → without_descriptor (of_model w) r q ≡ of_model (without_descriptor w r q)
  unfolding without_descriptor
  withdraw_so r q off =
      let queue = laid_here l.gone l.queue w.queue r off in
      let lengths = laid_here l.gone l.lengths w.lengths r off in
      λ j. record (of_model w) {
        queue = ((λ i. put (laid l.gone l.queue w.queue) r (no_ops (queue i) q (length_from (lengths i) 0 q))) ∙ sym (laid_put l.gone l.queue w.queue r (no_ops (w.queue r) q (length_from (w.lengths r) 0 q)) off)) j;
        lengths = ((λ i. put (laid l.gone l.lengths w.lengths) r (split_at (lengths i) 0 q)) ∙ sym (laid_put l.gone l.lengths w.lengths r (split_at (w.lengths r) 0 q) off)) j;
      }

  -- ---- a ring comes

  coming_active : (id r : ℕ) → put (λ n. w.is_active n || still n) id false r ≡ (put w.is_active id false r || put still id false r)
  coming_active id r =
      elim (cases_eq r id) [
        | inl here ↦
            ap (put (λ n. w.is_active n || still n) id false) here ∙ put_at (λ n. w.is_active n || still n) id false
            ∙ sym ((λ j. (ap (put w.is_active id false) here ∙ put_at w.is_active id false) j || (ap (put still id false) here ∙ put_at still id false) j))
        | inr other ↦ put_off (λ n. w.is_active n || still n) id false r other ∙ (λ j. sym (put_off w.is_active id false r other) j || sym (put_off still id false r other) j)
      ]

  came_so : (id : ℕ) → resting (of_model w) id ≡ lingering (put still id false) (aside (come_again l id) (resting w id))
  unfolding resting emptied
  came_so id = λ j. record (came_aside l id w j) { is_active = fun_ext (coming_active id) j }

  other_of : (id r : ℕ) → put still id false r ≡ true → r ≢ id
  other_of id r is_still same = false≢true (sym (ap (put still id false) same ∙ put_at still id false) ∙ is_still)

  resting_idle : (id r : ℕ) → l.gone r ≡ true → put w.is_active id false r ≡ false
  resting_idle id r went = elim (cases_eq r id) [ inl here ↦ ap (put w.is_active id false) here ∙ put_at w.is_active id false | inr other ↦ put_off w.is_active id false r other ∙ rest r went ]

  -- ---- a ring goes

  going_active : (id r : ℕ) → l.gone id ≡ false → (w.is_active r || still r) ≡ (put w.is_active id false r || put still id (w.is_active id) r)
  going_active id r live =
      elim (cases_eq r id) [
        | inl here ↦
            let off : still id ≡ false = false_from_ne_true (still id) (λ is_still. false≢true (sym live ∙ (lingers id is_still).gone)) in
            (λ j. w.is_active (here j) || still (here j)) ∙ (λ j. w.is_active id || off j) ∙ or_none (w.is_active id)
            ∙ sym ((λ j. (ap (put w.is_active id false) here ∙ put_at w.is_active id false) j || (ap (put still id (w.is_active id)) here ∙ put_at still id (w.is_active id)) j))
        | inr other ↦ λ j. sym (put_off w.is_active id false r other) j || sym (put_off still id (w.is_active id) r other) j
      ]

  went_so : (id : ℕ) → l.gone id ≡ false → of_model w ≡ lingering (put still id (w.is_active id)) (aside (left_behind l id w) (resting w id))
  unfolding resting emptied
  went_so id live = λ j. record (went_aside l id w live j) { is_active = fun_ext (λ r. going_active id r live) j }

  command_declared : (id : ℕ) (q : Ring) → ring_with g id ≡ Some q → is_command_kind q.shape.kind ≡ true → driver.is_command_ring d id ≡ true
  unfolding driver.is_command_ring
  command_declared id q at it =
      let there = found_in (λ x. x.id == id) d.rings q (lists.found id q at).0 in
      any_of (λ x. is_command_kind x.shape.kind && x.id == id) d.rings q there.0 (and_from (is_command_kind q.shape.kind) (q.id == id) it there.1)

-- ---- a row that was kept

module _ (h : Header) (is : MayBegin h) (past : List Row) (w : World) (l : Left) (still : ℕ → Bool) (d : Header) (lists : Lists l (header_now h past) d) (rest : IsIdle l w)
    (lingers : (r : ℕ) → still r ≡ true → Lingers l d (known_now h past) w r) (rest_of : List Row) (p : Keeps h is past) (run : Runs (header_now h past) (known_now h past) w) where
  abbrev hg : Header
  hg = header_now h past

  abbrev hk : Known
  hk = known_now h past

  abbrev world_of : World → World
  world_of v = lingering still (aside l v)

  abbrev scene_of : List Row → Scene
  scene_of rows = whole l still d (live_with hg rows w)

  command_again : (ring : Ring) → (absent : ring_with hg ring.id ≡ None) → (no_command : is_command ring ≡ true → command_ring hg ≡ None) → (no_event : is_event ring ≡ true → event_ring hg ≡ None) →
      (r : ℕ) → r ≢ ring.id → driver.is_command_ring d r ≡ true → driver.is_command_ring (listed d ring) r ≡ true
  unfolding driver.is_command_ring
  command_again ring absent no_command no_event r other it =
      let some = some_of (λ q. is_command_kind q.shape.kind && q.id == r) d.rings it in
      let named = eqb-true some.0.id r (and_parts (is_command_kind some.0.shape.kind) (some.0.id == r) some.2).1 in
      still_listed l hg d lists ring absent no_command no_event (λ q. is_command_kind q.shape.kind && q.id == r) some.0 some.1 (λ same. other (sym named ∙ same)) some.2

  coming_made : (ring : Ring) → IsRow (RingRow ring) → IsKept hg hk (RingRow ring) → CameTo h is past (live_with hg (RingRow ring ∷ rest_of) w) →
      AreAlike h is (live_next (live_with hg (RingRow ring ∷ rest_of) w) (RingRow ring ∷ rest_of)) (row_next (scene_of (RingRow ring ∷ rest_of)) (RingRow ring ∷ rest_of))
  unfolding counted resting emptied
  coming_made ring fits kept c =
      let good = (kept_coming hg hk ring kept).1 in
      let absent = kinds.absent hg p.headed ring fits hk p.keeps good in
      let may = may_come_there hg ring (kinds.coming_header hg p.headed ring fits hk p.keeps good) in
      let y = scene_of (RingRow ring ∷ rest_of) in
      let no_command = kinds.no_command hg p.headed ring fits hk p.keeps good in
      let no_event = kinds.no_event hg p.headed ring fits hk p.keeps good in
      record {
        past = RingRow ring ∷ past;
        came = row_came h is past (RingRow ring) rest_of w (resting w ring.id) c refl;
        left = come_again l ring.id;
        declared = listed d ring;
        still = put still ring.id false;
        same = ap (λ z. with_left rest_of z) (cond-true (may_come hg ring) (with_coming y ring) y may)
            ∙ (λ j. record {
              header = listed d ring;
              live = with_ring hg ring;
              rows = rest_of;
              world = counted (listed d ring) (came_so h is past w l still d lists rest lingers rest_of p run ring.id j);
            });
        lists = comes_lists l hg d lists ring absent no_command no_event;
        idle = λ r went.
            let other : r ≢ ring.id = λ same. false≢true (sym (ap (put l.gone ring.id false) same ∙ put_at l.gone ring.id false) ∙ went) in
            resting_idle h is past w l still d lists rest lingers rest_of p run ring.id r (sym (put_off l.gone ring.id false r other) ∙ went);
        lingers = λ r is_still.
            let other = other_of h is past w l still d lists rest lingers rest_of p run ring.id r is_still in
            let x = lingers r (sym (put_off still ring.id false r other) ∙ is_still) in
            record {
              gone = put_off l.gone ring.id false r other ∙ x.gone;
              command = command_again ring absent no_command no_event r other x.command;
              halted = x.halted;
              unnamed = coming_unnamed hk ring.id x.unnamed;
              ended = x.ended;
            };
      }

  going_made : (id : ℕ) → IsKept hg hk (FreeRow id) → CameTo h is past (live_with hg (FreeRow id ∷ rest_of) w) →
      AreAlike h is (live_next (live_with hg (FreeRow id ∷ rest_of) w) (FreeRow id ∷ rest_of)) (row_next (scene_of (FreeRow id ∷ rest_of)) (FreeRow id ∷ rest_of))
  unfolding counted resting emptied
  going_made id kept c =
      let good = (kept_going hg hk id kept).1 in
      let ring = kinds.going_ring hg p.headed id hk p.keeps good in
      let right = facts.takes_right hg p.headed hk p.keeps w run id in
      let live = was_live l hg d lists p.headed id ring.0 ring.1 w right in
      record {
        past = FreeRow id ∷ past;
        came = row_came h is past (FreeRow id) rest_of w (resting w id) c refl;
        left = left_behind l id w;
        declared = d;
        still = put still id (w.is_active id);
        same = λ j. record { header = d; live = without_ring hg id; rows = rest_of; world = counted d (went_so h is past w l still d lists rest lingers rest_of p run id live j) };
        lists = goes_lists l hg d lists p.headed id ring.0 ring.1 w right;
        idle = λ r went. elim (cases_eq r id) [
          | inl here ↦ ap (put w.is_active id false) here ∙ put_at w.is_active id false
          | inr other ↦ resting_idle h is past w l still d lists rest lingers rest_of p run id r (sym (put_off l.gone id true r other) ∙ went)
        ];
        lingers = λ r is_still. elim (cases_eq r id) [
          | inl here ↦
              let on : w.is_active id ≡ true = sym (ap (put still id (w.is_active id)) here ∙ put_at still id (w.is_active id)) ∙ is_still in
              let it = kinds.going_active hg p.headed id hk p.keeps good w run on in
              record {
                gone = ap (put l.gone id true) here ∙ put_at l.gone id true;
                command = ap (driver.is_command_ring d) here ∙ command_declared h is past w l still d lists rest lingers rest_of p run id ring.0 ring.1 it.1;
                halted = it.2;
                unnamed = gone_command hg hk id it.0;
                ended = ap (λ n. is_inside_descriptor (put l.events id (w.events id) n)) here ∙ ap is_inside_descriptor (put_at l.events id (w.events id)) ∙ kinds.going_whole hg p.headed id hk p.keeps good w run on;
              }
          | inr other ↦
              let x = lingers r (sym (put_off still id (w.is_active id) r other) ∙ is_still) in
              record { gone = put_off l.gone id true r other ∙ x.gone; command = x.command; halted = x.halted; unnamed = gone_unnamed hg hk id x.unnamed; ended = ap is_inside_descriptor (put_off l.events id (w.events id) r other) ∙ x.ended }
        ];
      }

  withdrawn_made : (r q : ℕ) → IsKept hg hk (NopRow r q) → CameTo h is past (live_with hg (NopRow r q ∷ rest_of) w) →
      AreAlike h is (live_next (live_with hg (NopRow r q ∷ rest_of) w) (NopRow r q ∷ rest_of)) (row_next (scene_of (NopRow r q ∷ rest_of)) (NopRow r q ∷ rest_of))
  unfolding counted without_descriptor on_ring
  withdrawn_made r q kept c =
      let off = withdraws h is past w l still d lists rest lingers rest_of p run r q kept in
      record {
        past = NopRow r q ∷ past;
        came = row_came h is past (NopRow r q) rest_of w (without_descriptor w r q) c refl;
        left = l;
        declared = d;
        still = still;
        same = λ j. record { header = d; live = hg; rows = rest_of; world = counted d (withdraw_so h is past w l still d lists rest lingers rest_of p run r q off j) };
        lists = lists;
        idle = rest;
        lingers = λ n is_still. let x = lingers n is_still in record { gone = x.gone; command = x.command; halted = x.halted; unnamed = x.unnamed; ended = x.ended };
      }

  leaving : (row : Row) (v : World) → leaves row ≡ true → ((s t : ℕ) → row ≡ Bell s t → ⊥) → row_done hg w row ≡ Some v → CameTo h is (row ∷ past) (live_with hg rest_of (counted hg v)) → Goes h is (row ∷ past) l still d hg lists rest_of v
  leaving row v of_these no_bell at came = record {
    came = came;
    idle = idle_behind h is past w l still d lists rest lingers rest_of p run row v (λ s t e. absurd (no_bell s t e)) at;
    lingers = left_lingers h is past w l still d lists rest lingers rest_of p run row v of_these at;
  }

  register_made : (r : Register) (x : ℕ) (kept : IsKept hg hk (Reg r x)) → CameTo h is past (live_with hg (Reg r x ∷ rest_of) w) →
      AreAlike h is (option_map (λ v. live_with hg rest_of (counted hg v)) (row_done hg w (Reg r x)))
      (option_map (with_left rest_of) (option_map (with_world (scene_of (Reg r x ∷ rest_of))) (row_done d (world_of w) (Reg r x))))
  register_made Crcr x kept c = pointer_made h is past w l still d lists rest lingers rest_of p run x kept (λ v at. row_came h is past (Reg Crcr x) rest_of w v c at)
  register_made Usbcmd x kept c =
      elim (cases_Bool (resets hk Usbcmd x)) [
        | inl yes_so ↦ reset_made h is past w l still d lists rest lingers rest_of p run Usbcmd x kept yes_so (λ v at. row_came h is past (Reg Usbcmd x) rest_of w v c at)
        | inr none ↦ command_made h is past w l still d lists rest lingers rest_of p run x kept none (λ v at. row_came h is past (Reg Usbcmd x) rest_of w v c at)
      ]
  register_made r x kept c =
      elim (cases_Bool (resets hk r x)) [
        | inl yes_so ↦ reset_made h is past w l still d lists rest lingers rest_of p run r x kept yes_so (λ v at. row_came h is past (Reg r x) rest_of w v c at)
        | inr none ↦ plain_made h is past w l still d lists rest lingers rest_of p run r x kept (λ e. cc) (λ e. cc) none (λ v at. row_came h is past (Reg r x) rest_of w v c at)
      ]

  pub made_row : (row : Row) → IsRow row → IsKept hg hk row → CameTo h is past (live_with hg (row ∷ rest_of) w) →
      AreAlike h is (live_next (live_with hg (row ∷ rest_of) w) (row ∷ rest_of)) (row_next (scene_of (row ∷ rest_of)) (row ∷ rest_of))
  made_row (RingRow ring) fits kept c = coming_made ring fits kept c
  made_row (FreeRow id) fits kept c = going_made id kept c
  made_row (NopRow r q) fits kept c = withdrawn_made r q kept c
  made_row (Sub r blocks) fits kept c =
      driven h is past w l still d lists rest lingers rest_of p run (Sub r blocks) still
      (rows_aside.sub_aside l still hg d lists p.headed hk p.keeps w run lingers r blocks (declares h is past w l still d lists rest lingers rest_of p run r blocks kept))
      (λ v at. leaving (Sub r blocks) v refl (λ s t e. cc) at (row_came h is past (Sub r blocks) rest_of w v c at))
  made_row (Write a x) fits kept c =
      driven h is past w l still d lists rest lingers rest_of p run (Write a x) still (rows_aside.write_aside l still hg d lists p.headed hk p.keeps w run lingers a x)
      (λ v at. leaving (Write a x) v refl (λ s t e. cc) at (row_came h is past (Write a x) rest_of w v c at))
  made_row (Read e) fits kept c =
      driven h is past w l still d lists rest lingers rest_of p run (Read e) still (rows_aside.read_aside l still hg d lists p.headed hk p.keeps w run lingers e)
      (λ v at. leaving (Read e) v refl (λ s t e. cc) at (row_came h is past (Read e) rest_of w v c at))
  made_row (RegRead r x) fits kept c =
      driven h is past w l still d lists rest lingers rest_of p run (RegRead r x) still (rows_aside.status_aside l still hg d lists p.headed hk p.keeps w run lingers r x)
      (λ v at. leaving (RegRead r x) v refl (λ s t e. cc) at (row_came h is past (RegRead r x) rest_of w v c at))
  made_row (Reg r x) fits kept c = register_made r x kept c
  made_row (Bell s t) fits kept c =
      let on = runs_at_bell h is past w l still d lists rest lingers rest_of p run s t kept in
      driven h is past w l still d lists rest lingers rest_of p run (Bell s t) still (rows_aside.bell_aside l still hg d lists p.headed hk p.keeps w run lingers s t on.0 on.1)
      (λ v at. record {
        came = row_came h is past (Bell s t) rest_of w v c at;
        idle = idle_behind h is past w l still d lists rest lingers rest_of p run (Bell s t) v (λ q u e. on.1) at;
        lingers = λ r is_still. absurd (none_lingering h is past w l still d lists rest lingers rest_of p run on.1 r is_still);
      })
