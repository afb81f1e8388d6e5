-- The row that first shows that the controller has halted: the lazy run halts it directly before
use Rattle.safety.proofs.UpperLaws.{[], ◌≡◌, ◌∷◌, ◌∙◌, ◌&&◌, if◌then◌else◌, ℕ, not, true, false, List, Some, None, refl, sym, ap, subst, inl, cond-true, cond-false, and_parts, and_from, Header, Row, RegRead, Register, Halt, IsHeader, IsRow, World, counted, Known, learned, MayCome, Agrees, Runs, is_asked, is_done, is_first_halt, register_read, status_read, status_leaves, shows, halts, while_running, steps_made, row_done, steps_before, pointers_after, Leads, Past, Follows, Carries, next_reached, step_reached, agrees_now, more_law, Usbsts, false≢true, NextRow, reverse, ◌++◌, is_some, not-true, halted_bit, Crcr, seen_done}
use Rattle.safety.proofs.DriverHistories.{kept_driver}
use Rattle.safety.proofs.Beneath.RowRuns.{row_runs}
use Rattle.safety.proofs.Beneath.Squares.{square_law}
use Rattle.safety.proofs.StepRuns.{step_goes}
use Rattle.safety.proofs.Beneath.StillRings.{still_rings}
use Rattle.safety.proofs.LazyRuns.RingRows.{Learns, StaysPut, follows_too}

-- R/S was cleared, and the register shows now that the controller has halted
record SeesHalt (k : Known) (r : Register) (x : ℕ) : Type 0 where
  status : r ≡ Usbsts
  bit : halted_bit x ≡ true
  asked : is_asked k.halt ≡ true
  not_yet : is_done k.halt ≡ false

seen_so : (h : Header) (k : Known) (r : Register) (x : ℕ) → is_first_halt h k r x ≡ true → SeesHalt k r x
unfolding is_first_halt
seen_so h k Usbsts x seen =
    let parts = and_parts (halted_bit x && is_asked k.halt) (not (is_done k.halt)) seen in
    let both = and_parts (halted_bit x) (is_asked k.halt) parts.0 in
    record { status = refl; bit = both.0; asked = both.1; not_yet = not-true (is_done k.halt) parts.1 }
seen_so h k r x seen = absurd (false≢true seen)

module _ (h : Header) (is : IsHeader h) (past : Past h) (later : List Row) (w : World) (r : Register) (x : ℕ) (seen : is_first_halt h past.known r x ≡ true) (is_row : IsRow (RegRead r x))
    (may : MayCome h past.known (RegRead r x)) (f : Follows h past.known past.pointers w) where
  -- the controller halts
  abbrev halted : World
  halted = record w { halted = true }

  sees : SeesHalt past.known r x
  sees = seen_so h past.known r x seen

  agrees : Agrees h past.known [] w
  agrees = agrees_now h past.known w f.runs f.all_read

  halts_so : steps_made h h w Halt ≡ Some (let v : World = record w { halted = true } in v)
  unfolding steps_made while_running halts
  halts_so =
      cond-false w.stopped None _ (agrees.stands.stopped ∙ f.runs.on)
      ∙ cond-true (w.halting && not w.halted) (Some halted) None (and_from w.halting (not w.halted) (agrees.stands.halting ∙ sees.asked) (ap not (f.halted ∙ sees.not_yet)))

  halted_runs : Runs h past.known (counted h halted)
  halted_runs = step_goes h is past.known past.keeps w halted Halt tt halts_so (λ e. cc) f.runs

  -- and shows it
  shown : row_done h (counted h halted) (RegRead r x) ≡ Some (counted h halted)
  unfolding row_done shows counted
  shown = ap (λ q. if shows (counted h halted) q x then Some (counted h halted) else None) sees.status ∙ ap (λ b. if (if b then true else w.started && false) then Some (counted h halted) else None) sees.bit

  known_so : is_done (learned h past.known (RegRead r x)).halt ≡ true
  unfolding learned register_read status_read
  known_so =
      ap (λ q. is_done (register_read past.known q x).halt) sees.status
      ∙ ap (λ (m : Known). is_done m.halt) (cond-true (is_asked past.known.halt && halted_bit x) _ past.known (and_from (is_asked past.known.halt) (halted_bit x) sees.asked sees.bit))
      ∙ seen_done past.known.halt x sees.asked

  on : (learned h past.known (RegRead r x)).stopped ≡ false
  on = (status_leaves h past.known r x).stopped ∙ f.runs.on

  runs : Runs h (learned h past.known (RegRead r x)) (counted h (counted h halted))
  runs =
      row_runs h is (kept_driver h) (still_rings h) (square_law h) (more_law h) past.known (RegRead r x) (counted h halted) (counted h halted) is_row tt past.keeps halted_runs may on refl shown

  learns : Learns h past.known (learned h past.known (RegRead r x))
  learns =
      let same = status_leaves h past.known r x in
      record { ring_of = same.slots.ring_of; named = ap (λ g. is_some (g Crcr)) same.register; floors = λ q. ap (λ g. (g q).floor) same.ring; held = λ q. ap (λ g. (g q).held) same.ring }

  stays : StaysPut w (counted h (counted h halted))
  unfolding counted
  stays = record { posted = refl; reads = refl; pointers = refl; cycles = refl; active = refl }

  follows : Follows h (learned h past.known (RegRead r x)) past.pointers (counted h (counted h halted))
  unfolding counted
  follows = follows_too h past.known (learned h past.known (RegRead r x)) past.pointers w (counted h (counted h halted)) learns stays refl (sym known_so) runs f

  steps_are : steps_before h past.known past.pointers (RegRead r x) later ≡ Halt ∷ []
  unfolding steps_before
  steps_are = cond-true (is_first_halt h past.known r x) (Halt ∷ []) [] seen

  pub halt_step : Leads h past past.made (RegRead r x ∷ later) w → Carries h past (RegRead r x) later
  unfolding pointers_after
  halt_step run = record {
    world = counted h (counted h halted);
    run = subst (λ l. Leads h past (NextRow ∷ reverse l ++ past.made) later (counted h (counted h halted))) (sym steps_are)
        (next_reached h past (Halt ∷ past.made) (counted h halted) (counted h halted) (RegRead r x) later refl
        (step_reached h past (RegRead r x ∷ later) past.made w halted Halt (λ e. cc) halts_so run) shown);
    goes = inl follows;
  }
