-- What a row does that doesn't reset the controller; and a register that is read
use Rattle.safety.proofs.MiddleLaws.{◌≡◌, ◌&&◌, ◌||◌, ◌∙◌, if◌then◌else◌, ℕ, Bool, not, true, List, Option, Some, sym, subst, arith, cases_Bool, cond-true, cond-false, inl, inr, and_parts, cond_some, Usbsts, DriverKeeps, Block, Header, Row, Reg, RegRead, Register, World, counted, Known, learned, Agrees, is_asked, HaltState, register_read, status_read, seen, halted_bit, seen_asked, agrees_once_counted, phase_agrees}
use Rattle.world_state.specs.DriverRows as driver

abbrev pub plain_done : Header → World → Row → Option World
plain_done h w (Reg r x) = Some (driver.register_row h w r x)
plain_done h w row = driver.row_done h w row

-- where R/S was cleared and the register shows that the controller has halted, it has
halted_shown : (started halted asked bit : Bool) → (asked ≡ true → started ≡ true) → (asked && bit) ≡ true → (if bit then halted || not started else started && not halted) ≡ true → halted ≡ true
halted_shown started halted asked bit was seen shown = grind arith

module _ (h : Header) (k : Known) (unread : List Block) (w : World) (d : DriverKeeps h k) (g : Agrees h k unread w) where
  -- how far it is in what it does once it has halted, the driver alone knows
  seen_halted : (a : HaltState) → is_asked a ≡ true → w.halted ≡ true → is_asked k.halt ≡ true → Agrees h (let m : Known = record k { halt = a } in m) unread w
  seen_halted a is halted asked =
      subst (λ (b : Bool). Agrees h (let m : Known = record k { halt = a } in m) unread (let v : World = record w { halting = b } in v)) (is ∙ sym (g.stands.halting ∙ asked))
      (subst (λ (b : Bool). Agrees h (let m : Known = record k { halt = a } in m) unread (let v : World = record w { started = b; halting = is_asked a } in v)) (sym g.stands.started)
      (phase_agrees h k unread w g k.started a w.halted (λ _. halted) (λ _. is) (λ some. sym g.stands.started ∙ g.events.started some)))

  status_by : (x : ℕ) → driver.shows w Usbsts x ≡ true → Agrees h (status_read k x) unread w
  unfolding status_read driver.shows
  status_by x shown =
      elim (cases_Bool (is_asked k.halt && halted_bit x)) [
        | inl seen_so ↦
            subst (λ m. Agrees h m unread w) (sym (cond-true (is_asked k.halt && halted_bit x) _ k seen_so))
            (seen_halted (seen k.halt x) (seen_asked k.halt x (and_parts (is_asked k.halt) (halted_bit x) seen_so).0) (halted_shown w.started w.halted (is_asked k.halt) (halted_bit x) (λ asked. g.stands.started ∙ d.run.started asked) seen_so shown) (and_parts (is_asked k.halt) (halted_bit x) seen_so).0)
        | inr none ↦ subst (λ m. Agrees h m unread w) (sym (cond-false (is_asked k.halt && halted_bit x) _ k none)) g
      ]

  read_agrees : (r : Register) (x : ℕ) → driver.shows w r x ≡ true → Agrees h (register_read k r x) unread w
  unfolding register_read
  read_agrees Usbsts x shown = status_by x shown
  read_agrees r x shown = g

  shown : (r : Register) (x : ℕ) (v : World) → driver.row_done h w (RegRead r x) ≡ Some v → (driver.shows w r x ≡ true) × (w ≡ v)
  unfolding driver.row_done
  shown r x v at = cond_some (driver.shows w r x) w v at

  pub status_agrees : (r : Register) (x : ℕ) (v : World) → driver.row_done h w (RegRead r x) ≡ Some v → Agrees h (learned h k (RegRead r x)) unread (counted h v)
  unfolding learned
  status_agrees r x v at =
      let s = shown r x v at in
      subst (λ u. Agrees h (register_read k r x) unread (counted h u)) s.1 (agrees_once_counted h (register_read k r x) unread w (read_agrees r x s.0))
