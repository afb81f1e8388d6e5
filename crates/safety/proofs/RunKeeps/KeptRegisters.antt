-- Which registers were written, and with what, is kept by each row
use Rattle.safety.proofs.Words.{◌≡◌, ◌&&◌, ◌⊎◌, ◌∙◌, ℕ, not, true, false, Option, Some, is_some, is_none, refl, sym, ap, cond_both, cond-true, cond-false, not_from_false, false≢true, RingKind, Header, Register, Usbcmd, Erstsz, Reg, is_command_kind, is_driver_kind, with_register, same_register, run_bit, reset_bit, Known, run_or_stop, valued, register_written, learned, is_unwritten, is_early_start, is_bad_command_register, is_bad_register, arith, runs_again, runs_once, is_named}

pub command_drives : (kind : RingKind) → is_command_kind kind ≡ true → is_driver_kind kind ≡ true
command_drives o is = grind (arith, false≢true)

pub written_stays : (values : Register → Option ℕ) (r : Register) (v : ℕ) (q : Register) → is_some (values q) ≡ true → is_some (with_register values r v q) ≡ true
written_stays values r v q is = cond_both (same_register q r) (Some v) (values q) (λ o. is_some o ≡ true) (λ _. refl) (λ _. is)

pub some_is : (o : Option ℕ) → is_none o ≡ false → is_some o ≡ true
some_is o e = grind (arith, false≢true)

module _ (h : Header) where
  -- the last value of each register
  pub registered : (k : Known) (r : Register) (v : ℕ) → (learned h k (Reg r v)).register ≡ with_register k.register r v
  unfolding learned register_written valued run_or_stop runs_once runs_again
  registered k r v = grind arith

  -- a write of USBCMD may start the controller
  pub record Starts (k : Known) (r : Register) (v : ℕ) : Type 0 where
    pub before : k.started ≡ false
    pub register : r ≡ Usbcmd
    pub runs : (run_bit v && not (reset_bit v)) ≡ true

  pub register_starts : (k : Known) (r : Register) (v : ℕ) → (learned h k (Reg r v)).started ≡ true → (k.started ≡ true) ⊎ Starts k r v
  unfolding learned register_written valued run_or_stop runs_once runs_again
  register_starts k r v on = grind (arith, cond-true, not_from_false, cond-false, valued)

  -- the start isn't early
  all_written : (k : Known) (v : ℕ) → is_bad_register h k Usbcmd v ≡ false → k.started ≡ false → (run_bit v && not (reset_bit v)) ≡ true →
      (is_named k ≡ true) × (is_some (k.register Erstsz) ≡ true)
  unfolding is_bad_register is_bad_command_register is_early_start is_unwritten
  all_written k v good before runs = grind (arith, some_is)

  pub starts_written : (k : Known) (r : Register) (v : ℕ) → is_bad_register h k r v ≡ false → Starts k r v → (is_named k ≡ true) × (is_some (k.register Erstsz) ≡ true)
  starts_written k r v good s = all_written k v (ap (λ q. is_bad_register h k q v) (sym s.register) ∙ good) s.before s.runs
