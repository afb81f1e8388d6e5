-- Whether the controller runs, halts or has halted, as the rows say and as the world has it
use Rattle.safety.proofs.Words.{[], ◌≡◌, ◌∷◌, ◌∙◌, ◌&&◌, ◌||◌, ℕ, not, true, false, List, refl, sym, ap, inl, inr, and_parts, and_from, or_left, or_right, cases_Bool, cond-true, false≢true, false_from_ne_true, not_from_false, Block, kind, Header, Read, Register, Usbcmd, reset_bit, World, Known, learned, all_read, is_asked, is_done, DriverKeeps, Runs, has_runs, resets, has_gap, is_bad_command_register, is_bad_register, is_early_reset, is_early_resume, saves_badly}
use Rattle.safety.proofs.Posts.EventRead.{learned_read}
use Rattle.safety.proofs.Rows.SameDriver.{event_same}
use Rattle.world_state.specs.DriverRows as driver

module _ (h : Header) where
  pub record PhaseSame (k l : Known) : Type 0 where
    pub halt : l.halt ≡ k.halt
    pub started : l.started ≡ k.started
    pub register : l.register ≡ k.register

  -- events change nothing of it
  pub all_read_phase : (unread : List Block) (k : Known) → PhaseSame k (all_read h k unread)
  all_read_phase [] k = record { halt = refl; started = refl; register = refl }
  all_read_phase (e ∷ rest) k =
      let next = all_read_phase rest (learned h k (Read e)) in
      let one = event_same h k (kind e) e in
      record {
        halt = next.halt ∙ ap (λ m. m.halt) (learned_read h k e) ∙ one.halt;
        started = next.started ∙ ap (λ m. m.started) (learned_read h k e) ∙ one.started;
        register = next.register ∙ ap (λ m. m.register) (learned_read h k e) ∙ one.register;
      }

  module _ (k : Known) (w : World) (run : Runs h k w) where
    pub started_is : w.started ≡ k.started
    started_is = run.agrees.stands.started ∙ (all_read_phase run.unread k).started

    -- what has halted was told to
    pub told : w.halted ≡ true → is_asked k.halt ≡ true
    told halted = ap is_asked (sym (all_read_phase run.unread k).halt) ∙ run.agrees.stands.told halted

    pub halted_is : is_done k.halt ≡ true → w.halted ≡ true
    halted_is done = run.agrees.stands.halted (ap is_done (all_read_phase run.unread k).halt ∙ done)

    -- ---- a reset

    early : (x : ℕ) → k.started ≡ true → has_runs h.version ≡ true → reset_bit x ≡ true → is_done k.halt ≡ false → is_bad_command_register h k x ≡ true
    unfolding is_bad_command_register is_early_reset
    early x started runs bit not_done =
        or_right (saves_badly h k x) _
        (cond-true k.started _ _ started
        ∙ or_left (has_runs h.version && reset_bit x && (not (is_done k.halt) || has_gap h k)) (is_early_resume h k x)
        (and_from (has_runs h.version && reset_bit x) _ (and_from (has_runs h.version) (reset_bit x) runs bit) (or_left (not (is_done k.halt)) (has_gap h k) (not_from_false (is_done k.halt) not_done))))

    -- the world is reset only where the rows say so
    pub no_reset : DriverKeeps h k → (r : Register) (x : ℕ) → is_bad_register h k r x ≡ false → resets k r x ≡ false → driver.resets w r x ≡ false
    unfolding driver.resets resets is_bad_register
    no_reset d Usbcmd x good none =
        false_from_ne_true (w.started && w.halted && reset_bit x) (λ t.
        let a = and_parts (w.started && w.halted) (reset_bit x) t in
        let b = and_parts w.started w.halted a.0 in
        elim (cases_Bool (is_done k.halt)) [
          | inl done ↦ false≢true (sym none ∙ and_from (is_done k.halt) (reset_bit x) done a.1)
          | inr not_yet ↦ false≢true (sym good ∙ early x (sym started_is ∙ b.0) (d.run.again (told b.1)) a.1 not_yet)
        ])
    no_reset d r x good none = refl

    pub resets_too : (r : Register) (x : ℕ) → DriverKeeps h k → resets k r x ≡ true → driver.resets w r x ≡ true
    unfolding driver.resets resets
    resets_too Usbcmd x d done_so =
        let a = and_parts (is_done k.halt) (reset_bit x) done_so in
        let halted = halted_is a.0 in
        and_from (w.started && w.halted) (reset_bit x) (and_from w.started w.halted (started_is ∙ d.run.started (told halted)) halted) a.1
    resets_too r x d done_so = absurd (false≢true done_so)
