-- Whether the controller runs, and whether CRCR names the command ring, is kept by each row
use Rattle.safety.proofs.MiddleLaws.{has_runs, told, ◌≡◌, ◌&&◌, ◌||◌, ◌∙◌, if◌then◌else◌, ℕ, Bool, not, true, false, Option, refl, sym, ap, inl, inr, arith, false≢true, cases_Bool, Block, Header, Register, Usbcmd, Crcr, Sub, Write, Reg, Bell, Read, RegRead, IsHeader, command_id, kind, run_bit, reset_bit, Known, RunKeeps, DriverKeeps, KeptByRows, learned, is_used, is_named, is_asked, is_done, HaltState, is_some, is_value, is_in_run, register_written, valued, run_or_stop, runs_once, runs_again, event_read, is_bad_register, is_bad_command_register, is_early_resume, is_early_start, is_bad_crcr, or_parts, register_facts, bell_facts, status_leaves, declaration_leaves, write_leaves, bell_leaves, event_same, endpoints_of, IsDriverRing, NotHalting, cond_both, is_unwritten, and_from, false_from_ne_true, names_ring, named_in_run, not_done, some_is, transfer_command}
use Rattle.safety.proofs.RingsKeep.KeptCommands.{completed_view}

module _ (h : Header) where
  -- the phase is as it was, and so are what CRCR was written with and whether the command ring was started
  record SameRun (k l : Known) : Type 0 where
    started : l.started ≡ k.started
    halt : l.halt ≡ k.halt
    register : is_named l ≡ is_named k
    used : is_used h l ≡ true → is_used h k ≡ true

  unused_still : (k l : Known) → (is_used h l ≡ true → is_used h k ≡ true) → is_used h k ≡ false → is_used h l ≡ false
  unused_still k l more unused = false_from_ne_true (is_used h l) (λ used. false≢true (sym unused ∙ more used))

  run_same : (k l : Known) → SameRun k l → RunKeeps h k → RunKeeps h l
  run_same k l s run = record {
    again = λ asked. run.again (ap is_asked (sym s.halt) ∙ asked);
    started = λ asked. s.started ∙ run.started (ap is_asked (sym s.halt) ∙ asked);
    running = λ started on. s.register ∙ run.running (sym s.started ∙ started) (ap is_done (sym s.halt) ∙ on);
    used = λ started used. s.register ∙ run.used (sym s.started ∙ started) (s.used used);
    named = λ named. run.named (sym s.register ∙ named);
    absent = λ used. run.absent (s.used used);
    unused = λ off named. unused_still k l s.used (run.unused (sym s.started ∙ off) (sym s.register ∙ named));
  }

  held_used : (k l : Known) → (l.ring (command_id h)).held ≡ (k.ring (command_id h)).held → is_used h l ≡ true → is_used h k ≡ true
  held_used k l same used = ap (λ o. not (is_value 0 o)) (sym same) ∙ used

  -- CRCR is as it was
  crcr_same : (k l : Known) → l.register ≡ k.register → is_named l ≡ is_named k
  crcr_same k l same = ap (λ (f : Register → Option ℕ). is_some (f Crcr)) same

  still_not : (a : HaltState) (v : ℕ) → is_done (told a v) ≡ false → is_done a ≡ false
  still_not o v goes = grind arith

  still_runs : (k l : Known) → (is_done k.halt ≡ true → is_done l.halt ≡ true) → is_done l.halt ≡ false → is_done k.halt ≡ false
  still_runs k l more running = elim (cases_Bool (is_done k.halt)) [ inl halted ↦ absurd (false≢true (sym running ∙ more halted)) | inr not_yet ↦ not_yet ]

  -- ---- a register

  -- in another phase
  run_in : (k : Known) → RunKeeps h k → (s t : Bool) (a : HaltState) → (is_asked a ≡ true → has_runs h.version ≡ true) → (is_asked a ≡ true → s ≡ true) → (s ≡ true → is_done a ≡ false → is_named k ≡ true) →
      (s ≡ true → is_used h k ≡ true → is_named k ≡ true) → (s ≡ false → is_named k ≡ true → is_used h k ≡ false) → RunKeeps h (let l : Known = record k { started = s; stopped = t; halt = a } in l)
  run_in k run s t a again started running used unused =
      record { again = again; started = started; running = running; used = used; named = run.named; absent = run.absent; unused = unused }

  -- where R/S may be set CRCR names the command ring
  start_named : (k : Known) (x : ℕ) → k.started ≡ false → is_bad_command_register h k x ≡ false → (run_bit x && not (reset_bit x)) ≡ true → is_named k ≡ true
  unfolding is_bad_command_register is_early_start is_unwritten
  start_named k x off good runs = grind (arith, some_is)

  resume_named : (k : Known) (x : ℕ) → k.started ≡ true → is_asked k.halt ≡ true → is_bad_command_register h k x ≡ false → (run_bit x && not (reset_bit x)) ≡ true → is_named k ≡ true
  unfolding is_bad_command_register is_early_resume is_unwritten
  resume_named k x on asked good runs = grind (arith, some_is)

  runs_named : (k : Known) → RunKeeps h k → (x : ℕ) → is_bad_command_register h k x ≡ false → (run_bit x && not (reset_bit x)) ≡ true → is_named k ≡ true
  runs_named k run x good runs =
      elim (cases_Bool k.started) [
        | inr off ↦ start_named k x off good runs
        | inl on ↦ elim (cases_Bool (is_asked k.halt)) [
          | inl asked ↦ resume_named k x on asked good runs
          | inr goes ↦ run.running on (not_done k.halt goes)
        ]
      ]

  once_run : (k : Known) → RunKeeps h k → (x : ℕ) → is_bad_command_register h k x ≡ false → (s a b : Bool) → k.started ≡ s → (run_bit x && not (reset_bit x)) ≡ a →
      RunKeeps h (if not s then (if a then record k { started = true } else k) else (if b then record k { stopped = true } else k))
  once_run k run x good true a true at runs = run_in k run k.started true k.halt run.again run.started run.running run.used run.unused
  once_run k run x good true a false at runs = run
  once_run k run x good false true b at runs =
      let named = runs_named k run x good runs in run_in k run true k.stopped k.halt run.again (λ _. refl) (λ _ _. named) (λ _ _. named) (λ off. absurd (false≢true (sym off)))
  once_run k run x good false false b at runs = run

  again_run : has_runs h.version ≡ true → (k : Known) → RunKeeps h k → (x : ℕ) → is_bad_command_register h k x ≡ false → (r a s : Bool) → reset_bit x ≡ r → run_bit x ≡ a → k.started ≡ s →
      RunKeeps h (if r then k else if a then record k { started = true; halt = NotHalting } else if s then record k { halt = told k.halt x } else k)
  again_run runs_more k run x good true a s resets runs at = run
  again_run runs_more k run x good false true s resets runs at =
      let named = runs_named k run x good (and_from (run_bit x) (not (reset_bit x)) runs (ap not resets)) in
      run_in k run true k.stopped NotHalting (λ _. runs_more) (λ asked. absurd (false≢true asked)) (λ _ _. named) (λ _ _. named) (λ off. absurd (false≢true (sym off)))
  again_run runs_more k run x good false false true resets runs at = run_in k run k.started k.stopped (told k.halt x) (λ _. runs_more) (λ _. at) (λ on goes. run.running on (still_not k.halt x goes)) run.used run.unused
  again_run runs_more k run x good false false false resets runs at = run

  usbcmd_run : (k : Known) → RunKeeps h k → (x : ℕ) → is_bad_command_register h k x ≡ false → RunKeeps h (run_or_stop h k x)
  unfolding run_or_stop runs_once runs_again
  usbcmd_run k run x good =
      cond_both (has_runs h.version) _ _ (RunKeeps h) (λ more. again_run more k run x good (reset_bit x) (run_bit x) k.started refl refl refl)
      (λ _. once_run k run x good k.started (run_bit x && not (reset_bit x)) (not (run_bit x) || reset_bit x) refl refl)

  -- the value itself says nothing
  value_run : (k : Known) (x : ℕ) → RunKeeps h (run_or_stop h k x) → RunKeeps h (run_or_stop h (valued k Usbcmd x) x)
  unfolding run_or_stop runs_once runs_again valued
  value_run k x run =
      run_same (run_or_stop h k x) (run_or_stop h (valued k Usbcmd x) x)
      (record { started = (grind arith); halt = (grind arith); register = (grind arith); used = (grind arith) }) run

  crcr_run : (k : Known) → RunKeeps h k → IsDriverRing h (command_id h) → is_used h k ≡ false → (x : ℕ) → RunKeeps h (register_written h k Crcr x)
  unfolding register_written valued
  crcr_run k run ring unused x = record {
    again = run.again;
    started = run.started;
    running = λ started on. refl;
    used = λ started used. refl;
    named = λ named. ring;
    absent = run.absent;
    unused = λ off named. unused;
  }

  register_run : IsHeader h → (k : Known) → RunKeeps h k → (r : Register) (x : ℕ) → is_bad_register h k r x ≡ false → RunKeeps h (register_written h k r x)
  unfolding register_written is_bad_register valued
  register_run is k run Usbcmd x good = value_run k x (usbcmd_run k run x good)
  register_run is k run Crcr x good = let names = names_ring h is k x (or_parts (is_in_run k) (is_bad_crcr h k x) good).1 in crcr_run k run names.is_ring names.unused x
  register_run is k run r x good = run_same k (register_written h k r x) (record { started = refl; halt = refl; register = refl; used = λ used. used }) run

  -- ---- an event: it holds the command ring nowhere else

  pub read_held : IsHeader h → (k : Known) → DriverKeeps h k → (b : Block) → ((learned h k (Read b)).ring (command_id h)).held ≡ (k.ring (command_id h)).held
  unfolding learned event_read
  read_held is k d b = let endpoints = endpoints_of h k d.states in (grind (arith, transfer_command, completed_view))

  pub kept_run : KeptByRows h (RunKeeps h)
  unfolding learned
  kept_run is k (Sub r blocks) d clean on =
      let l : Known = learned h k (Sub r blocks) in
      let same = declaration_leaves h k r blocks in
      run_same k l
      (record { started = same.registers.started; halt = same.registers.halt; register = crcr_same k l same.registers.register; used = held_used k l (same.pointers (command_id h)).held }) d.run
  kept_run is k (Write a w) d clean on =
      let l : Known = learned h k (Write a w) in
      let same = write_leaves h k a w in
      run_same k l
      (record { started = same.registers.started; halt = same.registers.halt; register = crcr_same k l same.registers.register; used = held_used k l (same.pointers (command_id h)).held }) d.run
  kept_run is k (Reg r x) d clean on = register_run is k d.run r x (register_facts h k r x clean).good
  kept_run is k (Bell s t) d clean on =
      let l : Known = learned h k (Bell s t) in
      let same = (bell_leaves h k s t).registers in
      let facts = bell_facts h k s t clean in
      let named : is_named k ≡ true = named_in_run h k d facts.started facts.on in
      record {
        again = λ asked. absurd (false≢true (sym facts.on ∙ ap is_asked (sym same.halt) ∙ asked));
        started = λ asked. same.started ∙ facts.started;
        running = λ started running. crcr_same k l same.register ∙ named;
        used = λ started used. crcr_same k l same.register ∙ named;
        named = λ _. d.run.named named;
        absent = λ _. d.run.named named;
        unused = λ off. absurd (false≢true (sym off ∙ same.started ∙ facts.started));
      }
  kept_run is k (Read b) d clean on =
      let l : Known = learned h k (Read b) in
      let same = event_same h k (kind b) b in
      run_same k l (record { started = same.started; halt = same.halt; register = crcr_same k l same.register; used = held_used k l (read_held is k d b) }) d.run
  kept_run is k (RegRead r x) d clean on =
      let l : Known = learned h k (RegRead r x) in
      let same = status_leaves h k r x in
      let named = crcr_same k l same.register in
      let used = held_used k l (ap (λ f. (f (command_id h)).held) same.ring) in
      record {
        again = λ asked. d.run.again (sym same.halting ∙ asked);
        started = λ asked. same.started ∙ d.run.started (sym same.halting ∙ asked);
        running = λ started running. named ∙ d.run.running (sym same.started ∙ started) (still_runs k l same.halted running);
        used = λ started now. named ∙ d.run.used (sym same.started ∙ started) (used now);
        named = λ now. d.run.named (sym named ∙ now);
        absent = λ now. d.run.absent (used now);
        unused = λ off now. unused_still k l used (d.run.unused (sym same.started ∙ off) (sym named ∙ now));
      }
  kept_run is k row d clean on = d.run
