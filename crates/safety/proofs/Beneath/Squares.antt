-- A driver's row and an event that isn't read yet may change places, whatever kind of row it is
use Rattle.safety.proofs.UpperLaws.{command_ring, taken_still, seen, told, is_early_restore, is_early_save, saves_badly, command_abort, command_stop, halted_bit, ring_cycle_state, Crcr, Erstba, Erstsz, has_runs, spot_same, KeepsValues, IsShape, RingKeeps, declares_values, names_still, ring_shape, pointer, slot, endpoint, [], Header, Sub, Write, Reg, Bell, Read, SquareLaw, ◌≡◌, ℕ, false, inl, inr, MayCome, Block, cases_option, IsHeader, IsRow, Known, command_given, learned, lenient, DriverKeeps, IsDriverRow, is_idle, Square, ◌==◌, is_none, rules, cases_Bool, cond-true, false≢true, is_open, ◌∙◌, Some, refl, sym, subst, MovesRestored, same_Some, Command, ◌∷◌, Bool, ap, cond-false, or_from, broken_of, AfterStop, some_command, holds_of, write_tests, lenient_tests, ◌+◌, ◌≤◌, ◌<◌, ◌++◌, true, List, length, option_and_then, slice_get, arith, length-append, ltb-true, ltb-false, le-ltb, none-some, slice_get_within, RingView, Declares, changed, declared, floor_number, place_count, ceiling, has_no_room, slice_get-append, command_of, shape_of, command_id, on_ring, command_at, next_command, declaration_tests, may_be_taken, IsHeldMore, HeldMore, ◌||◌, zero, suc, not, nat_lt, unwrap_or, list_any, range_with_len, and_parts, and_from, or_parts, or_cases, or_left, or_right, position_from, erdp_address, Register, Usbcmd, Config, Erdp, event_shape, with_register, run_bit, reset_bit, run_or_stop, valued, register_written, changes, may_pass, is_bad_register, is_bad_erdp, register_tests, is_bad_command, read_alike, passed_behind, read_on, next_unfinished, command_holds, EventAlike, ReadAlike, EverySlot, states_from, held_more, read_same, flip_driver, targets_are, clean_tests, tests_fail, transfer_driver, event_facts, register_facts, SameGiven, SameDriver, both_drivers, view_after, Alike, RingAlike, held_same, named_still, erdp_says, erdp_within, reached_is_good, floors_grow, placed_targets, runs_again, runs_once, RegRead, Usbsts, is_value, is_restored, is_used, is_asked, is_done, is_in_run, HaltState, NotHalting, resets, is_early_reset, is_early_resume, is_bad_command_register, is_bad_crcr, is_no_first_block, is_unwritten, eqb-true, and_right, read_held, read_tests, is_impossible_read, is_impossible_status, register_read, status_read, Dcbaap, Option, ◌⊎◌, ◌&&◌, if◌then◌else◌}
use Rattle.safety.proofs.Beneath.WriteBeneath.{write_square}
use Rattle.safety.proofs.Beneath.BellBeneath.{command_square}
use Rattle.safety.proofs.Beneath.RungBeneath.{rung_ring, bell_square}
use Rattle.safety.proofs.Beneath.CommandBeneath.{command_event, command_after}
use Rattle.safety.proofs.AlikeEvents.HeldFurther.{SameStates, counted}
use Rattle.safety.proofs.Beneath.WriteBehind.{command_behind, RingRules, rules_behind, broken_none}
use Rattle.safety.proofs.Beneath.GivenBehind.{restored_behind}
use Rattle.safety.proofs.Beneath.CommandGood.{good_behind}
use Rattle.safety.proofs.Beneath.CommandRow.{idle_behind, profile_behind, bindings_behind}
use Rattle.safety.proofs.Beneath.CommandMoves.{moves_behind}

-- A register write beneath an event that isn't read yet: the two may change places

-- a write that stops the controller, once it runs
abbrev stops : Register → ℕ → Bool
stops Usbcmd v = not (run_bit v) || reset_bit v
stops _ v = false

any_longer : (test : ℕ → Bool) (a m n : ℕ) → m ≤ n → list_any test (range_with_len a m) ≡ true → list_any test (range_with_len a n) ≡ true
any_longer test a zero n near some = absurd (false≢true some)
any_longer test a (suc m) zero near some = absurd (omega arith)
any_longer test a (suc m) (suc n) near some =
    elim (or_cases (test a) (list_any test (range_with_len (a + 1) m)) some) [
      | inl here ↦ or_left (test a) (list_any test (range_with_len (a + 1) n)) here
      | inr later ↦ or_right (test a) (list_any test (range_with_len (a + 1) n)) (any_longer test (a + 1) m n (omega arith) later)
    ]

-- a value that is written in a run is the one that stands, but for USBCMD, CRCR and ERDP
value_stands : (o : Option ℕ) (v : ℕ) → is_value v o ≡ true → Some v ≡ o
value_stands o v is = grind (arith, eqb-true)

config_stands : (k : Known) (r : Register) (v : ℕ) (h : Header) → k.started ≡ true → is_bad_register h k r v ≡ false → with_register k.register r v Config ≡ k.register Config
unfolding is_bad_register
config_stands k Config v h on good = value_stands (k.register Config) v (restored_value k on good)
  where
    restored_value : (k : Known) → k.started ≡ true → (k.started && not (is_restored k Config v)) ≡ false → is_value v (k.register Config) ≡ true
    restored_value k on good = grind (arith, false≢true)
config_stands k o v h on good = refl

-- how far the controller is in halting behind a value of a register, where it runs more than once
halt_after : Bool → HaltState → Register → ℕ → HaltState
halt_after true a Usbcmd v = if reset_bit v then a else if run_bit v then NotHalting else told a v
halt_after _ a r v = a

module _ (h : Header) where
  abbrev dequeue_after : ℕ → Register → ℕ → ℕ
  dequeue_after p Erdp v = position_from (event_shape h) p (erdp_address v)
  dequeue_after p _ v = p

  abbrev with_value : Known → Register → ℕ → Known
  with_value k r v = record k { register = with_register k.register r v; dequeue = dequeue_after k.dequeue r v; halt = halt_after (has_runs h.version) k.halt r v }

  -- the write doesn't stop it
  abbrev GoesOn : Register → ℕ → Type 0
  GoesOn r v = (has_runs h.version ≡ true) ⊎ (stops r v ≡ false)

  again_is : (k : Known) (v : ℕ) → k.started ≡ true → runs_again k v ≡ (let l : Known = record k { halt = halt_after true k.halt Usbcmd v } in l)
  unfolding runs_again halt_after
  again_is k v on = by (reset_bit v) (run_bit v)
    where
      by : (r a : Bool) → (if r then k else if a then record k { started = true; halt = NotHalting } else if k.started then record k { halt = told k.halt v } else k)
          ≡ (let l : Known = record k { halt = if r then k.halt else if a then NotHalting else told k.halt v } in l)
      by true a = refl
      by false true = ap (λ (s : Bool). let l : Known = record k { started = s; halt = NotHalting } in l) (sym on)
      by false false = cond-true k.started _ _ on

  once_is : (k : Known) (v : ℕ) → k.started ≡ true → stops Usbcmd v ≡ false → runs_once k v ≡ k
  unfolding runs_once
  once_is k v on goes = cond-false (not k.started) _ _ (ap not on) ∙ cond-false (not (run_bit v) || reset_bit v) _ k goes

  once_here : (k : Known) (v : ℕ) → k.started ≡ true → has_runs h.version ≡ false → GoesOn Usbcmd v → runs_once k v ≡ (let l : Known = record k { halt = halt_after false k.halt Usbcmd v } in l)
  unfolding halt_after
  once_here k v on once (inl again) = absurd (false≢true (sym once ∙ again))
  once_here k v on once (inr goes) = once_is k v on goes

  command_is : (k : Known) (v : ℕ) → k.started ≡ true → GoesOn Usbcmd v → run_or_stop h k v ≡ (let l : Known = record k { halt = halt_after (has_runs h.version) k.halt Usbcmd v } in l)
  unfolding run_or_stop halt_after
  command_is k v on goes =
      elim (cases_Bool (has_runs h.version)) [
        | inl again ↦
            subst (λ b. (if b then runs_again k v else runs_once k v) ≡ (let l : Known = record k { halt = halt_after b k.halt Usbcmd v } in l)) (sym again) (again_is k v on)
        | inr once ↦
            subst (λ b. (if b then runs_again k v else runs_once k v) ≡ (let l : Known = record k { halt = halt_after b k.halt Usbcmd v } in l)) (sym once) (once_here k v on once goes)
      ]

  -- another register changes no phase
  phase_same : (b : Bool) (a : HaltState) (r : Register) (v : ℕ) → (r ≡ Usbcmd → ⊥) → halt_after b a r v ≡ a
  unfolding halt_after
  phase_same true a Usbcmd v other = absurd (other refl)
  phase_same true a r v other = refl
  phase_same false a r v other = refl

  value_is : (k : Known) (r : Register) (v : ℕ) → k.started ≡ true → GoesOn r v → learned h k (Reg r v) ≡ with_value k r v
  unfolding learned register_written valued
  value_is k Usbcmd v on goes = command_is (valued k Usbcmd v) v on goes
  value_is k Erdp v on goes = ap (λ a. let l : Known = record k { register = with_register k.register Erdp v; dequeue = position_from (event_shape h) k.dequeue (erdp_address v); halt = a } in l) (sym (phase_same (has_runs h.version) k.halt Erdp v (λ e. cc)))
  value_is k r v on goes = ap (λ a. let l : Known = record k { register = with_register k.register r v; halt = a } in l) (sym (phase_same (has_runs h.version) k.halt r v (λ e. cc)))

  goes_on : (k : Known) (r : Register) (v : ℕ) → k.started ≡ true → (learned h k (Reg r v)).stopped ≡ false → GoesOn r v
  unfolding learned register_written valued run_or_stop runs_once
  goes_on k Usbcmd v on still =
      elim (cases_Bool (has_runs h.version)) [
        | inl again ↦ inl again
        | inr once ↦ inr (not_stopped (valued k Usbcmd v) v on (subst (λ b. (if b then runs_again (valued k Usbcmd v) v else runs_once (valued k Usbcmd v) v).stopped ≡ false) once still))
      ]
    where
      not_stopped : (k : Known) (v : ℕ) → k.started ≡ true → (runs_once k v).stopped ≡ false → stops Usbcmd v ≡ false
      not_stopped k v on still = grind (arith, false≢true)
  goes_on k r v on still = inr refl

  -- ---- the write is allowed behind the event

  -- what the rules of registers read, but registers
  record StillRuled (k l : Known) : Type 0 where
    on : k.started ≡ true
    also : l.started ≡ true
    halt : l.halt ≡ k.halt
    register : l.register ≡ k.register
    used : is_used h l ≡ is_used h k
    taken : may_be_taken h k ≡ false → may_be_taken h l ≡ false

  restored_still : (k l : Known) → StillRuled k l → (r : Register) (v : ℕ) → (k.started && not (is_restored k r v)) ≡ false → (l.started && not (is_restored l r v)) ≡ false
  restored_still k l s r v good =
      and_right l.started (not (is_restored l r v))
      (ap not (ap (λ a. is_done a && is_value v (l.register r)) s.halt ∙ ap (λ f. is_done k.halt && is_value v (f r)) s.register)
      ∙ restored (is_restored k r v) (ap (λ b. b && not (is_restored k r v)) (sym s.on) ∙ good))
    where
      restored : (b : Bool) → (true && not b) ≡ false → not b ≡ false
      restored b e = e

  -- R/S may be set again, and the controller reset
  resume_still : (k l : Known) → StillRuled k l → (v : ℕ) → is_early_resume h k v ≡ false → is_early_resume h l v ≡ false
  unfolding is_early_resume is_unwritten
  resume_still k l s v good =
      elim (cases_Bool (may_be_taken h k)) [
        | inr none ↦
            let later = s.taken none in
            (grind (arith, later, none))
        | inl some ↦ (grind (arith, some))
      ]

  saves_still : (k l : Known) → StillRuled k l → (v : ℕ) → saves_badly h k v ≡ false → saves_badly h l v ≡ false
  unfolding saves_badly is_early_save is_early_restore
  saves_still k l s v good =
      elim (cases_Bool (may_be_taken h k)) [
        | inr none ↦
            let later = s.taken none in
            (grind (arith, later, none))
        | inl some ↦ (grind (arith, some))
      ]

  reset_still : (k l : Known) → StillRuled k l → (v : ℕ) → is_early_reset h k v ≡ false → resets k Usbcmd v ≡ false → is_early_reset h l v ≡ false
  unfolding is_early_reset resets
  reset_still k l s v good stays = grind (arith, false≢true)

  crcr_still : (k l : Known) → StillRuled k l → (v : ℕ) → is_bad_crcr h k v ≡ false → is_bad_crcr h l v ≡ false
  unfolding is_bad_crcr
  crcr_still k l s v good =
      ap (λ b. is_no_first_block v (command_ring h) || not (ring_cycle_state v == 1) || command_stop v || command_abort v || b) s.used ∙ good

  started_still : (k l : Known) → StillRuled k l → (r : Register) (v : ℕ) (a b : Bool) → (if k.started then not (is_restored k r v) else a) ≡ false → (if l.started then not (is_restored l r v) else b) ≡ false
  started_still k l s r v a b good =
      cond-true l.started (not (is_restored l r v)) b s.also
      ∙ ap not (ap (λ x. is_done x && is_value v (l.register r)) s.halt ∙ ap (λ f. is_done k.halt && is_value v (f r)) s.register)
      ∙ sym (cond-true k.started (not (is_restored k r v)) a s.on) ∙ good

  register_still : (k l : Known) → StillRuled k l → (r : Register) (v : ℕ) → resets k r v ≡ false → is_bad_register h k r v ≡ false → is_bad_register h l r v ≡ false
  unfolding is_bad_register is_bad_command_register
  register_still k l s Usbcmd v stays good =
      let both = or_parts (saves_badly h k v) _ good in
      let parts = or_parts (is_early_reset h k v) (is_early_resume h k v) (sym (cond-true k.started (is_early_reset h k v || is_early_resume h k v) _ s.on) ∙ both.1) in
      or_from (saves_badly h l v) _ (saves_still k l s v both.0)
      (cond-true l.started (is_early_reset h l v || is_early_resume h l v) _ s.also ∙ or_from _ _ (reset_still k l s v parts.0 stays) (resume_still k l s v parts.1))
  register_still k l s Crcr v stays good =
      let parts = or_parts (is_in_run k) (is_bad_crcr h k v) good in
      or_from (is_in_run l) (is_bad_crcr h l v) (ap (λ b. b && not (is_done l.halt)) (s.also ∙ sym s.on) ∙ ap (λ a. k.started && not (is_done a)) s.halt ∙ parts.0) (crcr_still k l s v parts.1)
  register_still k l s Dcbaap v stays good = restored_still k l s Dcbaap v good
  register_still k l s Config v stays good = restored_still k l s Config v good
  register_still k l s Erstsz v stays good = started_still k l s Erstsz v _ _ good
  register_still k l s Erstba v stays good = started_still k l s Erstba v _ _ good
  register_still k l s r v stays good = refl

  erdp_still : (k l : Known) (r : Register) (v : ℕ) → k.started ≡ true → l.started ≡ k.started → l.dequeue ≡ k.dequeue → k.reads ≤ l.reads → is_bad_erdp h k r v ≡ false → is_bad_erdp h l r v ≡ false
  unfolding is_bad_erdp may_pass
  erdp_still k l Erdp v on started dequeue reads good = search (rules, erdp_says, false≢true, and_parts, nat_lt, reached_is_good, and_from, any_longer)
  erdp_still k l _ v on started dequeue reads good = search rules

  register_clean : (k : Known) (r : Register) (v : ℕ) → k.stopped ≡ false → is_bad_register h k r v ≡ false → is_bad_erdp h k r v ≡ false → lenient h k (Reg r v) ≡ []
  unfolding lenient lenient_tests register_tests
  register_clean k r v on one two = search (rules, cond-false, broken_of, register_tests, is_bad_register, is_bad_erdp)

  dequeue_grows : (k : Known) (r : Register) (v : ℕ) → is_bad_erdp h k r v ≡ false → k.dequeue ≤ dequeue_after k.dequeue r v
  dequeue_grows k o v good = grind (arith, erdp_within)

  -- ---- the two

  value_alike : (k : Known) (r : Register) (v : ℕ) → Alike EverySlot k (with_value k r v)
  value_alike k r v = search (rules, held_same)

  value_events : (k : Known) (r : Register) (v : ℕ) → with_register k.register r v Config ≡ k.register Config → k.dequeue ≤ dequeue_after k.dequeue r v → EventAlike h k (with_value k r v)
  unfolding command_at next_command
  value_events k r v config grows =
      record {
        started = refl;
        stopped = refl;
        reads = refl;
        room = grows;
        config = ap (λ o. unwrap_or o 0) config;
        names = λ e q t has below at. spot_same h k (with_value k r v) e q refl refl ∙ at;
        command = record {
          command = λ c may at. at;
          does = λ n c may at. refl;
          targets = λ n c may at. targets_are h EverySlot c k (with_value k r v) (value_alike k r v) (λ q. refl) (changes h.context_size k.memory n c);
        };
      }

  pub register_square : IsHeader h → (k : Known) → DriverKeeps h k → (r : Register) (v : ℕ) (e : Block) → lenient h k (Reg r v) ≡ [] → lenient h k (Read e) ≡ [] →
      (learned h k (Reg r v)).stopped ≡ false → resets k r v ≡ false → Square h k (Reg r v) e
  unfolding learned
  register_square is k d r v e clean may still stays =
      let on : k.started ≡ true = (event_facts h k e may).started in
      let facts = register_facts h k r v clean in
      let goes = goes_on k r v on still in
      let l : Known = with_value k r v in
      let k_read : Known = learned h k (Read e) in
      let l_read : Known = learned h l (Read e) in
      let same : SameDriver (counted h k) k_read = read_same h k e in
      let read : ReadAlike h EverySlot k l e = read_alike h EverySlot k l (value_alike k r v) (value_events k r v (config_stands k r v h on facts.good) (dequeue_grows k r v facts.erdp)) e may in
      let states : SameStates k_read l_read = states_from k_read l_read read.after in
      let one : learned h k (Reg r v) ≡ l = value_is k r v on goes in
      let two : learned h k_read (Reg r v) ≡ with_value k_read r v = value_is k_read r v (same.started ∙ on) goes in
      let driver : SameDriver (with_value k_read r v) l_read =
      both_drivers (with_value k_read r v) (counted h l) l_read (search (rules, with_value)) (read_same h l e) in
      let states_too : SameStates (with_value k_read r v) l_read = search rules in
      let ruled : StillRuled k k_read = record {
        on = on;
        also = same.started ∙ on;
        halt = same.halt;
        register = same.register;
        used = ap (λ o. not (is_value 0 o)) (read_held h is k d e);
        taken = λ none. taken_still h is k d e may none;
      } in
      search (rules, lenient, register_clean, clean_tests, register_still, erdp_still, learned, with_value, held_more)

-- A register that is read beneath an event that isn't read yet: the two may change places

module _ (h : Header) where
  -- nothing is said of it but how far the controller is in halting
  abbrev with_halt : Known → HaltState → Known
  with_halt k a = record k { halt = a }

  halt_read : HaltState → Register → ℕ → HaltState
  halt_read a Usbsts v = if is_asked a && halted_bit v then seen a v else a
  halt_read a r v = a

  status_is : (k : Known) (r : Register) (v : ℕ) → learned h k (RegRead r v) ≡ with_halt k (halt_read k.halt r v)
  unfolding learned register_read status_read halt_read
  status_is k o v = grind arith

  halt_alike : (k : Known) (a : HaltState) → Alike EverySlot k (with_halt k a)
  halt_alike k a = search (rules, held_same)

  halt_events : (k : Known) (a : HaltState) → EventAlike h k (with_halt k a)
  unfolding command_at next_command
  halt_events k a =
      record {
        started = refl;
        stopped = refl;
        reads = refl;
        room = omega arith;
        config = refl;
        names = λ e q t has below at. spot_same h k (with_halt k a) e q refl refl ∙ at;
        command = record {
          command = λ c may at. at;
          does = λ n c may at. refl;
          targets = λ n c may at. targets_are h EverySlot c k (with_halt k a) (halt_alike k a) (λ q. refl) (changes h.context_size k.memory n c);
        };
      }

  status_still : (k l : Known) (r : Register) (v : ℕ) → l.started ≡ k.started → l.halt ≡ k.halt → is_impossible_read h k r v ≡ false → is_impossible_read h l r v ≡ false
  unfolding is_impossible_read is_impossible_status
  status_still k l Usbsts v started halt good =
      ap (λ b. if halted_bit v then b && not (is_asked l.halt) else not b || is_done l.halt) started
      ∙ ap (λ a. if halted_bit v then k.started && not (is_asked a) else not k.started || is_done a) halt ∙ good
  status_still k l r v started halt good = refl

  status_clean : (k : Known) (r : Register) (v : ℕ) → k.stopped ≡ false → is_impossible_read h k r v ≡ false → lenient h k (RegRead r v) ≡ []
  unfolding lenient lenient_tests read_tests
  status_clean k r v on one = search (rules, cond-false, broken_of, is_impossible_read)

  pub status_square : IsHeader h → (k : Known) → DriverKeeps h k → (r : Register) (v : ℕ) (e : Block) → lenient h k (RegRead r v) ≡ [] → lenient h k (Read e) ≡ [] → Square h k (RegRead r v) e
  unfolding learned lenient_tests read_tests
  status_square is k d r v e clean may =
      let a : HaltState = halt_read k.halt r v in
      let l : Known = with_halt k a in
      let k_read : Known = learned h k (Read e) in
      let l_read : Known = learned h l (Read e) in
      let same : SameDriver (counted h k) k_read = read_same h k e in
      let read : ReadAlike h EverySlot k l e = read_alike h EverySlot k l (halt_alike k a) (halt_events k a) e may in
      let states : SameStates k_read l_read = states_from k_read l_read read.after in
      let one : learned h k (RegRead r v) ≡ l = status_is k r v in
      let two : learned h k_read (RegRead r v) ≡ with_halt k_read a = status_is k_read r v ∙ ap (λ x. with_halt k_read (halt_read x r v)) same.halt in
      let driver : SameDriver (with_halt k_read a) l_read = both_drivers (with_halt k_read a) (counted h l) l_read (search (rules, with_halt)) (read_same h l e) in
      let states_too : SameStates (with_halt k_read a) l_read = search rules in
      let facts = tests_fail h k (RegRead r v) clean in
      record {
        event = subst (λ x. lenient h x (Read e) ≡ []) (sym one) read.possible;
        row = (status_clean k_read r v (same.stopped ∙ (clean_tests h k (RegRead r v) clean).0) (status_still k k_read r v same.started same.halt facts.0), tt);
        after = subst (λ x. HeldMore x (learned h (learned h k (RegRead r v)) (Read e))) (sym two)
            (subst (λ x. HeldMore (with_halt k_read a) (learned h x (Read e))) (sym one)
            (held_more (with_halt k_read a) l_read driver states_too (λ q. (read.after.rings q).floor) (λ q. (read.after.rings q).held)));
        awake = refl;
      }

-- A declaration beneath an event that isn't read yet: the two may change places

-- what a ring shows but its declared blocks is as it was
record DeclaresMore (v w : RingView) : Type 0 where
  pub alike : RingAlike v w
  pub queue : (p : ℕ) (b : Block) → slice_get v.queue p ≡ Some b → slice_get w.queue p ≡ Some b
  pub more : declared v ≤ declared w

module _ (h : Header) (r : ℕ) (blocks : List Block) where
  abbrev declaring : Known → Known
  declaring k = on_ring h k r (Declares blocks)

  changed_more : (v : RingView) → DeclaresMore v (changed (shape_of h r) v (Declares blocks))
  changed_more v = search (rules, held_same, slice_get-append, slice_get_within, length-append)

  rings_more : (k : Known) (q : ℕ) → DeclaresMore (k.ring q) ((declaring k).ring q)
  rings_more k q =
      view_after h (DeclaresMore (k.ring q)) k r (Declares blocks) q
      (λ same. subst (λ n. DeclaresMore (k.ring n) (changed (shape_of h r) (k.ring r) (Declares blocks))) (sym same) (changed_more (k.ring r))) (λ other. search (rules, held_same))

  values_more : (k : Known) (q : ℕ) → IsShape (shape_of h q) → RingKeeps (shape_of h q) k.memory (k.ring q) → KeepsValues (shape_of h q) (k.ring q) ((declaring k).ring q)
  values_more k q is keeps =
      view_after h (λ v. KeepsValues (shape_of h q) (k.ring q) v) k r (Declares blocks) q
      (λ same. subst (λ n. KeepsValues (shape_of h q) (k.ring q) (changed (shape_of h n) (k.ring n) (Declares blocks))) same (declares_values (shape_of h q) is k.memory (k.ring q) keeps blocks)) (λ other p from below. refl)

  declared_alike : (k : Known) → Alike EverySlot k (declaring k)
  unfolding on_ring
  declared_alike k = search (rules, declaring, rings_more)

  -- ---- what an event reads

  some_queued : (xs : List Block) (p : ℕ) (c : Command) → option_and_then command_of (slice_get xs p) ≡ Some c → (b : Block) × (slice_get xs p ≡ Some b)
  some_queued xs p c at = search (rules, option_and_then, slice_get, cases_option, none-some)

  command_still : (k : Known) (p : ℕ) (c : Command) → command_at h k p ≡ Some c → command_at h (declaring k) p ≡ Some c
  unfolding command_at
  command_still k p c at =
      let queued = some_queued (k.ring (command_id h)).queue p c at in
      ap (option_and_then command_of) ((rings_more k (command_id h)).queue p queued.0 queued.1 ∙ sym queued.1) ∙ at

  below_ceiling : (k : Known) → may_be_taken h k ≡ true → next_command h k < ceiling (shape_of h (command_id h)) (k.ring (command_id h))
  unfolding may_be_taken
  below_ceiling k may = ltb-true (next_command h k) (ceiling (shape_of h (command_id h)) (k.ring (command_id h))) may

  declared_events : IsHeader h → (k : Known) → DriverKeeps h k → k.started ≡ true → EventAlike h k (declaring k)
  unfolding on_ring
  declared_events is k d on =
      let l : Known = declaring k in
      record {
        started = refl;
        stopped = refl;
        reads = refl;
        room = omega arith;
        config = refl;
        names = λ e q t has below.
            let driver = transfer_driver h q (d.states.transfer (slot e) (endpoint e) q has) in
            names_still h k e q t l (rings_more k q).alike.floor (rings_more k q).more
            (λ tells p from up. values_more k q (ring_shape h is q driver).is (d.rings q driver) p from (omega (arith, below tells)))
            (named_still (shape_of h q) (k.ring q) (l.ring q) (rings_more k q).alike.floor (rings_more k q).more (pointer e) t (d.rings q driver).is_spot);
        command = record {
          command = λ c may at. command_still k (next_command h k) c at;
          does = λ n c may at. refl;
          targets = λ n c may at.
              placed_targets h is k l d (λ q. (rings_more k q).alike.floor) (λ q. (rings_more k q).more) refl n c
              (command_holds h k (next_command h k) c (d.unfinished (next_command h k) c (next_unfinished h is k d on (below_ceiling k may) c at)));
        };
      }

  -- ---- where the driver did the same, the declaration does

  changed_same : (v w : RingView) → SameGiven v w → SameGiven (changed (shape_of h r) v (Declares blocks)) (changed (shape_of h r) w (Declares blocks))
  changed_same v w g = record { queue = ap (λ x. x ++ blocks) g.queue; lengths = ap (λ x. x ++ length blocks ∷ []) g.lengths; given = g.given; crossed = g.crossed; withdrawn = g.withdrawn; free = g.free }

  declared_rings : (k l : Known) → SameDriver k l → (q : ℕ) → SameGiven ((declaring k).ring q) ((declaring l).ring q)
  declared_rings k l d q =
      view_after h (λ v. SameGiven v ((declaring l).ring q)) k r (Declares blocks) q
      (λ same. view_after h (SameGiven (changed (shape_of h r) (k.ring r) (Declares blocks))) l r (Declares blocks) q (λ _. changed_same (k.ring r) (l.ring r) (d.rings r))
      (λ other. absurd (other same)))
      (λ other. view_after h (SameGiven (k.ring q)) l r (Declares blocks) q (λ same. absurd (other same)) (λ _. d.rings q))

  declared_driver : (k l : Known) → SameDriver k l → SameDriver (declaring k) (declaring l)
  unfolding on_ring
  declared_driver k l d = search (rules, declaring, declared_rings)

  counted_declaring : (k : Known) → declaring (counted h k) ≡ counted h (declaring k)
  unfolding on_ring
  counted_declaring k = refl

  -- ---- the declaration behind the event

  still_clean : (k l : Known) → l.stopped ≡ false → floor_number (k.ring r) ≤ floor_number (l.ring r) → (l.ring r).queue ≡ (k.ring r).queue → lenient h k (Sub r blocks) ≡ [] → lenient h l (Sub r blocks) ≡ []
  unfolding lenient lenient_tests declaration_tests has_no_room
  still_clean k l on grows queue clean = search (rules, tests_fail, cond-false, length, ltb-false, place_count, shape_of, floor_number, declared, le-ltb)

  learned_declaring : (k : Known) → learned h k (Sub r blocks) ≡ declaring k
  unfolding learned
  learned_declaring k = refl

  declared_floor : (k : Known) (q : ℕ) → ((declaring k).ring q).floor ≡ (k.ring q).floor
  declared_floor k q = (rings_more k q).alike.floor

  declared_held : (k l : Known) (q : ℕ) → IsHeldMore (k.ring q).held (l.ring q).held → IsHeldMore ((declaring k).ring q).held (l.ring q).held
  declared_held k l q held =
      view_after h (λ v. IsHeldMore v.held (l.ring q).held) k r (Declares blocks) q (λ same. subst (λ n. IsHeldMore (k.ring n).held (l.ring q).held) same held) (λ _. held)

  declared_states : (k l : Known) → SameStates k l → SameStates (declaring k) l
  unfolding on_ring
  declared_states k l s = search (rules, declaring)

  pub declaration_square : IsHeader h → (k : Known) → DriverKeeps h k → (e : Block) → lenient h k (Sub r blocks) ≡ [] → lenient h k (Read e) ≡ [] → Square h k (Sub r blocks) e
  declaration_square is k d e clean may =
      let l : Known = declaring k in
      let k_read : Known = learned h k (Read e) in
      let l_read : Known = learned h l (Read e) in
      let same : SameDriver (counted h k) k_read = read_same h k e in
      let read : ReadAlike h EverySlot k l e = read_alike h EverySlot k l (declared_alike k) (declared_events is k d (event_facts h k e may).started) e may in
      let driver : SameDriver (declaring k_read) l_read =
      both_drivers (declaring k_read) (counted h l) l_read
      (subst (λ x. SameDriver (declaring k_read) x) (counted_declaring k) (declared_driver k_read (counted h k) (flip_driver (counted h k) k_read same))) (read_same h l e) in
      record {
        event = subst (λ x. lenient h x (Read e) ≡ []) (sym (learned_declaring k)) read.possible;
        row = (
          still_clean k k_read (same.stopped ∙ (clean_tests h k (Read e) may).0) (floors_grow h is k d e may r) (same.rings r).queue clean,
          tt,
        );
        after = subst (λ x. HeldMore x (learned h (learned h k (Sub r blocks)) (Read e))) (sym (learned_declaring k_read)) (subst (λ x. HeldMore (declaring k_read) (learned h x (Read e))) (sym (learned_declaring k))
            (held_more (declaring k_read) l_read driver (declared_states k_read l_read (states_from k_read l_read read.after))
            (λ q. (read.after.rings q).floor ∙ sym (declared_floor k_read q)) (λ q. declared_held k_read l_read q (read.after.rings q).held)));
        awake = refl;
      }

-- Behind an event that is read before it, a write that gives a good command breaks no rule
module _ (h : Header) (is : IsHeader h) (k : Known) (d : DriverKeeps h k) (a w : ℕ) (e : Block) (clean : MayCome h k (Write a w)) (may : lenient h k (Read e) ≡ [])
    (c : Command) (given : command_given h k a w ≡ Some c) where
  abbrev l : Known
  l = learned h k (Read e)

  of_given : (test : Command → Bool) → test c ≡ false → some_command h l a w test ≡ false
  unfolding some_command holds_of
  of_given test fails = ap (holds_of test) (command_behind h is k d a w e clean may ∙ given) ∙ fails

  pub row_behind : is_bad_command h l c ≡ false → lenient h l (Write a w) ≡ []
  unfolding lenient lenient_tests write_tests
  row_behind good =
      let rules : RingRules h is k d a w e clean may l = rules_behind h is k d a w e clean may in
      cond-false l.stopped (AfterStop ∷ []) (broken_of (write_tests h l a w)) (read_on h k e ∙ (clean_tests h k (Read e) may).0)
      ∙ broken_none (write_tests h l a w) (
        rules.unowned,
        (rules.declared_as, (rules.declared, (rules.whole, (rules.leads, (of_given _ good, (or_from _ _ (or_from _ _ (of_given _ (idle_behind h is k d a w e clean may c given)) rules.unmoved) rules.unlinked, (or_from _ _ (of_given _ (profile_behind h is k d a w e clean may c given)) rules.inside, (of_given _ (or_from _ _ (bindings_behind h is k d a w e clean may c given) (moves_behind h is k d a w e clean may c given)), tt)))))))),
      )

-- A write that gives a command and an event that isn't read yet may change places
module _ (h : Header) (is : IsHeader h) (k : Known) (d : DriverKeeps h k) (a w : ℕ) (e : Block) (clean : MayCome h k (Write a w)) (may : lenient h k (Read e) ≡ [])
    (c : Command) (given : command_given h k a w ≡ Some c) where
  pub given_square : Square h k (Write a w) e
  given_square = record {
    event = command_event h is k d a w e clean may;
    row = (
      row_behind h is k d a w e clean may c given (good_behind h is k d a w e clean may c given),
      (passed_behind h is k d e may a w clean.1.0, λ f at. subst (λ x. MovesRestored (learned h k (Read e)) x) (same_Some c f (sym (command_behind h is k d a w e clean may ∙ given) ∙ at)) (restored_behind h is k d a w e clean may c given)),
    );
    after = command_after h is k d a w e clean may c given;
    awake = refl;
  }

-- A doorbell of a ring that is held beneath an event that isn't read yet: the two may change places
module _ (h : Header) (is : IsHeader h) (k : Known) (d : DriverKeeps h k) (s t : ℕ) (clean : MayCome h k (Bell s t)) (awake : is_idle h k (Bell s t) ≡ false) where
  endpoint_square : (s == 0) ≡ false → (e : Block) → lenient h k (Read e) ≡ [] → Square h k (Bell s t) e
  endpoint_square endpoint e may =
      let ring = rung_ring h s t endpoint k awake in
      bell_square h s t endpoint is k d ring.0 ring.1 ring.2 e clean may

  pub doorbell_square : (e : Block) → lenient h k (Read e) ≡ [] → Square h k (Bell s t) e
  unfolding is_open
  doorbell_square e may =
      elim (cases_Bool (s == 0)) [
        | inl command ↦ command_square h is k d (search (rules, cond-true, false≢true, is_none)) s t e command clean may
        | inr endpoint ↦ endpoint_square endpoint e may
      ]

-- A write and an event that isn't read yet may change places, whether the write gives a command or not
pub any_write_square : (h : Header) (k : Known) (a w : ℕ) (e : Block) → IsHeader h → IsRow (Write a w) → IsDriverRow (Write a w) → DriverKeeps h k → MayCome h k (Write a w) →
    lenient h k (Read e) ≡ [] → is_idle h k (Write a w) ≡ false → (learned h k (Write a w)).stopped ≡ false → Square h k (Write a w) e
any_write_square h k a w e is row driver d clean may awake on =
    elim (cases_option (command_given h k a w)) [
      | inl none ↦ write_square h is k d a w e clean none may
      | inr some ↦ given_square h is k d a w e clean may some.0 some.1
    ]

module _ (h : Header) where
  pub square_law : SquareLaw h
  square_law k (Sub r blocks) e is row driver d clean may awake on stays = declaration_square h r blocks is k d e clean.0 may
  square_law k (Write a w) e is row driver d clean may awake on stays = any_write_square h k a w e is row driver d clean may awake on
  square_law k (Reg r v) e is row driver d clean may awake on stays = register_square h is k d r v e clean.0 may on stays
  square_law k (RegRead r v) e is row driver d clean may awake on stays = status_square h is k d r v e clean.0 may
  square_law k (Bell s t) e is row driver d clean may awake on stays = doorbell_square h is k d s t clean awake e may
  square_law k _ e is row driver d clean may awake on stays = absurd driver
