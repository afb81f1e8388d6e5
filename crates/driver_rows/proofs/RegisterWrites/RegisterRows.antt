-- A register write that was checked
use Rattle.driver_rows.proofs.Words.{rules, ◌≡◌, ℕ, ◌-◌, [], ◌∷◌, Bool, true, false, Option, None, Some, refl, ap, sym, ◌∙◌, subst, not, is_some, ◌&&◌, ◌||◌, filter_map, RingView, is_off, device_context_bytes, input_context_bytes, EventState, is_event_place, is_reached_within, erdp_address, Header, Register, Erdp, Reg, event_ring, event_shape, RegisterRecord, FollowsRegisters, FollowsRing, Known, learned, register_written, run_or_stop, valued, reset_bit, and_parts, DriverKeeps, Usbcmd, unfinished, FollowsDevices, FollowsUnfinished, after_register, unfinished_register, HoldsAreas, HoldsSoiled, BadRegister, BadErdp, first_of, first_broken, older, stricter, is_lenient, no_place_stays, event_place, broken, lenient_tests, tests, register_tests, is_bad_register, is_bad_erdp, may_pass, names_no_place, slots, TraceRecord, FollowsEvents, FollowsTrace, device_contexts, inputs_of, IsSetUp, IsLeast, IsRowStep, IsMoved, binds_same, bound_same, first_broken-is, nothing_broken, runs_again, runs_once, reset, resets, is_bad_command_register, is_early_reset, has_gap, Halt, is_done, is_asked}

-- all else stays as it was
pub record IsElsewhereSame (k l : Known) : Type 0 where
  pub ring : l.ring ≡ k.ring
  pub memory : l.memory ≡ k.memory
  pub reads : l.reads ≡ k.reads
  pub device : l.device ≡ k.device
  pub endpoint_state : l.endpoint_state ≡ k.endpoint_state
  pub soiled : l.soiled ≡ k.soiled

pub elsewhere_same : (h : Header) (k : Known) (r : Register) (v : ℕ) → IsElsewhereSame k (register_written h k r v)
unfolding register_written valued run_or_stop runs_once runs_again
elsewhere_same h k r v = search rules

pub dequeue_same : (h : Header) (k : Known) (r : Register) (v : ℕ) → (r ≡ Erdp → ⊥) → (register_written h k r v).dequeue ≡ k.dequeue
unfolding register_written valued run_or_stop runs_once runs_again
dequeue_same h k r v e = search rules

not_passed : (h : Header) (k : Known) (r : Register) (v : ℕ) → (r ≡ Erdp → ⊥) → is_bad_erdp h k r v ≡ false
unfolding is_bad_erdp
not_passed h k r v e = search rules

module _ (h : Header) (r : Register) (v : ℕ) where
  -- the two rules of the trace's version
  abbrev pub refused : Known → Bool
  refused k = stricter h k (Reg r v) BadRegister || is_bad_register h k r v

  abbrev pub passed : Known → Bool
  passed k = stricter h k (Reg r v) BadErdp || is_bad_erdp h k r v

  rules_are : (k : Known) → k.stopped ≡ false → first_of (broken h k (Reg r v)) ≡ first_broken ((BadRegister, refused k) ∷ (BadErdp, passed k) ∷ [])
  unfolding broken tests lenient_tests register_tests
  rules_are k on = search (rules, first_broken-is)

  pub bad_register : (k : Known) → k.stopped ≡ false → refused k ≡ true → IsLeast h k (Reg r v) BadRegister
  bad_register k on bad = rules_are k on ∙ rw bad refl

  pub bad_erdp : (k : Known) → k.stopped ≡ false → refused k ≡ false → passed k ≡ true → IsLeast h k (Reg r v) BadErdp
  bad_erdp k on fine bad = rules_are k on ∙ rw (fine, bad) refl

  module _ (t : TraceRecord) (m : ℕ → ℕ) (k : Known) (f : FollowsTrace h k t m) (on : k.stopped ≡ false) (fine : refused k ≡ false) (goes : passed k ≡ false) where
    clean_is : broken h k (Reg r v) ≡ []
    clean_is = nothing_broken _ (rules_are k on ∙ rw (fine, goes) refl)

    same : IsElsewhereSame k (register_written h k r v)
    same = elsewhere_same h k r v

    learned_is : learned h k (Reg r v) ≡ register_written h k r v
    unfolding learned
    learned_is = refl

    unfinished_is : unfinished h (register_written h k r v) ≡ unfinished h k
    unfinished_is = ap (λ l. unfinished h l) (sym learned_is) ∙ unfinished_register h k r v

    contexts_are : device_contexts (register_written h k r v) ≡ device_contexts k
    contexts_are = ap (λ (device : ℕ → Option ℕ). filter_map device slots) same.device

    module _ (registers_ : RegisterRecord) (events_ : Option EventState) (follows_registers : FollowsRegisters (register_written h k r v) registers_)
        (follows_events : FollowsEvents h (register_written h k r v) events_) where
      followed_is : FollowsTrace h (register_written h k r v) (record t { registers = registers_; events = events_ }) m
      followed_is = record {
        words = λ a. ap (λ words. words a) same.memory ∙ f.words a;
        rings = record { as_many = f.rings.as_many; each = λ i q x at is d. subst (λ (g : ℕ → RingView). FollowsRing q.shape (g q.id) x) (sym same.ring) (f.rings.each i q x at is d) };
        registers = follows_registers;
        events = follows_events;
        devices = subst (λ (l : Known). FollowsDevices l t.devices) learned_is (after_register h k t.devices f.devices r v);
        commands = subst (λ commands. FollowsUnfinished commands t.commands) (sym unfinished_is) f.commands;
        bound = λ n.
            f.bound n ∙ sym (bound_same h k (register_written h k r v) unfinished_is (binds_same h k (register_written h k r v) same.memory (λ s. ap (λ g. is_off (g s 1)) same.endpoint_state)) n);
        inputs = subst (λ commands. HoldsAreas (input_context_bytes h.context_size) (inputs_of commands) t.inputs) (sym unfinished_is) f.inputs;
        contexts = subst (λ starts. HoldsAreas (device_context_bytes h.context_size) starts t.contexts) (sym contexts_are) f.contexts;
        soiled = subst (λ soiled. HoldsSoiled soiled t.soiled) (sym same.soiled) f.soiled;
      }

      pub step_is : resets k r v ≡ false → IsRowStep h k (Reg r v) (record t { registers = registers_; events = events_ }) m
      step_is stays = record { clean = clean_is; followed = rw (stays, learned_is) followed_is }

    -- where the controller is reset
    pub reset_is : (u : TraceRecord) → resets k r v ≡ true → FollowsTrace h (reset h k) u m → IsRowStep h k (Reg r v) u m
    reset_is u goes followed = record { clean = clean_is; followed = rw goes followed }

may_is : (h : Header) (k : Known) → IsSetUp h k → (b : Bool) → k.started ≡ b → may_pass k ≡ k.reads - k.dequeue
unfolding may_pass
may_is h k e b f = search rules

moved_place : (h : Header) (k : Known) (v : ℕ) (e : EventState) → IsMoved h k (Some e) v → FollowsEvents h (register_written h k Erdp v) (Some e)
unfolding register_written valued
moved_place h k v e f = record { here = f.here; shape = f.shape; reads = f.reads; dequeue = f.dequeue }

pub moved_follows : (h : Header) (k : Known) (r : Register) (v : ℕ) (o : Option EventState) → r ≡ Erdp → IsMoved h k o v → FollowsEvents h (register_written h k r v) o
moved_follows h k r v None is f = subst (λ (q : Register). FollowsEvents h (register_written h k q v) None) (sym is) f
moved_follows h k r v (Some e) is f = subst (λ (q : Register). FollowsEvents h (register_written h k q v) (Some e)) (sym is) (moved_place h k v e f)

-- what ERDP may name, by the rule of the trace's version
module _ (h : Header) (k : Known) (v : ℕ) where
  abbrev reached : Bool
  reached = is_reached_within (event_shape h) k.dequeue (k.reads - k.dequeue) (erdp_address v)

  abbrev no_place : Bool
  no_place = is_some (event_ring h) && not (is_event_place (event_shape h) (erdp_address v))

  -- what is reached is an event place
  reached_place : reached ≡ true → no_place ≡ false
  reached_place is = search (rules, event_place)

  by_tests : (started some place within three : Bool) → (within ≡ true → (some && not place) ≡ false) →
      (((not started && some && not place) && not three) || (not (not started && some && not place) && not within)) ≡ not (within || (three && (not started && (some && not place))))
  by_tests started some place within three e = search rules

  pub passed_is : IsSetUp h k → passed h Erdp v k ≡ not (reached || (is_lenient h.version && (not k.started && no_place)))
  unfolding stricter older is_bad_erdp names_no_place
  passed_is s =
      ap (λ n. ((not k.started && is_some (event_ring h) && not (is_event_place (event_shape h) (erdp_address v))) && not (is_lenient h.version))
      || (not (not k.started && is_some (event_ring h) && not (is_event_place (event_shape h) (erdp_address v))) && not (is_reached_within (event_shape h) k.dequeue n (erdp_address v))))
      (may_is h k s k.started refl)
      ∙ by_tests k.started (is_some (event_ring h)) (is_event_place (event_shape h) (erdp_address v)) reached (is_lenient h.version) reached_place

-- a value that names no event place moves nothing
pub stays_follows : (h : Header) (k : Known) (r : Register) (v : ℕ) (o : Option EventState) → r ≡ Erdp → is_event_place (event_shape h) (erdp_address v) ≡ false → FollowsEvents h k o →
    FollowsEvents h (register_written h k r v) o
stays_follows h k r v o is none f = search (rules, moved_follows, no_place_stays)

pub others_follow : (h : Header) (k : Known) (r : Register) (v : ℕ) (o : Option EventState) → (r ≡ Erdp → ⊥) → FollowsEvents h k o → FollowsEvents h (register_written h k r v) o
others_follow h k r v o e f = search (rules, elsewhere_same, dequeue_same)

pub fine_erdp : (h : Header) (k : Known) (r : Register) (v : ℕ) → (r ≡ Erdp → ⊥) → passed h r v k ≡ false
unfolding stricter older
fine_erdp h k r v e = search (rules, not_passed)

-- ---- a reset

pub resets_as : (k : Known) (r : Register) (v : ℕ) (b : Bool) → r ≡ Usbcmd → b ≡ (is_done k.halt && reset_bit v) → b ≡ resets k r v
unfolding resets
resets_as k r v b is told = told ∙ ap (λ q. resets k q v) (sym is)

pub resets_never : (k : Known) (r : Register) (v : ℕ) → (r ≡ Usbcmd → ⊥) → false ≡ resets k r v
unfolding resets
resets_never k r v other = search rules

-- only USBCMD resets, by HCRST, and that a controller that was seen to have halted
resets_so : (k : Known) (r : Register) (v : ℕ) → resets k r v ≡ true → (r ≡ Usbcmd) × (is_done k.halt ≡ true) × (reset_bit v ≡ true)
unfolding resets
resets_so k r v is = search (rules, and_parts)

done_asked : (x : Halt) → is_done x ≡ true → is_asked x ≡ true
done_asked x done = search rules

-- there is no gap in the command ring
pub without_gap : (h : Header) (k : Known) (r : Register) (v : ℕ) → DriverKeeps h k → resets k r v ≡ true → is_bad_register h k r v ≡ false → has_gap h k ≡ false
unfolding is_bad_register is_bad_command_register is_early_reset
without_gap h k r v d is fine =
    let so = resets_so k r v is in
    let asked = done_asked k.halt so.1 in
    search (rules, d.run.again asked, d.run.started asked, so)

-- other registers don't move ERDP
pub reset_fine : (h : Header) (k : Known) (r : Register) (v : ℕ) → resets k r v ≡ true → passed h r v k ≡ false
reset_fine h k r v is = fine_erdp h k r v (λ same. search (rules, resets_so))
