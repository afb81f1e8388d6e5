-- A value of USBCMD that starts, halts or stops the controller changes nothing else
use Rattle.safety.proofs.Words.{◌≡◌, ◌&&◌, ◌||◌, if◌then◌else◌, ℕ, Bool, not, true, refl, cond_both, Header, Known, run_or_stop, runs_once, runs_again, run_bit, reset_bit, HaltState, NotHalting, told, has_runs}

pub record SameButPhase (k l : Known) : Type 0 where
  pub register : l.register ≡ k.register
  pub memory : l.memory ≡ k.memory
  pub ring : l.ring ≡ k.ring
  pub was_bound : l.was_bound ≡ k.was_bound
  pub slot_state : l.slot_state ≡ k.slot_state
  pub endpoint_state : l.endpoint_state ≡ k.endpoint_state
  pub ring_of : l.ring_of ≡ k.ring_of
  pub isochronous : l.isochronous ≡ k.isochronous
  pub must_move : l.must_move ≡ k.must_move
  pub stop_seen : l.stop_seen ≡ k.stop_seen
  pub device : l.device ≡ k.device
  pub soiled : l.soiled ≡ k.soiled
  pub reads : l.reads ≡ k.reads
  pub dequeue : l.dequeue ≡ k.dequeue
  -- once started it stays so
  pub started : k.started ≡ true → l.started ≡ true

module _ (k : Known) where
  same : SameButPhase k k
  same = record {
    register = refl;
    memory = refl;
    ring = refl;
    was_bound = refl;
    slot_state = refl;
    endpoint_state = refl;
    ring_of = refl;
    isochronous = refl;
    must_move = refl;
    stop_seen = refl;
    device = refl;
    soiled = refl;
    reads = refl;
    dequeue = refl;
    started = λ on. on;
  }

  -- with another phase
  in_phase : (s t : Bool) (a : HaltState) → (k.started ≡ true → s ≡ true) → SameButPhase k (let l : Known = record k { started = s; stopped = t; halt = a } in l)
  in_phase s t a on = record {
    register = refl;
    memory = refl;
    ring = refl;
    was_bound = refl;
    slot_state = refl;
    endpoint_state = refl;
    ring_of = refl;
    isochronous = refl;
    must_move = refl;
    stop_seen = refl;
    device = refl;
    soiled = refl;
    reads = refl;
    dequeue = refl;
    started = on;
  }

  either : (b : Bool) (l m : Known) → SameButPhase k l → SameButPhase k m → SameButPhase k (if b then l else m)
  either b l m one other = cond_both b l m (SameButPhase k) (λ _. one) (λ _. other)

  once : (x : ℕ) → SameButPhase k (runs_once k x)
  unfolding runs_once
  once x =
      either (not k.started) _ _
      (either (run_bit x && not (reset_bit x)) _ k (in_phase true k.stopped k.halt (λ _. refl)) same)
      (either (not (run_bit x) || reset_bit x) _ k (in_phase k.started true k.halt (λ on. on)) same)

  again : (x : ℕ) → SameButPhase k (runs_again k x)
  unfolding runs_again
  again x =
      either (reset_bit x) k _ same
      (either (run_bit x) _ _ (in_phase true k.stopped NotHalting (λ _. refl)) (either k.started _ k (in_phase k.started k.stopped (told k.halt x) (λ on. on)) same))

pub runs_leave : (h : Header) (k : Known) (x : ℕ) → SameButPhase k (run_or_stop h k x)
unfolding run_or_stop
runs_leave h k x = either k (has_runs h.version) (runs_again k x) (runs_once k x) (again k x) (once k x)
