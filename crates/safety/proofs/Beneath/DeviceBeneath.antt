-- A device context that a write takes: an event reads nothing of it
use Rattle.safety.proofs.MiddleLaws.{spot_same, [], ◌≡◌, ◌≢◌, ◌∙◌, ℕ, Option, Some, arith, ap, none-some, same_Some, Block, changes, Header, Read, Config, command_id, register_or_zero, Known, next_command, with_device, lenient, at_number, SameDriver, Alike, held_same}
use Rattle.safety.proofs.AlikeEvents.AlikeEvents.{EventAlike, ReadAlike, read_alike}
use Rattle.safety.proofs.AlikeEvents.HeldFurther.{command_same, targets_are, counted}

-- the slots whose device contexts aren't taken
abbrev pub Untaken : Option (ℕ × ℕ) → ℕ → Type 0
Untaken o t = (f : ℕ × ℕ) → o ≡ Some f → t ≢ f.0

module _ (h : Header) (x : Known) where
  taken_alike : (o : Option (ℕ × ℕ)) → Alike (Untaken o) x (with_device h x o)
  unfolding with_device
  taken_alike o = grind (arith, held_same, x.ring, at_number, x.device)

  -- what a device context leaves as it was
  pub record Beyond (y : Known) : Type 0 where
    pub started : y.started ≡ x.started
    pub stopped : y.stopped ≡ x.stopped
    pub register : y.register ≡ x.register
    pub memory : y.memory ≡ x.memory
    pub reads : y.reads ≡ x.reads
    pub dequeue : y.dequeue ≡ x.dequeue
    pub ring : y.ring ≡ x.ring

  pub beyond : (o : Option (ℕ × ℕ)) → Beyond (with_device h x o)
  unfolding with_device
  beyond o = grind arith

  events : (P : ℕ → Type 0) (y : Known) → Alike P x y → Beyond y → EventAlike h x y
  events P y a b = record {
    started = b.started;
    stopped = b.stopped;
    reads = b.reads;
    room = let e = b.dequeue in omega arith;
    config = ap (λ f. register_or_zero f Config) b.register;
    names = λ e r t has below at. spot_same h x y e r (a.rings r).floor (ap (λ f. (f r).queue) b.ring) ∙ at;
    command = record {
      command = λ c may at. command_same h x y (next_command h x) (ap (λ f. (f (command_id h)).queue) b.ring) ∙ at;
      does = λ n c may at. ap (λ f. changes h.context_size f n c) b.memory;
      targets = λ n c may at. targets_are h P c x y a (λ r. ap (λ f. (f r).queue) b.ring) (changes h.context_size x.memory n c);
    };
  }

  pub device_read : (o : Option (ℕ × ℕ)) (e : Block) → lenient h x (Read e) ≡ [] → ReadAlike h (Untaken o) x (with_device h x o) e
  device_read o e may = read_alike h (Untaken o) x (with_device h x o) (taken_alike o) (events (Untaken o) (with_device h x o) (taken_alike o) (beyond o)) e may

  -- what the driver did is the same with it as it was without
  pub device_driver : (y : Known) (o : Option (ℕ × ℕ)) → SameDriver x (counted h y) → SameDriver (with_device h x o) (counted h (with_device h y o))
  unfolding with_device
  device_driver y o s = grind (arith, counted)

  -- slot by slot
  pub devices_same : (o : Option (ℕ × ℕ)) (now : ℕ → Option ℕ) → ((t : ℕ) → Untaken o t → now t ≡ x.device t) → ((f : ℕ × ℕ) → o ≡ Some f → now f.0 ≡ Some f.1) →
      (t : ℕ) → now t ≡ (with_device h x o).device t
  unfolding with_device
  devices_same o now others there t = grind (arith, none-some, at_number, same_Some)
