-- What the end of a command leaves as it is, and which device contexts are let go
use Rattle.event_rows.proofs.Words.{rules, ◌≡◌, ◌==◌, if◌then◌else◌, ◌∷◌, ℕ, Bool, List, [], Option, Some, None, ap, refl, map, put, Block, code, slot, Spot, ContextSize, Command, DisableSlot, Change, DeviceLeft, changes, placed_by_context, Header, Known, on_ring, set_to, bound_to, moved_to, moved, pointed, typed, disabled, in_state, held_at_ceiling, changed_by, changed_by_all, succeeded, stop_ended, finished}

-- the device contexts behind a change, and behind a list of changes
abbrev pub device_by : Change → (ℕ → Option ℕ) → ℕ → Option ℕ
device_by (DeviceLeft s) f = put f s None
device_by _ f = f

abbrev pub devices_by : List Change → (ℕ → Option ℕ) → ℕ → Option ℕ
devices_by [] f = f
devices_by (change ∷ rest) f = devices_by rest (device_by change f)

-- what is neither a ring, a slot nor an endpoint is as before, and these are the device contexts
pub record IsRest (k l : Known) (devices : ℕ → Option ℕ) : Type 0 where
  pub started : l.started ≡ k.started
  pub stopped : l.stopped ≡ k.stopped
  pub halt : l.halt ≡ k.halt
  pub register : l.register ≡ k.register
  pub memory : l.memory ≡ k.memory
  pub soiled : l.soiled ≡ k.soiled
  pub reads : l.reads ≡ k.reads
  pub dequeue : l.dequeue ≡ k.dequeue
  pub device : l.device ≡ devices

pub rest_same : (k : Known) → IsRest k k k.device
rest_same k = record { started = refl; stopped = refl; halt = refl; register = refl; memory = refl; soiled = refl; reads = refl; dequeue = refl; device = refl }

rest_on : (k l m : Known) (f g : ℕ → Option ℕ) → IsRest k l f → IsRest l m g → IsRest k m g
rest_on k l m f g a b = search rules

module _ (h : Header) where
  set_rest : (k : Known) (r : ℕ) (t : Spot) → IsRest k (set_to h k r t) k.device
  unfolding set_to on_ring
  set_rest k r t = record { started = refl; stopped = refl; halt = refl; register = refl; memory = refl; soiled = refl; reads = refl; dequeue = refl; device = refl }

  moved_rest : (k : Known) (o : Option ℕ) (p : ℕ) (cycle : Bool) → IsRest k (moved h k o p cycle) k.device
  unfolding moved moved_to
  moved_rest k o p cycle = search (rules, rest_same, set_rest)

  bound_rest : (k : Known) (s i : ℕ) (o : Option ℕ) (p : ℕ) (cycle : Bool) → IsRest k (bound_to h k s i o p cycle) k.device
  unfolding bound_to
  bound_rest k s i o p cycle = search (rules, rest_same, moved_rest)

  change_rest : (c : Command) (k : Known) (change : Change) → IsRest k (changed_by h c k change) (device_by change k.device)
  unfolding changed_by typed disabled in_state pointed held_at_ceiling on_ring
  change_rest c k change = search (rules, bound_rest, moved_rest, rest_same)

  changes_rest : (c : Command) (k : Known) (all : List Change) → IsRest k (changed_by_all h c k all) (devices_by all k.device)
  unfolding changed_by_all
  changes_rest c k [] = rest_same k
  changes_rest c k (change ∷ rest) = search (rules, rest_same, change_rest, rest_on, changes_rest c (changed_by h c k change) rest)

  -- the device contexts behind the end of a command
  abbrev pub ended_devices : Known → Block → Command → ℕ → Option ℕ
  ended_devices k b c = if code b == 1 then devices_by (changes h.context_size k.memory (slot b) c) k.device else k.device

  pub finished_rest : (k : Known) (b : Block) (c : Command) → IsRest k (finished h k b (Some c)) (ended_devices k b c)
  unfolding finished succeeded stop_ended
  finished_rest k b c = search (rules, changes_rest, rest_on, rest_same)

-- ---- which commands let go of a device context

placed_none : (size : ContextSize) (memory : ℕ → ℕ) (s a : ℕ) (f : ℕ → Option ℕ) (indices : List ℕ) → devices_by (map (placed_by_context size memory s a) indices) f ≡ f
placed_none size memory s a f [] = refl
placed_none size memory s a f (i ∷ rest) = placed_none size memory s a f rest

pub others_none : (size : ContextSize) (memory : ℕ → ℕ) (n : ℕ) (c : Command) (f : ℕ → Option ℕ) → ((s : ℕ) → c ≡ DisableSlot s → ⊥) → devices_by (changes size memory n c) f ≡ f
unfolding changes
others_none size memory n c f e = search (rules, placed_none)

pub disable_one : (size : ContextSize) (memory : ℕ → ℕ) (n s : ℕ) (c : Command) (f : ℕ → Option ℕ) → c ≡ DisableSlot s → devices_by (changes size memory n c) f ≡ put f s None
unfolding changes
disable_one size memory n s c f is = ap (λ d. devices_by (changes size memory n d) f) is
