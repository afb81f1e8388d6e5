-- Where rings are held at greater numbers, the same events are possible, and what they lead to is the same but for these numbers
use Rattle.safety.proofs.MiddleLaws.{spot_same, [], ◌≡◌, ◌+◌, ◌∷◌, ◌∙◌, ℕ, List, length, find, option_and_then, slice_get, arith, sym, ap, rules, Block, number, floor_number, is_target, spots_between, target, Command, command_of, Change, changes, Header, Read, Config, shape_of, command_id, register_or_zero, Known, command_at, next_command, learned, changed_by, IsHeldMore, HeldMore, MoreLaw, SameDriver, both_drivers, change_same, event_same, Alike}
use Rattle.safety.proofs.AlikeEvents.AlikeChanges.{TargetIs, TargetsAre, change_alike}
use Rattle.safety.proofs.AlikeEvents.AlikeEvents.{EventAlike, ReadAlike, read_alike}

-- ---- all fields the same, but that rings are held at greater numbers

-- what events may change and the driver's rows don't, but for where rings are held
pub record SameStates (k l : Known) : Type 0 where
  pub was_bound : l.was_bound ≡ k.was_bound
  pub slot_state : l.slot_state ≡ k.slot_state
  pub endpoint_state : l.endpoint_state ≡ k.endpoint_state
  pub ring_of : l.ring_of ≡ k.ring_of
  pub isochronous : l.isochronous ≡ k.isochronous
  pub must_move : l.must_move ≡ k.must_move
  pub stop_seen : l.stop_seen ≡ k.stop_seen
  pub device : l.device ≡ k.device

pub flip_driver : (k l : Known) → SameDriver k l → SameDriver l k
flip_driver k l d = search rules

pub held_more : (k l : Known) → SameDriver k l → SameStates k l → ((r : ℕ) → (l.ring r).floor ≡ (k.ring r).floor) → ((r : ℕ) → IsHeldMore (k.ring r).held (l.ring r).held) → HeldMore k l
held_more k l d s floor held = search (rules)

-- every device context is alike
abbrev pub EverySlot : ℕ → Type 0
EverySlot s = Unit {0}

pub states_from : (k l : Known) → Alike EverySlot k l → SameStates k l
states_from k l a = search rules

module _ (h : Header) where
  abbrev pub counted : Known → Known
  counted k = record k { reads = k.reads + 1 }

  -- the reading of an event leaves all that the driver did
  pub read_same : (k : Known) (e : Block) → SameDriver (counted k) (learned h k (Read e))
  unfolding learned
  read_same k e = search (rules, counted, event_same)

  -- where the driver did the same it has done the same when the event is read
  pub read_both : (k l : Known) (e : Block) → SameDriver k l → SameDriver (learned h k (Read e)) (learned h l (Read e))
  read_both k l e d = search (rules, counted, both_drivers, flip_driver, read_same)

  -- ---- what is the same where queues and floors are

  module _ (P : ℕ → Type 0) where
    pub targets_are : (c : Command) (k l : Known) → Alike P k l → ((r : ℕ) → (l.ring r).queue ≡ (k.ring r).queue) → (all : List Change) → TargetsAre h c k l all
    unfolding target
    targets_are c k l a queues [] = tt
    targets_are c k l a queues (change ∷ rest) =
        let m : Known = changed_by h c k change in
        let n : Known = changed_by h c l change in
        let here : TargetIs h k l change = (grind (arith, find, is_target, shape_of, spots_between, number, length, floor_number)) in
        (here, targets_are c m n (change_alike h P c k l a change here) (λ r. ((change_same h c l change).rings r).queue ∙ queues r ∙ sym ((change_same h c k change).rings r).queue) rest)

  pub command_same : (k l : Known) (p : ℕ) → (l.ring (command_id h)).queue ≡ (k.ring (command_id h)).queue → command_at h l p ≡ command_at h k p
  unfolding command_at
  command_same k l p queue = ap (λ x. option_and_then command_of (slice_get x p)) queue

  -- with the same queues and memory an event reads the same
  pub queues_alike : (P : ℕ → Type 0) (k l : Known) → Alike P k l → SameDriver k l → EventAlike h k l
  queues_alike P k l a d = record {
    started = d.started;
    stopped = d.stopped;
    reads = d.reads;
    room = let e = d.dequeue in omega arith;
    config = ap (λ x. register_or_zero x Config) d.register;
    names = λ b r t has below at. spot_same h k l b r (a.rings r).floor (d.rings r).queue ∙ at;
    command = record {
      command = λ c may at. command_same k l (next_command h k) (d.rings (command_id h)).queue ∙ at;
      does = λ n c may at. ap (λ x. changes h.context_size x n c) d.memory;
      targets = λ n c may at. targets_are P c k l a (λ r. (d.rings r).queue) (changes h.context_size k.memory n c);
    };
  }

  pub more_law : MoreLaw h
  more_law k m e keeps keeps_more more clean =
      let a : Alike EverySlot k m = search rules in
      let d : SameDriver k m = search rules in
      let read : ReadAlike h EverySlot k m e = read_alike h EverySlot k m a (queues_alike EverySlot k m a d) e clean in (
        read.possible,
        held_more (learned h k (Read e)) (learned h m (Read e)) (read_both k m e d) (states_from (learned h k (Read e)) (learned h m (Read e)) read.after)
            (λ r. (read.after.rings r).floor) (λ r. (read.after.rings r).held),
      )
