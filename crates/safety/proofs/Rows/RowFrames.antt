-- What each row of the driver leaves as it is
use Rattle.safety.proofs.LowerLaws.{runs_leave, seen, HaltState, false≢true, is_asked, is_done, ◌≡◌, ℕ, true, and_left, List, RegRead, register_read, status_read, refl, rules, Block, RingView, Writes, changed, Header, Register, Sub, Write, Reg, Bell, shape_of, command_id, Known, on_ring, with_device, with_word, written, valued, register_written, endpoint_rung, rung, learned, arith, Usbcmd, Erdp}
use Rattle.safety.proofs.Rows.SameDriver.{view_after}

-- how far a controller may be on a ring
pub record SamePointer (v w : RingView) : Type 0 where
  pub floor : w.floor ≡ v.floor
  pub held : w.held ≡ v.held

pub same_pointer : (v : RingView) → SamePointer v v
same_pointer v = record { floor = refl; held = refl }

pub record SameRegisters (k l : Known) : Type 0 where
  pub started : l.started ≡ k.started
  pub stopped : l.stopped ≡ k.stopped
  pub halt : l.halt ≡ k.halt
  pub register : l.register ≡ k.register
  pub reads : l.reads ≡ k.reads
  pub dequeue : l.dequeue ≡ k.dequeue

-- slots, and which ring an endpoint has
pub record SameSlots (k l : Known) : Type 0 where
  pub slot_state : l.slot_state ≡ k.slot_state
  pub ring_of : l.ring_of ≡ k.ring_of
  pub isochronous : l.isochronous ≡ k.isochronous
  pub was_bound : l.was_bound ≡ k.was_bound
  pub stop_seen : l.stop_seen ≡ k.stop_seen

pub record SameMemory (k l : Known) : Type 0 where
  pub memory : l.memory ≡ k.memory
  pub soiled : l.soiled ≡ k.soiled
  pub device : l.device ≡ k.device

pub record DeclarationLeaves (k l : Known) : Type 0 where
  pub registers : SameRegisters k l
  pub memory : SameMemory k l
  pub slots : SameSlots k l
  pub endpoint_state : l.endpoint_state ≡ k.endpoint_state
  pub pointers : (r : ℕ) → SamePointer (k.ring r) (l.ring r)

pub record WriteLeaves (k l : Known) : Type 0 where
  pub registers : SameRegisters k l
  pub slots : SameSlots k l
  pub endpoint_state : l.endpoint_state ≡ k.endpoint_state
  pub pointers : (r : ℕ) → SamePointer (k.ring r) (l.ring r)

pub record RegisterLeaves (k l : Known) : Type 0 where
  pub reads : l.reads ≡ k.reads
  pub memory : SameMemory k l
  pub slots : SameSlots k l
  pub endpoint_state : l.endpoint_state ≡ k.endpoint_state
  pub ring : l.ring ≡ k.ring

-- a register that is read tells at most that the controller has halted
pub record StatusLeaves (k l : Known) : Type 0 where
  pub started : l.started ≡ k.started
  pub stopped : l.stopped ≡ k.stopped
  pub halting : is_asked l.halt ≡ is_asked k.halt
  pub halted : is_done k.halt ≡ true → is_done l.halt ≡ true
  pub told : is_done l.halt ≡ true → is_asked k.halt ≡ true
  pub register : l.register ≡ k.register
  pub reads : l.reads ≡ k.reads
  pub dequeue : l.dequeue ≡ k.dequeue
  pub memory : SameMemory k l
  pub slots : SameSlots k l
  pub endpoint_state : l.endpoint_state ≡ k.endpoint_state
  pub must_move : l.must_move ≡ k.must_move
  pub ring : l.ring ≡ k.ring

pub record BellLeaves (k l : Known) : Type 0 where
  pub registers : SameRegisters k l
  pub memory : SameMemory k l
  pub slots : SameSlots k l

-- behind what USBSTS shows a controller that is to halt has halted
pub seen_asked : (a : HaltState) (x : ℕ) → is_asked a ≡ true → is_asked (seen a x) ≡ true
seen_asked a x asked = grind (arith, false≢true)

pub seen_done : (a : HaltState) (x : ℕ) → is_asked a ≡ true → is_done (seen a x) ≡ true
seen_done a x asked = grind (arith, false≢true)

module _ (h : Header) where
  pub declaration_leaves : (k : Known) (r : ℕ) (blocks : List Block) → DeclarationLeaves k (learned h k (Sub r blocks))
  unfolding learned on_ring
  declaration_leaves k r blocks = search (rules, view_after, same_pointer)

  pub write_leaves : (k : Known) (a w : ℕ) → WriteLeaves k (learned h k (Write a w))
  unfolding learned written with_word with_device
  write_leaves k a w = grind arith

  -- what it changes of a ring
  pub written_view : (k : Known) (a w r : ℕ) → (learned h k (Write a w)).ring r ≡ changed (shape_of h r) (k.ring r) (Writes a w)
  unfolding learned written with_device with_word
  written_view k a w r = grind arith

  pub register_leaves : (k : Known) (r : Register) (x : ℕ) → RegisterLeaves k (learned h k (Reg r x))
  unfolding learned register_written valued
  register_leaves k Usbcmd x = let same = runs_leave h (valued k Usbcmd x) x in (search rules)
  register_leaves k Erdp x = search rules
  register_leaves k r x = search rules

  pub bell_leaves : (k : Known) (s t : ℕ) → BellLeaves k (learned h k (Bell s t))
  unfolding learned rung on_ring endpoint_rung
  bell_leaves k s t = search (rules, on_ring, command_id, endpoint_rung, k.ring_of)

  pub status_leaves : (k : Known) (r : Register) (x : ℕ) → StatusLeaves k (learned h k (RegRead r x))
  unfolding learned register_read status_read
  status_leaves k o x = grind (arith, and_left)
