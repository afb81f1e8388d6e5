-- Behind a row no ring that went is looked at, and what lingers lingers still
use Rattle.safety.proofs.UpperLaws.{Crcr, erdp_address, on_ring, ◌≡◌, ◌==◌, ◌&&◌, ◌∙◌, if◌then◌else◌, ℕ, not, Bool, true, false, Option, Some, None, refl, sym, ap, subst, arith, cond_both, false≢true, none-some, same_Some, and_parts, put_off, Block, kind, Header, Row, Sub, Write, Reg, Bell, Read, RegRead, Register, Usbcmd, IsHeader, World, Known, learned, restored, ring_restored, restored_on, command_id, DriverKeeps, Runs, Left, Lists, declaration_leaves, write_leaves, status_leaves, event_same, learned_read, known_after, Erdp}
use Rattle.safety.proofs.RingChanges.Alike.{IsIdle}
use Rattle.safety.proofs.RingChanges.RunFacts as facts
use Rattle.world_state.specs.World as world
use Rattle.world_state.specs.DriverRows as driver

given : (b : Bool) (u v : World) → (if b then Some u else None) ≡ Some v → u ≡ v
given true u v at = same_Some u v at
given false u v at = absurd (none-some v at)

module _ (l : Left) (g d : Header) (lists : Lists l g d) (headed : IsHeader g) (k : Known) (keeps : DriverKeeps g k) (w : World) (run : Runs g k w) (rest : IsIdle l w) where
  same_idle : (v : World) → v.is_active ≡ w.is_active → IsIdle l v
  same_idle v same r went = ap (λ f. f r) same ∙ rest r went

  -- ---- a doorbell makes a ring active that lives

  activated_idle : (r : ℕ) → l.gone r ≡ false → IsIdle l (driver.activated g w r)
  unfolding driver.activated
  activated_idle r off q went = put_off w.is_active r true q (λ same. false≢true (sym off ∙ ap l.gone (sym same) ∙ went)) ∙ rest q went

  had : (s i r : ℕ) → w.ring_of s i ≡ Some r → l.gone r ≡ false
  had s i r at = let there = facts.had g headed k keeps w run s i r at in (lists.found r there.0 there.1).1

  command_lives : w.started ≡ true → w.halted ≡ false → l.gone (command_id g) ≡ false
  command_lives started on =
      let t = (facts.later_keeps g headed k keeps w run).run.named (facts.runs_named g headed k keeps w run started on) in
      (lists.found (command_id g) t.ring t.found).1

  endpoint_idle : (s t : ℕ) (o : Option ℕ) → w.ring_of s t ≡ o → IsIdle l (driver.endpoint_bell g w s t o)
  unfolding driver.endpoint_bell driver.activated
  endpoint_idle s t None at = rest
  endpoint_idle s t (Some r) at = cond_both _ _ w (IsIdle l) (λ _. activated_idle r (had s t r at)) (λ _. rest)

  bell_idle : (s t : ℕ) → w.halted ≡ false → IsIdle l (driver.bell_row g w s t)
  unfolding driver.bell_row
  bell_idle s t on =
      cond_both (s == 0) (if t == 0 && w.started then driver.activated g w (command_id g) else w) (driver.endpoint_bell g w s t (w.ring_of s t)) (IsIdle l)
      (λ _. cond_both (t == 0 && w.started) (driver.activated g w (command_id g)) w (IsIdle l) (λ both. activated_idle (command_id g) (command_lives ((and_parts (t == 0) w.started both).1) on)) (λ _. rest))
      (λ _. endpoint_idle s t (w.ring_of s t) refl)

  -- ---- a register makes none active

  off_still : (b c : Bool) → b ≡ false → (b && c) ≡ false
  off_still b c off = ap (λ x. x && c) off

  phase_active : (u : World) (x : ℕ) → (driver.run_or_stop g u x).is_active ≡ u.is_active
  unfolding driver.run_or_stop driver.runs_once driver.runs_again
  phase_active u x = grind arith

  dequeue_active : (u : World) (a : ℕ) → (driver.with_dequeue g u a).is_active ≡ u.is_active
  unfolding driver.with_dequeue
  dequeue_active u a = grind arith

  placed_off : (b : Bool) (u v : World) (r : ℕ) → u.is_active r ≡ false → v.is_active r ≡ false → (if b then u else v).is_active r ≡ false
  placed_off b u v r one other = grind arith

  register_idle : (r : Register) (x : ℕ) → IsIdle l (driver.register_row g w r x)
  unfolding driver.register_row driver.valued driver.with_command_ring driver.command_placed
  register_idle Usbcmd x q went = ap (λ f. f q) (phase_active (driver.valued w Usbcmd x) x) ∙ rest q went
  register_idle Crcr x q went = placed_off (w.started && not w.halted) _ _ q (rest q went) (off_still (w.is_active q) _ (rest q went))
  register_idle Erdp x q went = ap (λ f. f q) (dequeue_active (driver.valued w Erdp x) (erdp_address x)) ∙ rest q went
  register_idle r x q went = rest q went

  reset_idle : IsIdle l (driver.reset w)
  unfolding driver.reset
  reset_idle q went = refl

  pub row_idle : (row : Row) (v : World) → ((s t : ℕ) → row ≡ Bell s t → w.halted ≡ false) → driver.row_done g w row ≡ Some v → IsIdle l v
  unfolding driver.row_done driver.declared driver.event_read world.stored driver.shows
  row_idle (Sub r blocks) v bell at = subst (IsIdle l) (same_Some _ v at) rest
  row_idle (Write a x) v bell at = subst (IsIdle l) (same_Some _ v at) rest
  row_idle (Reg r x) v bell at = subst (IsIdle l) (same_Some _ v at) (cond_both (driver.resets w r x) (driver.reset w) (driver.register_row g w r x) (IsIdle l) (λ _. reset_idle) (λ _. register_idle r x))
  row_idle (Bell s t) v bell at = subst (IsIdle l) (same_Some _ v at) (bell_idle s t (bell s t refl))
  row_idle (Read e) v bell at = subst (IsIdle l) (given _ _ v at) rest
  row_idle (RegRead r x) v bell at = subst (IsIdle l) (given (driver.shows w r x) w v at) rest
  row_idle _ v bell at = subst (IsIdle l) (same_Some _ v at) rest

-- ---- rows that leave the registers, and the halt

module _ (h : Header) (k : Known) where
  restored_registers : (o : Option ℕ) → (restored_on h k o).register ≡ k.register
  unfolding restored_on on_ring
  restored_registers o = grind arith

  read_registers : (b : Block) → (learned h k (Read b)).register ≡ k.register
  read_registers b = ap (λ m. m.register) (learned_read h k b) ∙ (event_same h k (kind b) b).register

abbrev pub leaves : Row → Bool
leaves (Sub r blocks) = true
leaves (Write a x) = true
leaves (Read e) = true
leaves (RegRead r x) = true
leaves _ = false

pub registers_left : (h : Header) (k : Known) (row : Row) → leaves row ≡ true → (known_after h k row).register ≡ k.register
registers_left h k (Sub r blocks) of_these = (declaration_leaves h (restored h k (Sub r blocks)) r blocks).registers.register ∙ restored_registers h k (ring_restored h k (Sub r blocks))
registers_left h k (Write a x) of_these = (write_leaves h (restored h k (Write a x)) a x).registers.register ∙ restored_registers h k (ring_restored h k (Write a x))
registers_left h k (Read e) of_these = read_registers h (restored h k (Read e)) e ∙ restored_registers h k (ring_restored h k (Read e))
registers_left h k (RegRead r x) of_these = (status_leaves h (restored h k (RegRead r x)) r x).register ∙ restored_registers h k (ring_restored h k (RegRead r x))
registers_left h k (Reg r x) of_these = absurd (false≢true of_these)
registers_left h k (Bell s t) of_these = absurd (false≢true of_these)
registers_left h k row of_these = absurd (false≢true of_these)

pub halted_left : (h : Header) (w v : World) (row : Row) → leaves row ≡ true → driver.row_done h w row ≡ Some v → v.halted ≡ w.halted
unfolding driver.row_done driver.declared driver.event_read world.stored driver.shows
halted_left h w v (Sub r blocks) of_these at = ap (λ u. u.halted) (sym (same_Some _ v at))
halted_left h w v (Write a x) of_these at = ap (λ u. u.halted) (sym (same_Some _ v at))
halted_left h w v (Read e) of_these at = ap (λ u. u.halted) (sym (given _ _ v at))
halted_left h w v (RegRead r x) of_these at = ap (λ u. u.halted) (sym (given (driver.shows w r x) w v at))
halted_left h w v (Reg r x) of_these at = absurd (false≢true of_these)
halted_left h w v (Bell s t) of_these at = absurd (false≢true of_these)
halted_left h w v row of_these at = absurd (false≢true of_these)
