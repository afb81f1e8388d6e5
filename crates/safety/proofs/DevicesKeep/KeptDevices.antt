-- What is kept of device contexts under lease is kept by each row
use Rattle.safety.proofs.MiddleLaws.{◌≡◌, ◌∙◌, ℕ, true, false, Some, sym, ap, subst, inl, inr, cases_Bool, false≢true, none-some, Block, BlockKind, TransferEvent, CommandCompletion, kind, Header, Register, Dcbaap, Erstba, Sub, Write, Reg, Bell, Read, IsHeader, with_register, Known, event_read, learned, completed, is_impossible_by_kind, is_bad_register, DriverKeeps, DevicesKeep, KeptByRows, rules, arith, learned_read, with_reads, EventFacts, event_facts, register_facts, registered, SameDriver, completion_same, transfer_slots, devices_same, SameRegisters, SameMemory, declaration_leaves, register_leaves, bell_leaves, RegRead, status_leaves, refl, Option, not, ◌&&◌, is_value, is_restored, eqb-true}
use Rattle.safety.proofs.Rows.SameDriver.{transfer_same}
use Rattle.safety.proofs.CommandsKeep.CommandsCompleted.{completion_devices}
use Rattle.safety.proofs.DevicesKeep.DevicesWritten.{written_devices}

module _ (h : Header) where
  -- ---- registers: once a device context is taken the base addresses stand

  -- a value that is restored is the one that stands
  value_stands : (o : Option ℕ) (x : ℕ) → is_value x o ≡ true → Some x ≡ o
  value_stands o x is = grind (arith, eqb-true)

  restored_value : (k : Known) (r : Register) (x : ℕ) → k.started ≡ true → (k.started && not (is_restored k r x)) ≡ false → is_value x (k.register r) ≡ true
  restored_value k r x on good = grind (arith, false≢true)

  base_stands : (k : Known) (r : Register) (x : ℕ) → k.started ≡ true → is_bad_register h k r x ≡ false →
      (with_register k.register r x Dcbaap ≡ k.register Dcbaap) × (with_register k.register r x Erstba ≡ k.register Erstba)
  unfolding is_bad_register
  base_stands k Dcbaap x on good = (value_stands (k.register Dcbaap) x (restored_value k Dcbaap x on good), refl)
  base_stands k Erstba x on good = (refl, value_stands (k.register Erstba) x (grind (arith, is_value)))
  base_stands k o x on good = (refl, refl)

  register_devices : (k : Known) (r : Register) (x : ℕ) → DriverKeeps h k → is_bad_register h k r x ≡ false → DevicesKeep h (learned h k (Reg r x))
  register_devices k r x d good s c at =
      let leaves = register_leaves h k r x in
      elim (cases_Bool k.started) [
        | inl on ↦
            let base = base_stands k r x on good in
            devices_same h k (learned h k (Reg r x))
            (search (rules, registered)) d.devices s c at
        | inr off ↦ absurd (none-some c (sym (d.states.no_device s ((d.unstarted off).slots s)) ∙ (ap (λ f. f s) (sym leaves.memory.device) ∙ at)))
      ]

  -- ---- events

  event_devices : (k l : Known) → SameDriver k l → ((t c : ℕ) → l.device t ≡ Some c → k.device t ≡ Some c) → DevicesKeep h k → DevicesKeep h l
  event_devices k l driver fewer =
      devices_same h k l
      (record { memory = driver.memory; soiled = driver.soiled; dcbaap = ap (λ f. f Dcbaap) driver.register; erstba = ap (λ f. f Erstba) driver.register; fewer = fewer })

  kind_devices : IsHeader h → (k : Known) (b : Block) (n : BlockKind) → DriverKeeps h k → k.started ≡ true → is_impossible_by_kind h k n b ≡ false → DevicesKeep h (event_read h k n b)
  unfolding event_read is_impossible_by_kind
  kind_devices is k b TransferEvent d on possible =
      event_devices k _ (transfer_same h k b) (λ t c at. ap (λ f. f t) (sym (transfer_slots h k b).device) ∙ at) d.devices
  kind_devices is k b CommandCompletion d on possible = event_devices k (completed h k b) (completion_same h k b) (completion_devices h is k d b on possible) d.devices
  kind_devices is k b _ d on possible = d.devices

  reads_devices : (k : Known) (n : ℕ) → DevicesKeep h k → DevicesKeep h (with_reads k n)
  reads_devices k n keeps = search (rules, devices_same)

  -- ---- any row

  same_devices : (k l : Known) → SameRegisters k l → SameMemory k l → DevicesKeep h k → DevicesKeep h l
  same_devices k l registers memory keeps =
      devices_same h k l
      (search rules) keeps

  pub kept_devices : KeptByRows h (DevicesKeep h)
  unfolding learned
  kept_devices is k (Sub r blocks) d clean on = let leaves = declaration_leaves h k r blocks in same_devices k (learned h k (Sub r blocks)) leaves.registers leaves.memory d.devices
  kept_devices is k (Write a w) d clean on = written_devices h is k d a w clean
  kept_devices is k (Reg r x) d clean on = register_devices k r x d (register_facts h k r x clean).good
  kept_devices is k (Bell s t) d clean on = let leaves = bell_leaves h k s t in same_devices k (learned h k (Bell s t)) leaves.registers leaves.memory d.devices
  kept_devices is k (Read b) d clean on =
      let facts : EventFacts h k b = event_facts h k b clean in
      subst (DevicesKeep h) (sym (learned_read h k b))
      (reads_devices (event_read h k (kind b) b) _ (kind_devices is k b (kind b) d facts.started facts.possible))
  kept_devices is k (RegRead r x) d clean on =
      let leaves = status_leaves h k r x in
      devices_same h k (learned h k (RegRead r x))
      (record {
        memory = leaves.memory.memory;
        soiled = leaves.memory.soiled;
        dcbaap = ap (λ f. f Dcbaap) leaves.register;
        erstba = ap (λ f. f Erstba) leaves.register;
        fewer = λ t c at. ap (λ f. f t) (sym leaves.memory.device) ∙ at;
      }) d.devices
  kept_devices is k row d clean on = d.devices
