-- What ERSTSZ says is kept by each row
use Rattle.safety.proofs.MiddleLaws.{◌≡◌, ◌<◌, ◌∙◌, ℕ, true, false, Option, is_some, is_none, arith, sym, ap, inl, inr, false≢true, Block, kind, Header, Register, Erstsz, Sub, Write, Reg, Bell, Read, IsHeader, event_ring, event_size, with_register, Known, learned, is_bad_register, KeptByRows, lenient, Row, [], event_ring_size, event_same, declaration_leaves, write_leaves, bell_leaves, register_facts, Starts, written_stays, registered, register_starts, starts_written, RegRead, status_leaves, is_value}

module _ (h : Header) where
  read_leaves : (k : Known) (b : Block) → ((learned h k (Read b)).register ≡ k.register) × ((learned h k (Read b)).started ≡ k.started)
  unfolding learned
  read_leaves k b = let same = event_same h k (kind b) b in (same.register, same.started)

  module _ (is : IsHeader h) where
    -- a value that is restored was written
    value_written : (o : Option ℕ) (v : ℕ) → is_value v o ≡ true → is_some o ≡ true
    value_written o v is = grind (arith, false≢true)

    sized_by : (k : Known) (r : Register) (v : ℕ) → (is_some (k.register Erstsz) ≡ true → 0 < event_size h) → is_bad_register h k r v ≡ false →
        is_some (with_register k.register r v Erstsz) ≡ true → 0 < event_size h
    unfolding is_bad_register
    sized_by k Erstsz v sized good at = (grind (arith, false≢true, event_ring_size, event_ring, k.started, is_none, value_written))
    sized_by k r v sized good at = sized at

  same_written : (k l : Known) (q : Register) → l.register ≡ k.register → is_some (k.register q) ≡ true → is_some (l.register q) ≡ true
  same_written k l q same written = ap (λ f. is_some (f q)) same ∙ written

  register_written_before : (k : Known) (r : Register) (x : ℕ) (q : Register) → is_some (k.register q) ≡ true → is_some ((learned h k (Reg r x)).register q) ≡ true
  register_written_before k r x q written = ap (λ f. is_some (f q)) (registered h k r x) ∙ written_stays k.register r x q written

  -- a register that has to be written before the start stays written
  kept_written : (q : Register) → ((k : Known) (r : Register) (v : ℕ) → is_bad_register h k r v ≡ false → Starts h k r v → is_some (k.register q) ≡ true) →
      (k : Known) (row : Row) → (k.started ≡ true → is_some (k.register q) ≡ true) → lenient h k row ≡ [] → (learned h k row).started ≡ true → is_some ((learned h k row).register q) ≡ true
  unfolding learned
  kept_written q starts k (Sub r blocks) before clean started =
      let same = (declaration_leaves h k r blocks).registers in same_written k (learned h k (Sub r blocks)) q same.register (before (sym same.started ∙ started))
  kept_written q starts k (Write a w) before clean started =
      let same = (write_leaves h k a w).registers in same_written k (learned h k (Write a w)) q same.register (before (sym same.started ∙ started))
  kept_written q starts k (Reg r x) before clean started =
      register_written_before k r x q
      (elim (register_starts h k r x started) [
        | inl already ↦ before already
        | inr now ↦ starts k r x (register_facts h k r x clean).good now
      ])
  kept_written q starts k (Bell s t) before clean started =
      let same = (bell_leaves h k s t).registers in same_written k (learned h k (Bell s t)) q same.register (before (sym same.started ∙ started))
  kept_written q starts k (Read b) before clean started =
      let same = read_leaves k b in same_written k (learned h k (Read b)) q same.0 (before (sym same.1 ∙ started))
  kept_written q starts k (RegRead r x) before clean started =
      let same = status_leaves h k r x in same_written k (learned h k (RegRead r x)) q same.register (before (sym same.started ∙ started))
  kept_written q starts k row before clean started = before started

  pub kept_erstsz_written : KeptByRows h (λ k. k.started ≡ true → is_some (k.register Erstsz) ≡ true)
  kept_erstsz_written is k row d clean on = kept_written Erstsz (λ k r v good s. (starts_written h k r v good s).1) k row d.erstsz_written clean

  -- ERSTSZ is that of an event ring
  pub kept_sized : KeptByRows h (λ k. is_some (k.register Erstsz) ≡ true → 0 < event_size h)
  unfolding learned
  kept_sized is k (Sub r blocks) d clean on at = d.sized (ap (λ f. is_some (f Erstsz)) (sym (declaration_leaves h k r blocks).registers.register) ∙ at)
  kept_sized is k (Write a w) d clean on at = d.sized (ap (λ f. is_some (f Erstsz)) (sym (write_leaves h k a w).registers.register) ∙ at)
  kept_sized is k (Reg r x) d clean on at = sized_by is k r x d.sized (register_facts h k r x clean).good (ap (λ f. is_some (f Erstsz)) (sym (registered h k r x)) ∙ at)
  kept_sized is k (Bell s t) d clean on at = d.sized (ap (λ f. is_some (f Erstsz)) (sym (bell_leaves h k s t).registers.register) ∙ at)
  kept_sized is k (Read b) d clean on at = d.sized (ap (λ f. is_some (f Erstsz)) (sym (read_leaves k b).0) ∙ at)
  kept_sized is k (RegRead r x) d clean on at = d.sized (ap (λ f. is_some (f Erstsz)) (sym (status_leaves h k r x).register) ∙ at)
  kept_sized is k row d clean on at = d.sized at
