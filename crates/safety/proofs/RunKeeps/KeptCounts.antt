-- How many events were read and where ERDP stands, behind each row
use Rattle.safety.proofs.MiddleLaws.{◌≡◌, ◌+◌, ◌-◌, ◌<◌, ◌≤◌, ◌∙◌, ℕ, false, arith, refl, sym, ltb-false, rules, cond_both, cond-false, false≢true, Block, kind, shape_facts, place_count, Header, Register, Sub, Write, Reg, Bell, Read, event_shape, event_size, Known, run_or_stop, valued, register_written, learned, may_pass, is_bad_erdp, is_past_room, Unstarted, KeptByRows, event_ring_is, erdp_within, event_same, SameSlots, declaration_leaves, write_leaves, register_leaves, bell_leaves, register_facts, bell_facts, event_facts, runs_again, runs_once, RegRead, status_leaves}

module _ (h : Header) where
  -- ---- a register write

  -- the pointer goes on, no further than what may be passed
  pub record Dequeues (k l : Known) : Type 0 where
    pub from : k.dequeue ≤ l.dequeue
    pub to : l.dequeue ≤ k.dequeue + may_pass k
    pub before : l.started ≡ false → k.started ≡ false

  pub dequeues : (k : Known) (r : Register) (x : ℕ) → is_bad_erdp h k r x ≡ false → Dequeues k (learned h k (Reg r x))
  unfolding learned register_written valued run_or_stop runs_once runs_again
  dequeues k r x good = grind (arith, false≢true, erdp_within)

  pub passable : (k : Known) → k.dequeue ≤ k.reads → k.dequeue + may_pass k ≤ k.reads
  unfolding may_pass
  passable k low =
      cond_both k.started (k.reads - k.dequeue) 0 (λ n. k.dequeue + n ≤ k.reads) (λ _. omega arith) (λ _. omega arith)

  -- ---- an event

  pub read_counts : (k : Known) (b : Block) → ((learned h k (Read b)).reads ≡ k.reads + 1) × ((learned h k (Read b)).dequeue ≡ k.dequeue) × ((learned h k (Read b)).started ≡ k.started)
  unfolding learned
  read_counts k b = let same = event_same h k (kind b) b in (refl, same.dequeue, same.started)

  room_is : (k : Known) → is_past_room h k ≡ false → k.reads - k.dequeue ≤ event_size h - 2
  unfolding is_past_room
  room_is k room = ltb-false (event_size h - 2) (k.reads - k.dequeue) room

  size_is : event_size h ≡ place_count (event_shape h)
  unfolding event_size
  size_is = refl

  -- ERDP names no event that wasn't read
  pub kept_dequeued : KeptByRows h (λ k. k.dequeue ≤ k.reads)
  unfolding learned
  kept_dequeued is k (Sub r blocks) d clean on = let same = (declaration_leaves h k r blocks).registers in omega (arith, d.dequeued, same.dequeue, same.reads)
  kept_dequeued is k (Write a w) d clean on = let same = (write_leaves h k a w).registers in omega (arith, d.dequeued, same.dequeue, same.reads)
  kept_dequeued is k (Reg r x) d clean on =
      omega (arith, (dequeues k r x (register_facts h k r x clean).erdp).to, passable k d.dequeued, (register_leaves h k r x).reads)
  kept_dequeued is k (Bell s t) d clean on = let same = (bell_leaves h k s t).registers in omega (arith, d.dequeued, same.dequeue, same.reads)
  kept_dequeued is k (Read b) d clean on = let same = read_counts k b in omega (arith, d.dequeued, same.0, same.1)
  kept_dequeued is k (RegRead r x) d clean on = let same = status_leaves h k r x in omega (arith, d.dequeued, same.dequeue, same.reads)
  kept_dequeued is k row d clean on = d.dequeued

  -- the events read lie within the ring from there
  pub kept_read_room : KeptByRows h (λ k. 0 < k.reads → k.reads + 1 ≤ k.dequeue + event_size h)
  unfolding learned
  kept_read_room is k (Sub r blocks) d clean on = let same = (declaration_leaves h k r blocks).registers in λ some. omega (arith, d.read_room (omega (arith, same.reads)), same.dequeue, same.reads)
  kept_read_room is k (Write a w) d clean on = let same = (write_leaves h k a w).registers in λ some. omega (arith, d.read_room (omega (arith, same.reads)), same.dequeue, same.reads)
  kept_read_room is k (Reg r x) d clean on =
      let moves = dequeues k r x (register_facts h k r x clean).erdp in
      let same = register_leaves h k r x in
      λ some. omega (arith, d.read_room (omega (arith, same.reads)), moves.from, same.reads)
  kept_read_room is k (Bell s t) d clean on = let same = (bell_leaves h k s t).registers in λ some. omega (arith, d.read_room (omega (arith, same.reads)), same.dequeue, same.reads)
  kept_read_room is k (Read b) d clean on =
      let same = read_counts k b in
      let facts = event_facts h k b clean in
      let some : 0 < event_size h = d.sized (d.erstsz_written facts.started) in
      let several = (shape_facts (event_shape h) (event_ring_is h is some).is).several in
      λ _. omega (arith, room_is k facts.room, d.dequeued, same.0, same.1, size_is)
  kept_read_room is k (RegRead r x) d clean on = let same = status_leaves h k r x in λ some. omega (arith, d.read_room (omega (arith, same.reads)), same.dequeue, same.reads)
  kept_read_room is k row d clean on = d.read_room

  -- ---- before the start

  unstarted_still : (k l : Known) → l.reads ≡ k.reads → l.dequeue ≡ k.dequeue → SameSlots k l → Unstarted h k → Unstarted h l
  unstarted_still k l reads dequeue slots u = search rules

  none_passed : (k : Known) → k.started ≡ false → may_pass k ≡ 0
  unfolding may_pass
  none_passed k waits = cond-false k.started (k.reads - k.dequeue) 0 waits

  pub kept_unstarted : KeptByRows h (λ k. k.started ≡ false → Unstarted h k)
  unfolding learned
  kept_unstarted is k (Sub r blocks) d clean on before =
      let same = declaration_leaves h k r blocks in
      unstarted_still k (learned h k (Sub r blocks)) same.registers.reads same.registers.dequeue same.slots (d.unstarted (sym same.registers.started ∙ before))
  kept_unstarted is k (Write a w) d clean on before =
      let same = write_leaves h k a w in
      unstarted_still k (learned h k (Write a w)) same.registers.reads same.registers.dequeue same.slots (d.unstarted (sym same.registers.started ∙ before))
  kept_unstarted is k (Reg r x) d clean on before =
      let same = register_leaves h k r x in
      let moves = dequeues k r x (register_facts h k r x clean).erdp in
      let waits : k.started ≡ false = moves.before before in
      unstarted_still k (learned h k (Reg r x)) same.reads (omega (arith, moves.from, moves.to, none_passed k waits)) same.slots (d.unstarted waits)
  kept_unstarted is k (Bell s t) d clean on before =
      absurd (false≢true (sym before ∙ (bell_leaves h k s t).registers.started ∙ (bell_facts h k s t clean).started))
  kept_unstarted is k (Read b) d clean on before =
      absurd (false≢true (sym before ∙ (read_counts k b).2 ∙ (event_facts h k b clean).started))
  kept_unstarted is k (RegRead r x) d clean on before =
      let same = status_leaves h k r x in unstarted_still k (learned h k (RegRead r x)) same.reads same.dequeue same.slots (d.unstarted (sym same.started ∙ before))
  kept_unstarted is k row d clean on before = d.unstarted before
