-- The writes of a descriptor, one after another, keep the rules of the ring
use Rattle.cycle_ring.proofs.LowerLaws.{rules, take, common_steps, ◌≡◌, ◌+◌, ◌-◌, ◌*◌, ◌<◌, ◌≤◌, ◌∷◌, ◌++◌, ◌∙◌, ℕ, suc, Bool, true, false, List, [], length, Some, Option, slice_get, is_some, arith, refl, sym, ap, subst, inl, inr, append_assoc, put, Block, word, Shape, IsShape, address_of, cycle_of, link_crossed, link_address, RingView, Writes, changed, RingKeeps, cases_option, is_crossing-from, writes_keeps, link_block, low_writes, block_writes, control_write, block_at_position, way_writes, later_writes, played, viewed, AllMayWrite, AllWithoutInterrupt, MayPut, Stage, low_word, later_control, link_low_word, link_control_word, no_way, link_cycle, leads_right, cycle_written, four_puts}

-- ---- lists of writes

-- each of these writes may be, and gives no Link that interrupts
abbrev pub AllMayPut : Shape → (ℕ → ℕ) → RingView → List (ℕ × ℕ) → Type 0
AllMayPut shape m v [] = Unit {0}
AllMayPut shape m v (x ∷ rest) = MayPut shape m v x.0 x.1 × AllMayPut shape (put m x.0 x.1) (changed shape v (Writes x.0 x.1)) rest

pub all_may_write : (shape : Shape) (m : ℕ → ℕ) (v : RingView) (writes : List (ℕ × ℕ)) → AllMayPut shape m v writes → AllMayWrite shape m v writes
all_may_write shape m v [] all = tt
all_may_write shape m v (x ∷ rest) all = (all.0.may, all_may_write shape (put m x.0 x.1) (changed shape v (Writes x.0 x.1)) rest all.1)

pub all_without_interrupt :
    (shape : Shape) (m : ℕ → ℕ) (v : RingView) (writes : List (ℕ × ℕ)) → AllMayPut shape m v writes → AllWithoutInterrupt shape m v writes
all_without_interrupt shape m v [] all = tt
all_without_interrupt shape m v (x ∷ rest) all =
    (all.0.without_interrupt, all_without_interrupt shape (put m x.0 x.1) (changed shape v (Writes x.0 x.1)) rest all.1)

pub all_append :
    (shape : Shape) (m : ℕ → ℕ) (v : RingView) (xs ys : List (ℕ × ℕ))
    → AllMayPut shape m v xs → AllMayPut shape (played m xs) (viewed shape v xs) ys → AllMayPut shape m v (xs ++ ys)
all_append shape m v [] ys first second = second
all_append shape m v (x ∷ rest) ys first second =
    (first.0, all_append shape (put m x.0 x.1) (changed shape v (Writes x.0 x.1)) rest ys first.1 second)

pub viewed_append : (shape : Shape) (v : RingView) (xs ys : List (ℕ × ℕ)) → viewed shape v (xs ++ ys) ≡ viewed shape (viewed shape v xs) ys
viewed_append shape v xs ys = grind (arith, common_steps)

pub played_append : (m : ℕ → ℕ) (xs ys : List (ℕ × ℕ)) → played m (xs ++ ys) ≡ played (played m xs) ys
played_append m xs ys = grind (arith, common_steps)

pub all_keep :
    (shape : Shape) (m : ℕ → ℕ) (v : RingView) (writes : List (ℕ × ℕ)) → RingKeeps shape m v → AllMayWrite shape m v writes
    → RingKeeps shape (played m writes) (viewed shape v writes)
all_keep shape m v [] k all = k
all_keep shape m v (x ∷ rest) k all =
    all_keep shape (put m x.0 x.1) (changed shape v (Writes x.0 x.1)) rest (writes_keeps shape m v x.0 x.1 k all.0) all.1

-- all these writes keep the rules, and behind them S holds of what is known
abbrev pub Run : Shape → (ℕ → ℕ) → RingView → List (ℕ × ℕ) → (RingView → Type 0) → Type 0
Run shape m v writes S = AllMayPut shape m v writes × S (viewed shape v writes)

module _ (shape : Shape) (is : IsShape shape) (first count : ℕ) (queue : List Block) (S : RingView → Type 0) where
  -- words 0 to 2 of a block at a, each of which keeps T
  low_run :
      (a : ℕ) (b : Block) (T : RingView → Type 0) (m : ℕ → ℕ) (v : RingView) (rest : List (ℕ × ℕ))
      → ((n : ℕ → ℕ) (u : RingView) → T u → (x k w : ℕ) → k < 3 → x ≡ a + 4 * k → MayPut shape n u x w × T (changed shape u (Writes x w)))
      → T v → (T (viewed shape v (low_writes a b)) → Run shape (played m (low_writes a b)) (viewed shape v (low_writes a b)) rest S)
      → Run shape m v (low_writes a b ++ rest) S
  low_run a b T m v rest step t then =
      let one = step m v t a 0 (word b 0) (omega arith) (omega arith) in
      let two = step (put m a (word b 0)) (changed shape v (Writes a (word b 0))) one.1 (a + 4) 1 (word b 1) (omega arith) refl in
      let three = step (played m (take 2 (low_writes a b))) (viewed shape v (take 2 (low_writes a b))) two.1 (a + 8) 2 (word b 2) (omega arith) refl in
      search (rules, then three.1)

  -- ---- a Link

  link_then :
      (i : ℕ) (chain : Bool) (next way : ℕ) (m : ℕ → ℕ) (v : RingView) (rest : List (ℕ × ℕ)) → link_crossed shape way ≡ Some i
      → first ≤ way → way < first + count → Stage shape first count queue next way v
      → ((n : ℕ → ℕ) (u : RingView) → Stage shape first count queue next (way + 1) u → Run shape n u rest S)
      → Run shape m v (block_writes (link_address shape way) (link_block shape i (cycle_of shape (way - 1)) chain) ++ rest) S
  link_then i chain next way m v rest crossed from within s then =
      let a = link_address shape way in
      let b = link_block shape i (cycle_of shape (way - 1)) chain in
      let crossing = is_crossing-from shape way i crossed in
      let m3 = played m (low_writes a b) in
      let v3 = viewed shape v (low_writes a b) in
      low_run a b (Stage shape first count queue next way) m v (control_write a b ++ rest)
      (λ n u t. link_low_word shape is first count queue next way n u t crossing from within) s (λ t.
      let four = link_control_word shape is first count queue next way m3 v3 t crossing from within (word b 3) (link_cycle shape is way i chain crossed)
      (leads_right shape is way i chain crossed m3 (a + 12) (word b 3) (four_puts m a (word b 0) (word b 1) (word b 2) (word b 3))) in
      search (rules, then (put m3 (a + 12) (word b 3)) (changed shape v3 (Writes (a + 12) (word b 3))) four.1, put, word, changed, Writes))

  way_then :
      (chain : Bool) (next way : ℕ) (m : ℕ → ℕ) (v : RingView) (rest : List (ℕ × ℕ)) → first ≤ way → way < first + count
      → Stage shape first count queue next way v
      → ((n : ℕ → ℕ) (u : RingView) → Stage shape first count queue next (way + 1) u → Run shape n u rest S)
      → Run shape m v (way_writes shape way chain ++ rest) S
  way_then chain next way m v rest from within s then =
      elim (cases_option (link_crossed shape way)) [
        | inl none ↦
            let empty : way_writes shape way chain ≡ [] = rw none refl in
            subst (λ ws. Run shape m v (ws ++ rest) S) (sym empty)
            (then m v (no_way shape is first count queue next way m v s (ap (λ (o : Option ℕ). is_some o) none)))
        | inr (i, some) ↦
            let is_link : way_writes shape way chain ≡ block_writes (link_address shape way) (link_block shape i (cycle_of shape (way - 1)) chain) = rw some refl in
            subst (λ ws. Run shape m v (ws ++ rest) S) (sym is_link) (link_then i chain next way m v rest some from within s then)
      ]

  -- ---- a block behind the first one

  block_then :
      (b : Block) (next way : ℕ) (m : ℕ → ℕ) (v : RingView) (rest : List (ℕ × ℕ)) → first < next → next < first + count → slice_get queue next ≡ Some b
      → Stage shape first count queue next way v
      → ((n : ℕ → ℕ) (u : RingView) → Stage shape first count queue (next + 1) way u → Run shape n u rest S)
      → Run shape m v (block_writes (address_of shape next) (block_at_position shape next b) ++ rest) S
  block_then d next way m v rest behind within at s then =
      let a = address_of shape next in
      let b = block_at_position shape next d in
      let m3 = played m (low_writes a b) in
      let v3 = viewed shape v (low_writes a b) in
      low_run a b (Stage shape first count queue next way) m v (control_write a b ++ rest)
      (λ n u t. low_word shape is first count queue next way n u t next (omega arith) within (inr (omega arith))) s (λ t.
      let four = later_control shape is first count queue next way m3 v3 t (word b 3) d behind within at (cycle_written shape next d)
      (four_puts m a (word b 0) (word b 1) (word b 2) (word b 3)) in
      search (rules, then (put m3 (a + 12) (word b 3)) (changed shape v3 (Writes (a + 12) (word b 3))) four.1, put, word, changed, Writes))

  -- ---- words 0 to 2 of the first block

  low_then :
      (d : Block) (next way : ℕ) (m : ℕ → ℕ) (v : RingView) (rest : List (ℕ × ℕ)) → 0 < count
      → Stage shape first count queue next way v
      → ((n : ℕ → ℕ) (u : RingView) → Stage shape first count queue next way u → Run shape n u rest S)
      → Run shape m v (low_writes (address_of shape first) (block_at_position shape first d) ++ rest) S
  low_then d next way m v rest some s then =
      low_run (address_of shape first) (block_at_position shape first d) (Stage shape first count queue next way) m v rest
      (λ n u t. low_word shape is first count queue next way n u t first (omega arith) (omega arith) (inl refl)) s (λ t. then _ _ t)

module _ (shape : Shape) (is : IsShape shape) (first count : ℕ) (queue : List Block) where
  -- what stands when all but the first block's control word is written
  abbrev pub Waits : RingView → Type 0
  Waits v = Stage shape first count queue (first + count) (first + count) v

  later_run :
      (p : ℕ) (blocks : List Block) (m : ℕ → ℕ) (v : RingView) → first < p → p + length blocks ≡ first + count
      → ((i : ℕ) (b : Block) → slice_get blocks i ≡ Some b → slice_get queue (p + i) ≡ Some b)
      → Stage shape first count queue p p v → Run shape m v (later_writes shape p blocks) Waits
  later_run p [] m v behind end queued s = (tt, subst (λ n. Stage shape first count queue n n v) (omega arith) s)
  later_run p (b ∷ rest) m v behind end queued s =
      let way = way_writes shape p true in
      let this = block_writes (address_of shape p) (block_at_position shape p b) in
      let later = later_writes shape (p + 1) rest in
      let zero_more : p + 0 ≡ p = omega arith in
      subst (λ ws. Run shape m v ws Waits) (sym (append_assoc way this later))
      (way_then shape is first count queue Waits true p p m v (this ++ later) (omega arith) (omega arith) s
      (λ n u t.
      block_then shape is first count queue Waits b p (p + 1) n u later behind (omega arith) (ap (λ k. slice_get queue k) (sym zero_more) ∙ queued 0 b refl) t
      (λ o x r.
      later_run (p + 1) rest o x (omega arith) (omega arith)
      (λ i c at. let moved : (p + 1) + i ≡ p + suc i = omega arith in ap (λ k. slice_get queue k) moved ∙ queued (suc i) c at) r)))

  -- all writes but the last
  pub front_run :
      (b : Block) (rest : List Block) (m : ℕ → ℕ) (v : RingView) → count ≡ suc (length rest)
      → ((i : ℕ) (c : Block) → slice_get (b ∷ rest) i ≡ Some c → slice_get queue (first + i) ≡ Some c)
      → Stage shape first count queue (first + 1) first v
      → Run shape m v (way_writes shape first false ++ low_writes (address_of shape first) (block_at_position shape first b) ++ later_writes shape (first + 1) rest) Waits
  front_run b rest m v counted queued s =
      let way = way_writes shape first false in
      let low = low_writes (address_of shape first) (block_at_position shape first b) in
      let later = later_writes shape (first + 1) rest in
      subst (λ ws. Run shape m v ws Waits) (sym (append_assoc way low later))
      (way_then shape is first count queue Waits false (first + 1) first m v (low ++ later) (omega arith) (omega arith) s
      (λ n u t.
      low_then shape is first count queue Waits b (first + 1) (first + 1) n u later (omega arith) t
      (λ o x r.
      later_run (first + 1) rest o x (omega arith) (omega arith)
      (λ i c at. let moved : (first + 1) + i ≡ first + suc i = omega arith in ap (λ k. slice_get queue k) moved ∙ queued (suc i) c at) r)))
