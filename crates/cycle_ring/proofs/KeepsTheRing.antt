-- What a producer enqueues keeps the rules of its ring
use Rattle.cycle_ring.proofs.LowerLaws.{zero, rules, ◌≡◌, ◌+◌, ◌<◌, ◌≤◌, ◌==◌, ◌∷◌, ◌++◌, ◌∙◌, ℕ, suc, Bool, true, false, List, [], length, sum, nat_lt, All, Some, slice_get, arith, refl, sym, ap, subst, inl, length-append, eq-eqb, ne_eqb, ltb-true, lt-ltb, cond-true, cond-false, and_parts, and_from, or_left, All-head, All-tail, sum_by-cons, put, Block, block_at, word, Shape, IsShape, place_count, address_of, is_crossing, RingView, Declares, Writes, changed, declared, floor_number, gives_crossing, length_from, descriptor_length, RingKeeps, MayDeclare, declares_keeps, Progress, IsAllowed, low_writes, control_write, block_at_position, way_writes, later_writes, writes_of, played, IsEnqueuedSo, viewed, KeepsTheRing, KeepTheRing, may_be_declared, cycle_written, Stage, first_control, first_given, first_given_only, first_crossed_only}
use Rattle.cycle_ring.proofs.DescriptorStands.{blocks_stand}
use Rattle.cycle_ring.proofs.Runs.{all_may_write, all_without_interrupt, all_append, viewed_append, played_append, all_keep, front_run}

-- two tests of which each gives the other
same_test : (x y : Bool) → (x ≡ true → y ≡ true) → (y ≡ true → x ≡ true) → x ≡ y
same_test x y f g = search rules

-- what is declared last stands behind what was
slice_get-behind : (xs ys : List Block) (i : ℕ) → slice_get (xs ++ ys) (length xs + i) ≡ slice_get ys i
slice_get-behind [] ys i = let none : 0 + i ≡ i = omega arith in ap (λ k. slice_get ys k) none
slice_get-behind (x ∷ xs) ys i = search (rules, length, slice_get, slice_get-behind xs ys i)

-- the length of the descriptor that is declared last, and of none inside it
length_from-last : (lengths : List ℕ) (n start : ℕ) → All (λ k. 0 < k) lengths → length_from (lengths ++ n ∷ []) start (start + sum lengths) ≡ n
unfolding length_from
length_from-last [] n start some = cond-true (start == start + sum []) n 0 (eq-eqb start (start + sum []) (omega arith))
length_from-last (k ∷ rest) n start some =
    let here : 0 < k = All-head (λ j. 0 < j) k rest some in
    let more : sum (k ∷ rest) ≡ k + sum rest = sum_by-cons (λ x. x) k rest in
    grind (arith, sum, cond-false, ne_eqb, All-tail, length_from-last rest n (start + k) (All-tail (λ j. 0 < j) k rest some))

length_from-inside : (lengths : List ℕ) (n start p : ℕ) → start + sum lengths < p → length_from (lengths ++ n ∷ []) start p ≡ 0
unfolding length_from
length_from-inside [] n start p behind = cond-false (start == p) n 0 (ne_eqb start p (λ e. absurd (omega arith)))
length_from-inside (k ∷ rest) n start p behind =
    let more : sum (k ∷ rest) ≡ k + sum rest = sum_by-cons (λ x. x) k rest in
    cond-false (start == p) k _ (ne_eqb start p (λ e. absurd (omega arith))) ∙ length_from-inside rest n (start + k) p (omega arith)

-- once the descriptor is declared none of its words is written
begun :
    (p : Progress) (blocks : List Block) (memory : ℕ → ℕ) (v : RingView) → IsShape p.shape → RingKeeps p.shape memory v → IsEnqueuedSo p v → MayDeclare p.shape v blocks
    → Stage p.shape p.enqueued (length blocks) (v.queue ++ blocks) (p.enqueued + 1) p.enqueued (changed p.shape v (Declares blocks))
unfolding descriptor_length
begun p blocks memory v is k so may =
    let counted : length (v.queue ++ blocks) ≡ length v.queue + length blocks = length-append v.queue blocks in
    let after = declares_keeps p.shape is memory v blocks k may in
    let before : sum v.lengths ≡ p.enqueued = k.descriptors ∙ so.declared in
    let whole : 0 + sum v.lengths ≡ p.enqueued = omega arith in
    let low : floor_number v ≤ declared v = floor_below (floor_number v) (declared v) (λ n below. k.given_declared n (k.passed n below)) in
    record {
      low = omega (arith, low, so.declared);
      room = omega (arith, after.room, counted, so.declared);
      all = omega (arith, counted, so.declared);
      queue_is = refl;
      begins = ap (λ n. length_from (v.lengths ++ length blocks ∷ []) 0 n) (sym whole) ∙ length_from-last v.lengths (length blocks) 0 k.lengths;
      inner = λ n behind. length_from-inside v.lengths (length blocks) 0 n (omega arith);
      given_only = λ n g. inl (ltb-true n p.enqueued (sym (so.given n) ∙ g));
      given = λ n below. so.given n ∙ lt-ltb n p.enqueued below;
      given_later = λ n above below. absurd (omega arith);
      crossed_only = λ q g. let parts = and_parts (is_crossing p.shape q) (nat_lt q p.enqueued) (sym (so.crossed q) ∙ g) in (parts.0, ltb-true q p.enqueued parts.1);
      crossed = λ q crossing below. so.crossed q ∙ and_from (is_crossing p.shape q) (nat_lt q p.enqueued) crossing (lt-ltb q p.enqueued below);
      restored = so.restored;
    }
  where
    floor_below : (f d : ℕ) → ((n : ℕ) → n < f → n < d) → f ≤ d
    floor_below zero d each = omega arith
    floor_below (suc f) d each = let last = each f (omega arith) in omega arith

keeps_with :
    (p : Progress) (b : Block) (rest : List Block) (memory : ℕ → ℕ) (v : RingView) → IsShape p.shape → length (b ∷ rest) < place_count p.shape
    → RingKeeps p.shape memory v → IsEnqueuedSo p v → MayDeclare p.shape v (b ∷ rest)
    → KeepsTheRing p (b ∷ rest) (writes_of p.shape p.enqueued (b ∷ rest)) memory v
keeps_with p b rest memory v is fewer k so allowed =
    let shape = p.shape in
    let first = p.enqueued in
    let count = length (b ∷ rest) in
    let queue = v.queue ++ b ∷ rest in
    let a = address_of shape first in
    let head = block_at_position shape first b in
    let front = way_writes shape first false ++ low_writes a head ++ later_writes shape (first + 1) rest in
    let last = control_write a head in
    let v1 = changed shape v (Declares (b ∷ rest)) in
    let some : 0 < count = omega arith in
    let queued : (i : ℕ) (c : Block) → slice_get (b ∷ rest) i ≡ Some c → slice_get queue (first + i) ≡ Some c = search (rules, slice_get, slice_get-behind) in
    let first_queued : slice_get queue first ≡ Some b = let none : first ≡ first + 0 = omega arith in ap (λ n. slice_get queue n) none ∙ queued 0 b refl in
    let run = front_run shape is first count queue b rest memory v1 refl queued (begun p (b ∷ rest) memory v is k so allowed) in
    let m2 = played memory front in
    let v2 = viewed shape v1 front in
    let s : Stage shape first count queue (first + count) (first + count) v2 = run.1 in
    let same_memory : played memory (front ++ last) ≡ put m2 (a + 12) (word head 3) = played_append memory front last in
    let here : first + 0 ≡ first = omega arith in
    let stands : block_at (put m2 (a + 12) (word head 3)) a ≡ head =
    ap (λ (m : ℕ → ℕ). block_at m a) (sym same_memory) ∙ subst (λ n. block_at (played memory (front ++ last)) (address_of shape n) ≡ block_at_position shape n b) here
    (blocks_stand shape is first (b ∷ rest) fewer memory 0 b refl) in
    let control = first_control shape is first count queue (first + count) (first + count) m2 v2 s (word head 3) b refl refl some first_queued stands in
    let all = all_append shape memory v1 front last run.0 (control, tt) in
    let may = all_may_write shape memory v1 (front ++ last) all in
    let seen : changed shape v2 (Writes (a + 12) (word head 3)) ≡ viewed shape v1 (front ++ last) = sym (viewed_append shape v1 front last) in
    let cycle = cycle_written shape first b in
    let floor_kept = floor_stays shape v1 front in
    record {
      may_write = may;
      without_interrupt = all_without_interrupt shape memory v1 (front ++ last) all;
      keeps = all_keep shape memory v1 (front ++ last) (declares_keeps shape is memory v (b ∷ rest) k allowed) may;
      enqueued = subst (λ (u : RingView). IsEnqueuedSo (record p { enqueued = first + count }) u) seen (record {
        declared = s.all;
        given = search (rules, same_test, lt-ltb, first_given_only, first_given, ltb-true);
        crossed = λ q. same_test _ _
            (λ g.
            let only = first_crossed_only shape is first count queue (first + count) (first + count) m2 v2 s (word head 3) q some (omega arith) g in
            and_from (is_crossing shape q) (nat_lt q (first + count)) only.0 (lt-ltb q (first + count) only.1))
            (λ h.
            let parts = and_parts (is_crossing shape q) (nat_lt q (first + count)) h in
            or_left (v2.crossed q) (gives_crossing shape v2.floor q (a + 12) (word head 3)) (s.crossed q parts.0 (ltb-true q (first + count) parts.1)));
        restored = s.restored;
        passed = subst (λ n. p.retired ≤ n) (sym floor_kept) so.passed;
      });
    }
  where
    floor_stays : (shape : Shape) (u : RingView) (writes : List (ℕ × ℕ)) → floor_number (viewed shape u writes) ≡ floor_number u
    floor_stays shape u [] = refl
    floor_stays shape u (x ∷ more) = floor_stays shape (changed shape u (Writes x.0 x.1)) more

pub keep_the_ring :
    (p : Progress) (blocks : List Block) → IsShape p.shape → p.retired ≤ p.enqueued → length blocks < place_count p.shape → IsAllowed p blocks
    → KeepTheRing p blocks (writes_of p.shape p.enqueued blocks)
keep_the_ring p [] is in_order fewer allowed memory v k so = let may = may_be_declared p [] is in_order allowed v so in absurd (omega (arith, may.some))
keep_the_ring p (b ∷ rest) is in_order fewer allowed memory v k so = search (rules, keeps_with, may_be_declared)
