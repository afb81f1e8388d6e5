-- The rows of a trace, checked and noted one by one
use Rattle.replayer.proofs.Words.{◌≡◌, ℕ, ◌+◌, ◌<◌, ◌≤◌, List, [], ◌∷◌, ◌++◌, Some, ap, sym, ◌∙◌, arith, length, get_or, subst, Result, All, OnOk, map, reverse, take, drop, drop_all, take_all, append-nil, append_assoc, common_steps, most_lines, most_streamed_lines, Header, Row, Known, nothing, Refusal, IsKept, header_now, known_after, known_now, restored_on, ring_restored, DriverKeeps, IsTransferRing, TraceRecord, FollowsTrace, AreClean, IsLeastOfRow, IsRingPassed, trace_verdict, RingPass, kept_now, row_refused, kept_on, Note, Next, any_notes, notes, floor_note, row_notes, AreNoted, MayBeRead, is_ring_row, header_driven, false, false≢true}

pub on_any : {X E P : Type 0} (r : Result X E) → P → OnOk r P
on_any r p = grind arith

-- the notes of a row by which no ring comes or goes are those of what the driver did or read
pub any_driven : (h : Header) (k : Known) (row : Row) → is_ring_row row ≡ false → any_notes h k row ≡ row_notes h k row
unfolding any_notes
any_driven h k row driven = grind (arith, false≢true)

left : (rows : List Row) (i : ℕ) (d : Row) → i < length rows → drop i rows ≡ get_or rows i d ∷ drop (i + 1) rows
left rows i d h = grind (arith, common_steps, h)

more_taken : (rows : List Row) (i : ℕ) (d : Row) → i < length rows → reverse (take (i + 1) rows) ≡ get_or rows i d ∷ reverse (take i rows)
more_taken rows i d h = grind (arith, common_steps, h)

all_again : (rows : List Row) (i : ℕ) → reverse (reverse (take i rows)) ++ drop i rows ≡ rows
all_again rows i = grind (arith, common_steps)

so_many : (rows : List Row) (i : ℕ) → i ≤ length rows → length (reverse (take i rows)) ≡ i
so_many rows i h = grind (arith, common_steps, h)

-- so many rows were noted
pub record IsNoted {B M : Type 0} (words : M → ℕ → ℕ) (h : Header) (rows : List Row) (first done number : ℕ) (pass : RingPass B M) (list : List Note) : Type 0 where
  pub numbered : number ≡ first + done
  pub passed : IsRingPassed words h (reverse (take done rows)) pass
  pub noted : list ++ notes (header_now h (reverse (take done rows))) (known_now h (reverse (take done rows))) (drop done rows) ≡ notes h nothing rows

module _ {B M : Type 0} {words : M → ℕ → ℕ} {h : Header} {rows : List Row} {first : ℕ} where
  pub started : (pass : RingPass B M) (list : List Note) → list ≡ [] → IsRingPassed words h [] pass → IsNoted words h rows first 0 first pass list
  started pass list none passed = record { numbered = omega arith; passed = passed; noted = ap (λ l. l ++ notes h nothing rows) none }

  module _ {i number : ℕ} {pass : RingPass B M} {list : List Note} (p : IsNoted words h rows first i number pass list) (row : Row) (below : i < length rows) (is_row : get_or rows i row ≡ row) where
    abbrev past : List Row
    past = reverse (take i rows)

    pub few : first + length rows ≤ most_lines + 1 → (g : Header) × (rows_so : List Row) × IsRingPassed words g rows_so pass × (length rows_so ≤ most_streamed_lines)
    few within = (h, past, p.passed, omega (arith, below, within, so_many rows i (omega (arith, below))))

    next_past : reverse (take (i + 1) rows) ≡ row ∷ past
    next_past = more_taken rows i row below ∙ ap (λ x. x ∷ past) is_row

    rest : drop i rows ≡ row ∷ drop (i + 1) rows
    rest = left rows i row below ∙ ap (λ x. x ∷ drop (i + 1) rows) is_row

    pub stepped : (after : RingPass B M) (mid : List Note) → ((g : Header) (so : List Row) → IsRingPassed words g so pass → IsRingPassed words g (row ∷ so) after) →
        ((g : Header) (so : List Row) → IsRingPassed words g so pass → mid ≡ list ++ any_notes (header_now g so) (known_now g so) row) →
        IsNoted words h rows first (i + 1) (number + 1) after (mid ++ Next ∷ [])
    unfolding notes
    stepped after mid passes says =
        record {
          numbered = omega (arith, p.numbered);
          passed = subst (λ so. IsRingPassed words h so after) (sym next_past) (passes h past p.passed);
          noted = rw (next_past, says h past p.passed) (simp append_assoc (rw rest at p.noted));
        }

    pub refused : (c : Refusal) → ((g : Header) (so : List Row) → IsRingPassed words g so pass → IsLeastOfRow (header_now g so) (known_now g so) row c) → trace_verdict h first rows ≡ Some (number, c)
    refused c least =
        ap (trace_verdict h first) (sym (all_again rows i) ∙ ap (λ l. reverse past ++ l) rest)
        ∙ row_refused h first past (drop (i + 1) rows) row c p.passed.clean (least h past p.passed)
        ∙ ap (λ n. Some (n, c)) (ap (λ n. first + n) (so_many rows i (omega (arith, below))) ∙ sym p.numbered)

  -- behind the last row
  module _ {i number : ℕ} {pass : RingPass B M} {list : List Note} (p : IsNoted words h rows first i number pass list) (all : i ≡ length rows) where
    pub ended_clean : AreClean h (reverse rows)
    ended_clean = rw (take_all i rows (omega (arith, all))) at p.passed.clean

    pub ended : list ≡ notes h nothing rows
    unfolding notes
    ended = sym (append-nil list) ∙ rw (drop_all i rows (omega (arith, all))) at p.noted

-- ---- a row of the driver, or one that reads an event

may_read : (g : Header) (k : Known) (row : Row) → IsKept g k row → MayBeRead g k row
unfolding ring_restored restored_on
may_read g k row kept = grind arith

module _ {B M : Type 0} (words : M → ℕ → ℕ) (h : Header) (past : List Row) (row : Row) (pass after : RingPass B M) (p : IsRingPassed words h past pass) (q : IsRingPassed words h (row ∷ past) after) where
  abbrev g : Header
  g = header_now h past

  abbrev k : Known
  k = known_now h past

  kept : IsKept g k row
  kept = (kept_now h (row ∷ past) q.clean).1

  pub followed : (hd : Header) (record_ : TraceRecord) (memory : ℕ → ℕ) → hd ≡ pass.header → record_ ≡ pass.record → memory ≡ words pass.memory → FollowsTrace hd k record_ memory
  followed hd record_ memory first second third = rw (first, second, third) p.tracked.follows

  -- the notes before the row is noted in the record, and those behind
  pub driven_noted : is_ring_row row ≡ false → (old mid new : List Note) (placed : List ℕ) (before behind : Header) (record_ : TraceRecord) (memory : ℕ → ℕ) → before ≡ pass.header → behind ≡ after.header → record_ ≡ after.record →
      memory ≡ words after.memory → (DriverKeeps before k → MayBeRead before k row → AreNoted before k row old mid placed) →
      ((j : Known) (m : ℕ → ℕ) → FollowsTrace behind j record_ m → All (IsTransferRing behind) placed → new ≡ mid ++ map (floor_note j) placed) →
      new ≡ old ++ row_notes g k row
  driven_noted driven old mid new placed before behind record_ memory first second third fourth noted placings =
      let one : before ≡ g = first ∙ p.header in
      let two : behind ≡ g = second ∙ q.header ∙ header_driven g row driven in
      let says : AreNoted g k row old mid placed =
      subst (λ x. AreNoted x k row old mid placed) one
      (noted (subst (λ x. DriverKeeps x k) (sym first) (p.tracked.keeps (kept_on g k row kept))) (subst (λ x. MayBeRead x k row) (sym one) (may_read g k row kept))) in
      let follows : FollowsTrace behind (known_after g k row) record_ memory = rw (second, third, fourth) q.tracked.follows in
      placings (known_after g k row) memory follows (subst (λ x. All (IsTransferRing x) placed) (sym two) says.rings) ∙ says.notes
