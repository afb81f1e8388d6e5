-- How far a pass has come over rows that are kept in memory, and what that says of all of them
use Rattle.ownership_checker.proofs.LowerLaws.{◌≡◌, ℕ, ◌+◌, ◌<◌, ◌≤◌, List, [], ◌∷◌, ◌++◌, ◌∙◌, All, Some, ap, sym, subst, arith, length, get_or, add-zero, drop, reverse, take, common_steps, All-weaker, most_streamed_lines, IsTraceRow, Header, Row, Lease, Refusal, without_end, Lent, lents, StepFault, IfRefused, IsRow, header_now, known_now, IsLeastOfRow, IsRingLogged, IsRingPassed, trace_verdict, RingPass, Refused, IsBehindAll, fits, none_refused, reversed_twice, row_refused}
use Rattle.ownership_checker.proofs.RingPasses.Steps.{all_reversed, no_harm}
use Rattle.ownership_checker.proofs.RingPasses.Walks.{walks}

-- one row more: the newest first
one_more : (rows : List Row) (i : ℕ) (d : Row) → i < length rows → reverse (take (i + 1) rows) ≡ get_or rows i d ∷ reverse (take i rows)
one_more rows i d below = grind (arith, common_steps, below)

many : (rows : List Row) (i : ℕ) → i < length rows → length (reverse (take i rows)) ≡ i
many rows i below = grind (arith, common_steps, below)

none_taken : (rows : List Row) → reverse (take 0 rows) ≡ []
none_taken rows = grind (arith, common_steps)

all_taken : (rows : List Row) → take (length rows) rows ≡ rows
all_taken rows = grind (arith, common_steps)

parts : (rows : List Row) (i : ℕ) (d : Row) → i < length rows → reverse (reverse (take i rows)) ++ get_or rows i d ∷ drop (i + 1) rows ≡ rows
parts rows i d below = grind (arith, common_steps, below)

-- so many of the rows were passed
pub record IsPassedTo {B M : Type 0} (words : M → ℕ → ℕ) (holds : List Lease → Header → List Lent → B → Type 0) (h : Header) (first : ℕ) (rows : List Row) (log : B) (i number : ℕ)
    (pass : RingPass B M) : Type 0 where
  pub numbered : number ≡ first + i
  pub passed : IsRingPassed words h (reverse (take i rows)) pass
  pub logged : (list : List Lease) → holds list h (lents h first []) log → IsRingLogged (holds list) h first (reverse (take i rows)) pass

module _ {B M : Type 0} (words : M → ℕ → ℕ) (holds : List Lease → Header → List Lent → B → Type 0) (h : Header) (first : ℕ) (rows : List Row) (log : B) where
  pub begun : (pass : RingPass B M) → IsRingPassed words h [] pass →
      ((list : List Lease) (first : ℕ) → holds list h (lents h first []) log → IsRingLogged (holds list) h first [] pass) → IsPassedTo words holds h first rows log 0 first pass
  begun pass passed logged = record { numbered = sym (add-zero first); passed = rw none_taken passed; logged = λ list kept. rw none_taken (logged list first kept) }

  module _ (i number : ℕ) (pass : RingPass B M) (p : IsPassedTo words holds h first rows log i number pass) where
    module _ (row d : Row) (below : i < length rows) (is : get_or rows i d ≡ row) where
      next : row ∷ reverse (take i rows) ≡ reverse (take (i + 1) rows)
      next = ap (λ (r : Row). r ∷ reverse (take i rows)) (sym is) ∙ sym (one_more rows i d below)

      pub few : first + length rows ≤ most_streamed_lines + 1 → (g : Header) × (past : List Row) × IsRingPassed words g past pass × (length past ≤ most_streamed_lines)
      few within = let n = many rows i below in (h, reverse (take i rows), p.passed, omega (arith, n, below, within))

      room : first + length rows ≤ most_streamed_lines + 1 → first + length (reverse (take i rows)) < without_end
      unfolding without_end
      room within = let n = many rows i below in omega (arith, n, below, within)

      number_so : number ≡ first + length (reverse (take i rows))
      number_so = let n = many rows i below in omega (arith, n, p.numbered)

      pub row_more : first + length rows ≤ most_streamed_lines + 1 → (later : RingPass B M) → ((g : Header) (past : List Row) → IsRingPassed words g past pass → IsRingPassed words g (row ∷ past) later) →
          ((list : List Lease) (g : Header) (first : ℕ) (past : List Row) → IsRingPassed words g past pass → number ≡ first + length past → first + length past < without_end →
          IsRingLogged (holds list) g first past pass → IsRingLogged (holds list) g first (row ∷ past) later) → IsPassedTo words holds h first rows log (i + 1) (number + 1) later
      row_more within later passes logs = record {
        numbered = omega (arith, p.numbered);
        passed = rw (← next) (passes h (reverse (take i rows)) p.passed);
        logged = λ list kept. rw (← next) (logs list h first (reverse (take i rows)) p.passed number_so (room within) (p.logged list kept));
      }

      pub refused : (c : Refusal) (e : StepFault) → e ≡ Refused c →
          IfRefused e (λ x. (g : Header) (past : List Row) → IsRingPassed words g past pass → IsLeastOfRow (header_now g past) (known_now g past) row x) →
          trace_verdict h first rows ≡ Some (number, c)
      refused c e told least =
          let so = rw told at least in
          let whole : reverse (reverse (take i rows)) ++ row ∷ drop (i + 1) rows ≡ rows = rw (← is) (parts rows i d below) in
          ap (trace_verdict h first) (sym whole) ∙ row_refused h first (reverse (take i rows)) (drop (i + 1) rows) row c p.passed.clean (so h (reverse (take i rows)) p.passed)
          ∙ ap (λ n. Some (n, c)) (sym number_so)

    pub ended : i ≡ length rows → first + length rows ≤ most_streamed_lines + 1 → All IsTraceRow rows → IsBehindAll words holds h first rows log pass
    unfolding without_end
    ended all within are =
        let whole : take i rows ≡ rows = ap (λ n. take n rows) all ∙ all_taken rows in
        let passed = subst (λ (xs : List Row). IsRingPassed words h (reverse xs) pass) whole p.passed in
        let fit = all_reversed rows (All-weaker IsTraceRow IsRow fits rows are) in
        record {
          verdict = ap (trace_verdict h first) (sym (reversed_twice rows)) ∙ none_refused h first (reverse rows) passed.clean;
          walk = rw (reversed_twice rows) at (walks h passed.opening (reverse rows) fit passed.clean);
          harmless = rw (reversed_twice rows) at (no_harm words h (reverse rows) pass passed fit);
          room = omega (arith, within);
          passed = passed;
          logged = λ list kept. subst (λ (xs : List Row). IsRingLogged (holds list) h first (reverse xs) pass) whole (p.logged list kept);
        }
