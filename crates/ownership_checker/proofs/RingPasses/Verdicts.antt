-- The verdict on rows between which rings come and go, by those that were passed
use Rattle.ownership_checker.proofs.Words.{◌≡◌, ◌+◌, ◌∷◌, ◌++◌, ◌∙◌, ℕ, List, [], Option, Some, None, ap, sym, arith, length, append-nil, add-zero, option_map, reverse, common_steps, Header, Row, nothing, Refusal, first_of, first_or, header_after, header_now, known_after, known_now, AreClean, IsLeastOfRow, trace_verdict, verdict_from, row_broken}

pub one_more : (past : List Row) (row : Row) (more : List Row) → reverse (row ∷ past) ++ more ≡ reverse past ++ (row ∷ more)
one_more past row more = grind (arith, common_steps)

pub reversed_more : (past : List Row) (row : Row) → reverse past ++ row ∷ [] ≡ reverse (row ∷ past)
reversed_more past row = sym (one_more past row []) ∙ append-nil (reverse (row ∷ past))

pub reversed_twice : (rows : List Row) → reverse (reverse rows) ≡ rows
reversed_twice rows = grind (arith, common_steps)

first_is : (cs : List Refusal) (n : ℕ) (c : Refusal) (later : Option (ℕ × Refusal)) → first_of cs ≡ Some c → first_or cs n later ≡ Some (n, c)
unfolding first_or
first_is [] n c later e = absurd (cc)
first_is (d ∷ ds) n c later e = ap (λ o. option_map (λ x. (n, x)) o) e

module _ (h : Header) (first : ℕ) where
  -- behind rows that break no rule the verdict is that of the others, by the rings that are there and what is known then
  verdict_behind : (past more : List Row) → AreClean h past → trace_verdict h first (reverse past ++ more) ≡ verdict_from (header_now h past) (known_now h past) (first + length past) more
  unfolding verdict_from first_or
  verdict_behind [] more clean = ap (λ n. verdict_from h nothing n more) (sym (add-zero first))
  verdict_behind (row ∷ past) more clean = grind (arith, one_more, verdict_behind past (row ∷ more) clean.0)

  -- no row breaks a rule
  pub none_refused : (past : List Row) → AreClean h past → trace_verdict h first (reverse past) ≡ None
  unfolding verdict_from
  none_refused past clean = ap (trace_verdict h first) (sym (append-nil (reverse past))) ∙ verdict_behind past [] clean

  -- the first that breaks one
  pub row_refused : (past more : List Row) (row : Row) (c : Refusal) → AreClean h past → IsLeastOfRow (header_now h past) (known_now h past) row c →
      trace_verdict h first (reverse past ++ (row ∷ more)) ≡ Some (first + length past, c)
  unfolding verdict_from
  row_refused past more row c clean breaks =
      let g = header_now h past in
      let k = known_now h past in
      verdict_behind past (row ∷ more) clean
      ∙ first_is (row_broken g k row) (first + length past) c (verdict_from (header_after g row) (known_after g k row) (first + length past + 1) more) breaks
