-- Where among rows the first stands that breaks a rule
use Rattle.knowledge_page.proofs.BaseWords.{◌≡◌, ℕ, zero, suc, ◌+◌, ◌<◌, ◌≤◌, List, [], ◌∷◌, Option, Some, None, ◌⊎◌, refl, sym, subst, ap, arith, length, take, common_steps, same_Some, Row, Header, TraceText, Known, nothing, Refusal, first_or, header_after, known_after, trace_verdict, verdict_from, row_broken, IfNoRow, IsLast, IsNoRow, IsRange, verdict_on, ShowFault}

-- it is this row, or one behind it
here_or : (cs : List Refusal) (n row many : ℕ) (c : Refusal) (later : Option (ℕ × Refusal)) →
    (later ≡ Some (row, c) → (n + 1 ≤ row) × (row < n + 1 + many)) → first_or cs n later ≡ Some (row, c) → (n ≤ row) × (row < n + suc many)
unfolding first_or
here_or [] n row many c later behind e = let b = behind e in let l = b.0 in let r = b.1 in (omega (arith, l), omega (arith, r))
here_or (d ∷ ds) n row many c later behind e =
    let same : n ≡ row = ap (λ (p : ℕ × Refusal). p.0) (same_Some (n, d) (row, c) e) in
    (omega (arith, same), omega (arith, same))

-- it is one of the rows
pub in_rows : (h : Header) (k : Known) (n : ℕ) (rows : List Row) (row : ℕ) (c : Refusal) → verdict_from h k n rows ≡ Some (row, c) → (n ≤ row) × (row < n + length rows)
unfolding verdict_from
in_rows h k n [] row c e = absurd (cc)
in_rows h k n (x ∷ rest) row c e =
    here_or (row_broken h k x) n row (length rest) c (verdict_from (header_after h x) (known_after h k x) (n + 1) rest) (λ later. in_rows (header_after h x) (known_after h k x) (n + 1) rest row c later) e

same_or : (cs : List Refusal) (n row : ℕ) (c : Refusal) (few all : Option (ℕ × Refusal)) →
    (few ≡ Some (row, c) → all ≡ Some (row, c)) → first_or cs n few ≡ Some (row, c) → first_or cs n all ≡ Some (row, c)
unfolding first_or
same_or [] n row c few all behind e = behind e
same_or (d ∷ ds) n row c few all behind e = e

-- the first among some rows from the first on is the first of all
pub of_all : (h : Header) (k : Known) (n i : ℕ) (rows : List Row) (row : ℕ) (c : Refusal) → verdict_from h k n (take i rows) ≡ Some (row, c) → verdict_from h k n rows ≡ Some (row, c)
unfolding verdict_from
of_all h k n zero rows row c e = absurd (cc)
of_all h k n (suc i) [] row c e = e
of_all h k n (suc i) (x ∷ rest) row c e =
    same_or (row_broken h k x) n row c (verdict_from (header_after h x) (known_after h k x) (n + 1) (take i rest)) (verdict_from (header_after h x) (known_after h k x) (n + 1) rest)
    (λ behind. of_all (header_after h x) (known_after h k x) (n + 1) i rest row c behind) e

module _ (t : TraceText) where
  -- the last row that may be asked for is one of the rows, or the line before all
  last_below : (v : Option (ℕ × Refusal)) (last : ℕ) → verdict_on t ≡ v → IsLast v (t.first + length t.rows) last → last < t.first + length t.rows
  last_below None last e is = omega (arith, is)
  last_below (Some first_broken) last e is = grind (arith, in_rows, nothing, in_rows t.header nothing t.first t.rows first_broken.0 first_broken.1 e, (in_rows t.header nothing t.first t.rows first_broken.0 first_broken.1 e).1)

  -- a row before all or behind all is none of those that may be asked for
  pub not_there : (fault : ShowFault) (row : ℕ) → (row < t.first) ⊎ (t.first + length t.rows ≤ row) → IfNoRow fault (IsRange t) → IfNoRow fault (IsNoRow t (Some row))
  not_there given1 row where_ range = grind (arith, last_below, verdict_on)

  -- the range, by the verdict
  pub range_to : (row : ℕ) (c : Refusal) → verdict_on t ≡ Some (row, c) → IsRange t t.first row
  range_to row c e = record { begins = refl; ends = subst (λ (o : Option (ℕ × Refusal)). IsLast o (t.first + length t.rows) row) (sym e) refl }

  pub range_of_all : (last : ℕ) → verdict_on t ≡ None → last + 1 ≡ t.first + length t.rows → IsRange t t.first last
  range_of_all last e is = record { begins = refl; ends = subst (λ (o : Option (ℕ × Refusal)). IsLast o (t.first + length t.rows) last) (sym e) is }

  -- a row behind one that breaks a rule is none of them
  pub behind_broken : (n asked row : ℕ) (c : Refusal) → n ≤ length t.rows → asked ≡ t.first + n → trace_verdict t.header t.first (take n t.rows) ≡ Some (row, c) → IsNoRow t (Some asked) t.first row
  behind_broken n asked row c few is e = grind (arith, in_rows, nothing, common_steps, range_to, of_all)

  -- the first row that breaks a rule is one of them
  pub is_there : (fault : ShowFault) (row : ℕ) (c : Refusal) (P : ℕ → ℕ → Type 0) → verdict_on t ≡ Some (row, c) → IfNoRow fault (IsNoRow t (Some row)) → IfNoRow fault P
  is_there given1 row c given4 e none = grind (arith, in_rows, nothing)
