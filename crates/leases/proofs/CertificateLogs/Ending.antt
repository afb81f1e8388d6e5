-- What the end of a lease changes
use Rattle.leases.proofs.LowerLaws.{false_unless, ◌≡◌, ◌≢◌, ◌==◌, ◌∷◌, ℕ, zero, suc, Bool, true, false, List, [], filter, length, map, slice_get, refl, eqb-true, list_any, and_parts, or_parts, or_from, false≢true, Lease, Leased, without_end, Lent, ended_where, is_unended, agree, agrees, test_of, IsOnlyAt, is_open_of, rules, same_beginning}

-- a row of the number of no row ends nothing
pub never_ends : (S : Leased → Bool) (ts : List Lent) → map (ended_where S without_end) ts ≡ ts
unfolding ended_where is_unended
never_ends S [] = refl
never_ends S (t ∷ ts) = search (rules, eqb-true, and_parts, never_ends S ts)

module _ (S : Leased → Bool) (row : ℕ) where
  abbrev end_at_row : Lent → Lent
  end_at_row = ended_where S row

  passes_not : (t : Lent) → is_open_of S t ≡ false → end_at_row t ≡ t
  unfolding ended_where
  passes_not t e = rw e refl

  -- where none of these is open, nothing ends
  pub none_ends : (ts : List Lent) → list_any (is_open_of S) ts ≡ false → map end_at_row ts ≡ ts
  none_ends [] none = refl
  none_ends (t ∷ ts) none =
      let parts = or_parts (is_open_of S t) (list_any (is_open_of S) ts) none in
      rw (passes_not t parts.0, none_ends ts parts.1) refl

  module _ (early : row ≢ without_end) where
    late : (row == without_end) ≡ false
    late = false_unless _ (λ same. early (eqb-true row without_end same))

    -- it is over now
    pub over_now : (t : Lent) → is_open_of S t ≡ true → is_unended (end_at_row t) ≡ false
    unfolding ended_where is_unended
    over_now t e = rw e late

    -- the list agrees still where its lease there ends at the row
    pub agree_ended : (i : ℕ) (ts : List Lent) (ls : List Lease) → agree ts ls ≡ true → IsOnlyAt (is_open_of S) i ts →
        agree (map end_at_row ts) ls ≡ test_of (λ l. l.to == row) (slice_get ls i)
    unfolding agree agrees ended_where
    agree_ended i [] ls e at = absurd at
    agree_ended i (t ∷ ts) [] e at = absurd (false≢true e)
    agree_ended zero (t ∷ ts) (l ∷ ls) e at = search (rules, and_parts, none_ends, same_beginning, over_now)
    agree_ended (suc i) (t ∷ ts) (l ∷ ls) e at =
        let parts = and_parts (agrees t l) (agree ts ls) e in
        rw (passes_not t at.0, parts.0) (agree_ended i ts ls parts.1 at.1)

    -- one fewer isn't over
    pub one_fewer : (i : ℕ) (ts : List Lent) → IsOnlyAt (is_open_of S) i ts → length (filter is_unended ts) ≡ suc (length (filter is_unended (map end_at_row ts)))
    one_fewer i [] at = absurd at
    one_fewer zero (t ∷ ts) at = search (rules, and_parts, none_ends, over_now)
    one_fewer (suc i) (t ∷ ts) at = search (rules, passes_not, one_fewer i ts at.1)

    -- none stands any more where the one stood
    pub none_there : (T : Leased → Bool) (i : ℕ) (ts : List Lent) → IsOnlyAt (is_open_of T) i ts → IsOnlyAt (is_open_of S) i ts → list_any (is_open_of T) (map end_at_row ts) ≡ false
    none_there T i [] at ends = absurd at
    none_there T zero (t ∷ ts) at ends = search (rules, over_now, none_ends, or_from)
    none_there T (suc i) (t ∷ ts) at ends = search (rules, passes_not, or_from, none_there T i ts at.1 ends.1)

    -- elsewhere the same is open
    pub open_alike : (T : Leased → Bool) → ((l : Leased) → S l ≡ true → T l ≡ false) → (t : Lent) → is_open_of T (end_at_row t) ≡ is_open_of T t
    unfolding ended_where
    open_alike T apart t = search (rules, and_parts)
