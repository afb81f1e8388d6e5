-- How agreement goes on when a lease begins, and when some end
use Rattle.leases.proofs.BaseWords.{arith, rules, ◌≡◌, ◌&&◌, ◌∷◌, ◌∙◌, ℕ, Bool, true, List, [], length, map, slice_get, refl, eq-eqb, and_parts, and_from, Lease, Leased, as_lease, without_end, Lent, begun_at, ended_where, is_unended, lease_of, with_begun, agree, agrees, begins_as, has_words_of, test_of}
use Rattle.leases.proofs.LeaseBooks.Ending.{later_end}
use Rattle.leases.proofs.LeaseBooks.Passing.{and_true}

pub begun_is_unended : (n : ℕ) (l : Leased) → is_unended (begun_at n l) ≡ true
unfolding is_unended begun_at
begun_is_unended n l = eq-eqb without_end without_end refl

starts : (row : ℕ) (l : Leased) (m : Lease) → agrees (begun_at row l) m ≡ begins_as m (as_lease row without_end l)
unfolding agrees lease_of begun_at
starts row l m = rw (begun_is_unended row l) (and_true (begins_as m (as_lease row without_end l)))

-- one more begins: the list agrees if the next of its leases does
pub agree_begun : (row : ℕ) (l : Leased) (ts : List Lent) (ls : List Lease) →
    agree (with_begun row ts (l ∷ [])) ls ≡ (agree ts ls && test_of (λ m. begins_as m (as_lease row without_end l)) (slice_get ls (length ts)))
unfolding with_begun agree
agree_begun row l [] [] = refl
agree_begun row l [] (m ∷ ls) = and_true (agrees (begun_at row l) m) ∙ starts row l m
agree_begun row l (t ∷ ts) [] = refl
agree_begun row l (t ∷ ts) (m ∷ ls) = grind (arith, agrees, agree, test_of, begins_as, as_lease, without_end, agree_begun row l ts ls)

module _ (over : Leased → Bool) (row : ℕ) where
  pub same_beginning : (t : Lent) (l : Lease) → begins_as l (lease_of (ended_where over row t)) ≡ begins_as l (lease_of t)
  unfolding ended_where begins_as has_words_of
  same_beginning t l = search (rules, is_unended, begins_as, lease_of, later_end)

  pub agree_unended : (ts : List Lent) (ls : List Lease) → agree (map (ended_where over row) ts) ls ≡ true → agree ts ls ≡ true
  unfolding agree agrees ended_where
  agree_unended [] ls e = refl
  agree_unended (t ∷ ts) [] e = e
  agree_unended (t ∷ ts) (l ∷ ls) e =
      let parts = and_parts (agrees (ended_where over row t) l) (agree (map (ended_where over row) ts) ls) e in
      and_from (agrees t l) (agree ts ls) (search (rules, and_parts, begins_as, lease_of, ended_where, is_unended, and_from, same_beginning)) (agree_unended ts ls parts.1)
