-- What is open is lent and not over
use Rattle.leases.proofs.LowerLaws.{◌≡◌, ◌<◌, ◌&&◌, ◌∷◌, ◌++◌, ℕ, Bool, true, false, not, List, [], map, arith, ap, inl, inr, eq-eqb, cases_Bool, false≢true, Header, Known, nothing, Leased, is_among, open_leases, same_leased, without_end, IsIn, among_is, in_filter, leased_is, leased_itself, Lent, begun_at, ended_where, in_turn, is_unended, newly_open, passed_on, with_begun, with_leased, is_lent, IsInStep, rules, first_open, passed_open}

to_with : (l : Leased) (ls : List Leased) (m : Leased) → IsIn m (l ∷ ls) → IsIn m (with_leased l ls)
unfolding with_leased
to_with l [] m at = at
to_with l (x ∷ rest) m at = search (rules, to_with l rest m)

pub to_turn : (ls : List Leased) (m : Leased) → IsIn m ls → IsIn m (in_turn ls)
unfolding in_turn
to_turn [] m at = at
to_turn (l ∷ rest) m at = search (rules, to_with l (in_turn rest) m, to_turn rest m)

lent_left : (ts us : List Lent) (l : Leased) → is_lent ts l ≡ true → is_lent (ts ++ us) l ≡ true
unfolding is_lent
lent_left [] us l e = absurd (false≢true e)
lent_left (t ∷ ts) us l e = search (rules, lent_left ts us l)

lent_right : (ts us : List Lent) (l : Leased) → is_lent us l ≡ true → is_lent (ts ++ us) l ≡ true
unfolding is_lent
lent_right [] us l e = e
lent_right (t ∷ ts) us l e = search (rules, lent_right ts us l)

lent_begun : (n : ℕ) (ls : List Leased) (l : Leased) → IsIn l ls → is_lent (map (begun_at n) ls) l ≡ true
unfolding is_lent begun_at is_unended
lent_begun n [] l at = absurd at
lent_begun n (m ∷ ls) l at = search (rules, leased_itself, eq-eqb, lent_begun n ls l)

-- what doesn't end is still lent
pub still_lent : (over : Leased → Bool) (n : ℕ) (ts : List Lent) (l : Leased) → over l ≡ false → is_lent ts l ≡ true → is_lent (map (ended_where over n) ts) l ≡ true
unfolding is_lent ended_where
still_lent over n [] l stays e = absurd (false≢true e)
still_lent over n (t ∷ ts) l stays e = grind (arith, cases_Bool (is_unended t && same_leased l t.leased), leased_is l t.leased, still_lent over n ts l)

-- what is open behind a row is lent behind it, where what was open before it was
pub passed_lent : (before after : List Leased) (n : ℕ) (ts : List Lent) (l : Leased) → is_among after l ≡ true → (is_among before l ≡ true → is_lent ts l ≡ true) → is_lent (passed_on before after n ts) l ≡ true
unfolding passed_on with_begun
passed_lent before after n ts l is_open was_lent =
    let gone : Leased → Bool = λ m. not (is_among after m) in
    let new : List Leased = newly_open before after in
    elim (cases_Bool (is_among before l)) [
      | inl was ↦ lent_left (map (ended_where gone n) ts) (map (begun_at n) (in_turn new)) l (still_lent gone n ts l (ap not is_open) (was_lent was))
      | inr fresh ↦
          lent_right (map (ended_where gone n) ts) (map (begun_at n) (in_turn new)) l
          (lent_begun n (in_turn new) l (to_turn new l (in_filter (λ m. not (is_among before m)) after l (among_is after l is_open) (ap not fresh))))
    ]

-- what is open behind a row and lent behind it is in step again, also where the header has other rings then
pub in_step_behind : (h g : Header) (k l : Known) (n : ℕ) (ts : List Lent) → n < without_end → IsInStep h k ts → IsInStep g l (passed_on (open_leases h k) (open_leases g l) n ts)
in_step_behind h g k l n ts early step = search (rules, passed_open, open_leases, passed_lent)

module _ (h : Header) where
  pub in_step_first : IsInStep h nothing (with_begun 0 [] (in_turn (open_leases h nothing)))
  unfolding with_begun
  in_step_first = search (rules, first_open, lent_begun, to_turn, among_is)
