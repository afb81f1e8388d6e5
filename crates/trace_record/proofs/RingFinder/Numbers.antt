-- A finder finds the ring of an ID that a walk over all would find
use Rattle.trace_record.proofs.LowerLaws.{rules, ◌≡◌, ◌+◌, ◌<◌, ◌∷◌, ◌∙◌, ◌==◌, ℕ, List, [], Bool, true, Option, Some, None, refl, ap, sym, get_or, set, Bor, slice_get, position, unwrap_or, eqb-true, get_or-set_same, get_or-set_other, option_copied, option_flatten, option_map, cases_eq, slice_get-get_or, slice_get_within, get_or_from_slice_get, length-set, position_only, position_nowhere, Ring, may_stand_together, Finder, AreNumbers, IsFinder, Apart, numbers_apart, same_number, false_unless}

pub some_ring : (q r : Ring) → Some q ≡ Some r → q ≡ r
some_ring q r e = cc

-- the only ring that passes a test is the first that does
pub one_position : (rings : List Ring) → may_stand_together rings ≡ true → (p : Ring → Bool) (n : ℕ) (ring : Ring) → slice_get rings n ≡ Some ring → p ring ≡ true →
    ((k : ℕ) (q : Ring) → slice_get rings k ≡ Some q → Apart q ring → p q ≡ true → ⊥) → position p rings ≡ Some n
one_position rings together p n ring at passes others =
    position_only p rings n ring (slice_get_within rings n ring at) (ap p (get_or_from_slice_get rings n ring ring at) ∙ passes)
    (λ k below it. search (rules, cases_eq k n, slice_get-get_or rings k ring below, others k, numbers_apart rings together k n (get_or rings k ring) ring))

pub no_position : (rings : List Ring) (p : Ring → Bool) → ((n : ℕ) (ring : Ring) → slice_get rings n ≡ Some ring → p ring ≡ true → ⊥) → position p rings ≡ None
no_position [] p none = refl
no_position (r ∷ rest) p none = position_nowhere p (r ∷ rest) r (λ k below. false_unless _ (λ e. none k (get_or (r ∷ rest) k r) (slice_get-get_or (r ∷ rest) k r below) e))

-- the table of numbers, ring by ring
pub one_number : (rings : List Ring) → may_stand_together rings ≡ true → (numbers : List (Option ℕ)) (i : ℕ) (ring : Ring) → AreNumbers rings i numbers → slice_get rings i ≡ Some ring → ring.id < 256 →
    AreNumbers rings (i + 1) (set numbers ring.id (Some i))
one_number rings together numbers i ring a at below = record {
  all = length-set numbers ring.id (Some i) ∙ a.all;
  right = search (rules, get_or, set, get_or-set_same, slice_get, get_or-set_other);
  each =
      λ n q l there. search (rules, cases_eq n i, some_ring, slice_get, get_or, set, get_or-set_same, get_or-set_other, a.each n q, numbers_apart rings together n i q ring there at);
}

-- the ring of an ID
pub flattened : (o : Option (Bor (Option ℕ))) (p : Option ℕ) → unwrap_or (option_map (λ x. x.now) o) None ≡ p → option_flatten (option_copied o) ≡ p
flattened o p h1 = search rules

pub named_is : (rings : List Ring) (f : Finder) → IsFinder rings f → (id : ℕ) → get_or f.numbers.items id None ≡ position (λ ring. ring.id == id) rings
named_is rings f is id = by (get_or f.numbers.items id None) refl
  where
    at_id : (n : ℕ) (ring : Ring) → slice_get rings n ≡ Some ring → (ring.id == id) ≡ true → get_or f.numbers.items id None ≡ Some n
    at_id n ring at it = ap (λ x. get_or f.numbers.items x None) (sym (eqb-true ring.id id it)) ∙ is.numbers.each n ring (slice_get_within rings n ring at) at

    by : (o : Option ℕ) → get_or f.numbers.items id None ≡ o → o ≡ position (λ ring. ring.id == id) rings
    by None e = sym (no_position rings (λ ring. ring.id == id) (λ n ring at it. search (rules, at_id n ring at it)))
    by (Some n) e =
        let found = is.numbers.right id n e in
        search (rules, found, position_only (λ q. q.id == id) rings n found.0, slice_get_within rings n found.0 found.1, get_or_from_slice_get rings n found.0 found.0 found.1, same_number, at_id, slice_get-get_or)
