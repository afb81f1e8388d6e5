-- The leases of blocks and Links with a ring more, and with one left out
use Rattle.leases.proofs.BaseWords.{and_false, ◌≡◌, ◌==◌, ◌++◌, ◌∷◌, ℕ, not, Bool, true, false, List, [], map, filter, refl, ap, inl, inr, filter-append, flat_map, IsIn, Header, Ring, Known, is_driver_kind, open_on, due_crossings, due_positions, leased_crossings, leased_positions, new_ring, is_crossing, Leased, Block, Link, is_of_ring, rules}

pub filter_none : {X : Type 0} (p : X → Bool) (xs : List X) → ((x : X) → p x ≡ false) → filter p xs ≡ []
filter_none p [] none = refl
filter_none p (x ∷ xs) none = rw (none x) (filter_none p xs none)

pub filter_all : {X : Type 0} (p : X → Bool) (xs : List X) → ((x : X) → IsIn x xs → p x ≡ true) → filter p xs ≡ xs
filter_all p [] all = refl
filter_all p (x ∷ xs) all = rw (all x (inl refl)) (ap (λ l. x ∷ l) (filter_all p xs (λ y at. all y (inr at))))

abbrev pub driver : Ring → Bool
driver q = is_driver_kind q.shape.kind

-- of a new ring nothing is under lease
pub none_on : (h : Header) (k : Known) (r : Ring) → k.ring r.id ≡ new_ring → open_on h k r ≡ []
unfolding open_on leased_positions leased_crossings
none_on h k r new = search (rules, filter_none, due_positions, new_ring, is_crossing, due_crossings, and_false)

module _ (h g : Header) (k l : Known) where
  on_same : (q : Ring) → l.ring q.id ≡ k.ring q.id → open_on g l q ≡ open_on h k q
  unfolding open_on
  on_same q same = ap (λ v. map (Block q.id) (leased_positions q.shape v) ++ map (Link q.id) (leased_crossings q.shape v)) same

  -- of rings of which the same is known the same is under lease
  pub all_same : (rs : List Ring) → ((q : Ring) → IsIn q rs → l.ring q.id ≡ k.ring q.id) → flat_map (open_on g l) (filter driver rs) ≡ flat_map (open_on h k) (filter driver rs)
  all_same [] same = refl
  all_same (q ∷ rs) same = search (rules, on_same, all_same rs (λ x at. same x (inr at)))

  -- of a ring more nothing is
  pub one_more : (rs : List Ring) (r : Ring) → ((q : Ring) → IsIn q rs → l.ring q.id ≡ k.ring q.id) → l.ring r.id ≡ new_ring → driver r ≡ true →
      flat_map (open_on g l) (filter driver (rs ++ r ∷ [])) ≡ flat_map (open_on h k) (filter driver rs)
  one_more [] r same new is = rw (is, none_on g l r new) refl
  one_more (q ∷ rs) r same new is = search (rules, on_same, one_more rs r (λ x at. same x (inr at)) new is)

module _ (id : ℕ) where
  abbrev pub others : Leased → Bool
  others m = not (is_of_ring id m)

  kept : (f : ℕ → Leased) → ((p : ℕ) → others (f p) ≡ true) → (ps : List ℕ) → filter others (map f ps) ≡ map f ps
  kept f stay [] = refl
  kept f stay (p ∷ ps) = rw (stay p, kept f stay ps) refl

  gone : (f : ℕ → Leased) → ((p : ℕ) → others (f p) ≡ false) → (ps : List ℕ) → filter others (map f ps) ≡ []
  gone f go [] = refl
  gone f go (p ∷ ps) = rw (go p) (gone f go ps)

  module _ (h : Header) (k : Known) (q : Ring) where
    on_kept : (q.id == id) ≡ false → filter others (open_on h k q) ≡ open_on h k q
    unfolding open_on
    on_kept apart = search (rules, filter-append, map, Block, leased_positions, Link, leased_crossings, kept, not)

    on_gone : (q.id == id) ≡ true → filter others (open_on h k q) ≡ []
    unfolding open_on
    on_gone same = search (rules, filter-append, map, Block, leased_positions, Link, leased_crossings, gone, not)

  abbrev pub keep : Ring → Bool
  keep q = not (q.id == id)

  -- with a ring left out the leases of its blocks and Links are left out
  pub one_less : (h g : Header) (k l : Known) (rs : List Ring) → ((s : ℕ) → (s == id) ≡ false → l.ring s ≡ k.ring s) →
      flat_map (open_on g l) (filter driver (filter keep rs)) ≡ filter others (flat_map (open_on h k) (filter driver rs))
  one_less h g k l [] same = refl
  one_less h g k l (q ∷ rs) same = search (rules, filter-append, open_on, on_gone, on_same, on_kept, one_less h g k l rs same)
