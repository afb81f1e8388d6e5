-- A finder finds the transfer ring that has a block at an address, as a walk over all would
use Rattle.trace_record.proofs.MiddleLaws.{rules, ◌≡◌, ◌-◌, ◌%◌, ◌<◌, ◌∷◌, ◌∙◌, ◌&&◌, ℕ, List, [], Bool, true, false, Some, None, refl, ap, sym, length, get_or, subst, find, position, cases_Bool, false≢true, and_parts, position-Some, is_inside, touches, touches-word_of, position-None, Ring, Header, IsHeader, id_of, is_transfer_kind, ring_having, false_unless, IsAmong, among_get, each_among, same_or_apart, not_found, shape_allowed, together}

-- the one ring that passes a test is found
pub find_one : (f : Ring → Bool) (rs : List Ring) (r : Ring) → IsAmong r rs → f r ≡ true → ((q : Ring) → IsAmong q rs → f q ≡ true → q ≡ r) → find f rs ≡ Some r
find_one f [] r among passes only = absurd among
find_one f (x ∷ rest) r among passes only = search (rules, cases_Bool (f x), only x, false≢true, find_one f rest r, only)

module _ (h : Header) (headed : IsHeader h) (a : ℕ) where
  -- it is a transfer ring that has the byte
  abbrev pub has : Ring → Bool
  has r = is_transfer_kind r.shape.kind && is_inside r.shape a

  -- it has the byte's word
  abbrev pub has_word : Ring → Bool
  has_word r = touches r.shape (a - a % 4) 4

  is_same : (r : Ring) → IsAmong r h.rings → has_word r ≡ is_inside r.shape a
  is_same r among = touches-word_of r.shape (shape_allowed h headed r among) a

  word_had : (r : Ring) → IsAmong r h.rings → has r ≡ true → has_word r ≡ true
  word_had r among it = is_same r among ∙ (and_parts (is_transfer_kind r.shape.kind) (is_inside r.shape a) it).1

  none_has : ((q : Ring) → IsAmong q h.rings → has q ≡ true → ⊥) → None ≡ ring_having h a
  unfolding ring_having
  none_has none = sym (ap id_of (not_found has h.rings (λ q among. false_unless (has q) (none q among))))

  -- no ring has the word
  pub nowhere_had : None ≡ position has_word h.rings → None ≡ ring_having h a
  nowhere_had none =
      none_has (λ q among it. false≢true (sym (each_among has_word h.rings (λ i d below. position-None has_word h.rings i d (sym none) below) q among) ∙ word_had q among it))

  -- a ring has it
  module _ (number : ℕ) (at : Some number ≡ position has_word h.rings) (d ring : Ring) (item : ring ≡ get_or h.rings number d) where
    passed : (number < length h.rings) × (has_word (get_or h.rings number d) ≡ true)
    passed = let found = position-Some has_word h.rings number d (sym at) in (found.0, found.1)

    among_here : IsAmong ring h.rings
    among_here = subst (λ (r : Ring). IsAmong r h.rings) (sym item) (among_get h.rings number d passed.0)

    inside : is_inside ring.shape a ≡ true
    inside = sym (is_same ring among_here) ∙ ap has_word item ∙ passed.1

    only_here : (q : Ring) → IsAmong q h.rings → has q ≡ true → q ≡ ring
    only_here q among it = search (rules, same_or_apart, together, among_here, inside, and_parts, is_transfer_kind, is_inside)

    pub here_had : is_transfer_kind ring.shape.kind ≡ true → Some ring.id ≡ ring_having h a
    unfolding ring_having
    here_had it = sym (ap id_of (find_one has h.rings ring among_here (rw (it, inside) refl) only_here))

    pub elsewhere_had : is_transfer_kind ring.shape.kind ≡ false → None ≡ ring_having h a
    elsewhere_had fails = search (rules, none_has, false≢true, is_transfer_kind, only_here, and_parts, is_inside)
