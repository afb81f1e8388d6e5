-- The record of an endpoint's ring
use Rattle.driver_rows.proofs.Words.{rules, ◌≡◌, ℕ, ◌≤◌, ◌∙◌, Bool, true, List, Option, Some, None, refl, ap, sym, subst, get_or, length, arith, ◌==◌, ◌&&◌, find, not, position, is_inside, and_parts, false≢true, eqb-true, slice_get_within, slice_get_read, nat_tests, RingKind, Shape, IsShape, declared, floor_number, ceiling, is_move, is_placement, ceiling_within, Ring, Header, IsHeader, id_of, is_driver_kind, is_transfer_kind, ring_having, ring_with, shape_of, Known, RingRecord, FollowsRing, ring_here, none_here, find_some, ring_found, shape_allowed, shape_there, some_ring, among_at, FollowsRings, Binding, is_bad_dequeue, is_bad_stay, is_placed, DriverKeeps, IsTransferRing}

pub driver : (kind : RingKind) → is_transfer_kind kind ≡ true → is_driver_kind kind ≡ true
driver kind e = search rules

-- the ring that has a block
pub having_transfer : (h : Header) → IsHeader h → (a r : ℕ) → ring_having h a ≡ Some r → IsTransferRing h r
unfolding ring_having
having_transfer h headed a r e = by (find here h.rings) refl e
  where
    here : Ring → Bool
    here q = is_transfer_kind q.shape.kind && is_inside q.shape a

    by : (o : Option Ring) → find here h.rings ≡ o → id_of o ≡ Some r → IsTransferRing h r
    by None at e = let none : None ≡ Some r = e in absurd (cc none)
    by (Some q) at e =
        let there = find_some here h.rings q at in
        search (rules, ring_found, and_parts, there)

module _ (h : Header) (k : Known) where
  -- something is left on its ring
  pub left_over : (o : Option ℕ) (r : ℕ) → o ≡ Some r → (b : Binding) → (declared (k.ring r) ≡ floor_number (k.ring r) → ⊥) → true ≡ is_bad_stay h k o b
  unfolding is_bad_stay
  left_over o r has b some = search (rules, nat_tests)

  module _ (r : ℕ) (shape : Shape) (shape_is : shape_of h r ≡ shape) where
    pub placed : (p : ℕ) (cycle : Bool) → is_placement shape (k.ring r) p cycle ≡ is_placed h k (Some r) (record { pointer = p; cycle = cycle })
    unfolding is_placed
    placed p cycle = ap (λ (x : Shape). is_placement x (k.ring r) p cycle) (sym shape_is)

    pub bad_dequeue : (o : Option ℕ) → o ≡ Some r → (p : ℕ) (cycle : Bool) → not (is_move shape (k.ring r) p cycle (ceiling shape (k.ring r)) (declared (k.ring r))) ≡ is_bad_dequeue h k o p cycle
    unfolding is_bad_dequeue
    bad_dequeue o has p cycle = search (rules, shape_is)

    pub bad_stay : (o : Option ℕ) → o ≡ Some r → (b : Binding) → (declared (k.ring r) ≡ floor_number (k.ring r)) →
        not (is_move shape (k.ring r) b.pointer b.cycle (declared (k.ring r)) (declared (k.ring r))) ≡ is_bad_stay h k o b
    unfolding is_bad_stay
    bad_stay o has b nothing = search (rules, shape_is, nat_tests)

-- what is known of the record of a ring with this shape
pub record IsRecordOf (h : Header) (k : Known) (r : ℕ) (shape : Shape) (known : RingRecord) : Type 0 where
  pub shape_is : shape_of h r ≡ shape
  pub follows : FollowsRing shape (k.ring r) known
  pub low : floor_number (k.ring r) ≤ ceiling shape (k.ring r)

module _ (h : Header) (headed : IsHeader h) (k : Known) (records : List RingRecord) (f : FollowsRings h k records) (keeps : DriverKeeps h k) (r : ℕ) (is_transfer : IsTransferRing h r) where
  abbrev named : Ring → Bool
  named q = q.id == r

  -- it is one of the header's
  pub is_there : position (λ (q : Ring). q.id == r) h.rings ≡ None → ⊥
  is_there none =
      let at = find_some named h.rings is_transfer.ring is_transfer.found in
      false≢true (sym (none_here h named h.rings none refl is_transfer.ring at.0) ∙ at.1)

  pub of_transfer : (n : ℕ) (ring : Ring) → position (λ (q : Ring). q.id == r) h.rings ≡ Some n → ring ≡ get_or h.rings n ring → (known : RingRecord) → known ≡ get_or records n known → IsRecordOf h k r ring.shape known
  of_transfer n ring at item known read =
      let here = ring_here h named h.rings n ring at refl item in
      let within = slice_get_within h.rings n ring here.0 in
      let there = slice_get_read records (length records) n known refl (omega (arith, f.as_many, within)) read in
      let same = eqb-true ring.id r here.1 in
      let among = among_at h.rings n ring here.0 in
      let found : ring_with h r ≡ Some ring = ap (ring_with h) (sym same) ∙ ring_found h headed ring among in
      let shape_is : shape_of h r ≡ ring.shape = ap (shape_of h) (sym same) ∙ shape_there h headed ring among in
      let kind = driver ring.shape.kind (subst (λ (q : Ring). is_transfer_kind q.shape.kind ≡ true) (some_ring is_transfer.ring ring (sym is_transfer.found ∙ found)) is_transfer.kind) in
      record {
        shape_is = shape_is;
        follows = subst (λ (m : ℕ). FollowsRing ring.shape (k.ring m) known) same (f.each n ring known here.0 there kind);
        low = subst (λ (x : Shape). floor_number (k.ring r) ≤ ceiling x (k.ring r)) shape_is
            (ceiling_within (shape_of h r) (subst (λ (x : Shape). IsShape x) (sym shape_is) (shape_allowed h headed ring among)) k.memory (k.ring r) (keeps.rings r (record { ring = ring; found = found; kind = kind }))).0;
      }
