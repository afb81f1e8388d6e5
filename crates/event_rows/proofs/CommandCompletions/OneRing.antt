-- The records of rings where one ring has changed
use Rattle.event_rows.proofs.Words.{rules, ◌≡◌, ◌≢◌, ◌∙◌, ◌∷◌, ◌==◌, ◌⊎◌, ℕ, zero, suc, List, [], Bool, true, Option, None, Some, refl, ap, sym, subst, inl, inr, arith, slice_get, slice_set, position, eq-eqb, false≢true, length-set, Spot, number, RingView, Reaches, Holds, changed, ceiling, target, Ring, Header, IsHeader, is_driver_kind, shape_of, RingRecord, FollowsRing, Known, on_ring, set_to, bound_to, moved, moved_to, held_at_ceiling, FollowsRings, Apart, among_at, numbers_apart, none_here, shape_there, together, ring_here, ring_elsewhere, set_on, ◌-◌}

-- ---- what is known of rings

pub rings_same : (h : Header) (k l : Known) (rs : List RingRecord) → FollowsRings h k rs → l.ring ≡ k.ring → FollowsRings h l rs
rings_same h k l rs f same =
    record { as_many = f.as_many; each = λ n q r at is d. subst (λ v. FollowsRing q.shape v r) (ap (λ (g : ℕ → RingView). g q.id) (sym same)) (f.each n q r at is d) }

-- the pointer of a ring is set
pub set_here : (h : Header) (k : Known) (r : ℕ) (t : Spot) → (set_to h k r t).ring r ≡ set_on (shape_of h r) (k.ring r) (Some t)
unfolding set_to
set_here h k r t = search (rules, ring_here)

pub set_apart : (h : Header) (k : Known) (r q : ℕ) (t : Spot) → q ≢ r → (set_to h k r t).ring q ≡ k.ring q
unfolding set_to
set_apart h k r q t other = ring_elsewhere h (on_ring h k r (Reaches t)) r q (Holds (number t)) other ∙ ring_elsewhere h k r q (Reaches t) other

-- of k only ring r has changed, and is v now
pub record IsOnRing (k l : Known) (r : ℕ) (v : RingView) : Type 0 where
  pub here : l.ring r ≡ v
  pub apart : (q : ℕ) → q ≢ r → l.ring q ≡ k.ring q

pub on_moved : (h : Header) (k : Known) (r p : ℕ) (cycle : Bool) →
    IsOnRing k (moved h k (Some r) p cycle) r (set_on (shape_of h r) (k.ring r) (target (shape_of h r) (k.ring r) p cycle))
unfolding moved moved_to
on_moved h k r p cycle = search (rules, set_here, set_apart)

pub on_held : (h : Header) (k : Known) (r : ℕ) → IsOnRing k (held_at_ceiling h k (Some r)) r (changed (shape_of h r) (k.ring r) (Holds (ceiling (shape_of h r) (k.ring r))))
unfolding held_at_ceiling
on_held h k r = search (rules, ring_here, ring_elsewhere)

-- the ring that an endpoint gets is moved as any other
pub bound_moves : (h : Header) (k : Known) (s i : ℕ) (o : Option ℕ) (p : ℕ) (cycle : Bool) → (bound_to h k s i o p cycle).ring ≡ (moved h k o p cycle).ring
unfolding bound_to moved
bound_moves h k s i o p cycle = search rules

-- ---- the records

-- in a list with a new element at n
at_set : {X : Type 0} (xs : List X) (n i : ℕ) (y x : X) → slice_get (slice_set xs n y) i ≡ Some x → ((i ≡ n) × (y ≡ x)) ⊎ ((i ≢ n) × (slice_get xs i ≡ Some x))
at_set [] n i y x e = search (rules)
at_set (z ∷ xs) zero i y x e = grind arith
at_set (z ∷ xs) (suc n) i y x e = grind (arith, at_set xs n (i - 1) y x)

pub one_at : (rs : List Ring) (i : ℕ) (q r : Ring) → slice_get rs i ≡ Some q → slice_get rs i ≡ Some r → q ≡ r
one_at rs i q r e f = search rules

module _ (h : Header) (headed : IsHeader h) (k l : Known) (id : ℕ) (v : RingView) (on : IsOnRing k l id v) (rs : List RingRecord) (f : FollowsRings h k rs) where
  -- no ring has the ID
  pub rings_elsewhere : position (λ ring. ring.id == id) h.rings ≡ None → FollowsRings h l rs
  rings_elsewhere none = record {
    as_many = f.as_many;
    each = λ n ring r at there driver.
        let other : ring.id ≢ id = λ same. false≢true (sym (none_here h (λ q. q.id == id) h.rings none refl ring (among_at h.rings n ring at)) ∙ eq-eqb ring.id id same) in
        subst (λ w. FollowsRing ring.shape w r) (sym (on.apart ring.id other)) (f.each n ring r at there driver);
  }

  -- the ring with the ID has this record now
  module _ (n : ℕ) (ring : Ring) (at : slice_get h.rings n ≡ Some ring) (named : ring.id ≡ id) where
    pub ring_shape : shape_of h id ≡ ring.shape
    ring_shape = ap (λ i. shape_of h i) (sym named) ∙ shape_there h headed ring (among_at h.rings n ring at)

    pub rings_with : (new : RingRecord) → (is_driver_kind ring.shape.kind ≡ true → FollowsRing ring.shape v new) → FollowsRings h l (slice_set rs n new)
    rings_with new here = record {
      as_many = length-set rs n new ∙ f.as_many;
      each = λ i q r there is driver. elim (at_set rs n i new r is) [
        | inl same ↦
            let one : q ≡ ring = one_at h.rings n q ring (ap (λ j. slice_get h.rings j) (sym same.0) ∙ there) at in
            let kind : is_driver_kind ring.shape.kind ≡ true = ap (λ (y : Ring). is_driver_kind y.shape.kind) (sym one) ∙ driver in
            let view : l.ring ring.id ≡ v = ap l.ring named ∙ on.here in
            subst (λ (x : RingRecord). FollowsRing q.shape (l.ring q.id) x) same.1
            (subst (λ (y : Ring). FollowsRing y.shape (l.ring y.id) new) (sym one) (subst (λ w. FollowsRing ring.shape w new) (sym view) (here kind)))
        | inr other ↦
            let apart : Apart q ring = numbers_apart h.rings (together h headed) i n q ring there at other.0 in
            subst (λ w. FollowsRing q.shape w r) (sym (on.apart q.id (λ e. apart.ids (e ∙ sym named)))) (f.each i q r there other.1 driver)
      ];
    }
