-- One ring's state is changed
use Rattle.controller_model.proofs.Words.{rules, ◌≡◌, ◌≢◌, ◌<◌, ◌==◌, ◌∙◌, ◌∷◌, ℕ, zero, suc, refl, sym, List, [], Some, length, slice_get, get_or, set, subst, inl, inr, arith, eq-eqb, ne_eqb, cases_eq, cond-true, cond-false, slice_get-get_or, put, Header, RingState, RingHeld, FollowsRing, FollowsRings, Follows, FollowsSlots, FollowsEndpoints, ring_held, ring_with, shape_of, Kept, World}

pub put_same : {A : Type 0} (f : ℕ → A) (n : ℕ) (x : A) → put f n x n ≡ x
put_same f n x = cond-true (n == n) x (f n) (eq-eqb n n refl)

pub put_other : {A : Type 0} (f : ℕ → A) (n m : ℕ) (x : A) → m ≢ n → put f n x m ≡ f m
put_other f n m x apart = cond-false (m == n) x (f m) (ne_eqb m n apart)

pub slice_get-set_same : {X : Type 0} (xs : List X) (i : ℕ) (x y : X) → slice_get (set xs i x) i ≡ Some y → x ≡ y
slice_get-set_same [] i x y e = absurd (cc)
slice_get-set_same (z ∷ xs) zero x y e = cc
slice_get-set_same (z ∷ xs) (suc i) x y e = slice_get-set_same xs i x y e

pub slice_get-set_other : {X : Type 0} (xs : List X) (i j : ℕ) (x : X) → j ≢ i → slice_get (set xs i x) j ≡ slice_get xs j
slice_get-set_other [] i j x apart = refl
slice_get-set_other (z ∷ xs) zero zero x apart = absurd (apart refl)
slice_get-set_other (z ∷ xs) zero (suc j) x apart = refl
slice_get-set_other (z ∷ xs) (suc i) zero x apart = refl
slice_get-set_other (z ∷ xs) (suc i) (suc j) x apart = slice_get-set_other xs i j x (λ e. apart (omega arith))

-- the element at a place that is read
pub read_at : {X : Type 0} (xs : List X) (i r : ℕ) (x : X) → i ≡ r → r < length xs → x ≡ get_or xs i x → slice_get xs r ≡ Some x
read_at xs i r x same h value = grind (arith, slice_get-get_or)

follows_alike : (h g : Header) (q : ℕ) (held : RingHeld) (y : RingState) → ring_with g q ≡ ring_with h q → FollowsRing h q held y → FollowsRing g q held y
unfolding shape_of
follows_alike h g q held y same f = search rules

-- the state of ring r is replaced, and the world has the same of the other rings, which are the same by another header
pub ring_changed : {h g : Header} {before after : ℕ → RingHeld} {rings : List RingState} {i r : ℕ} {y x : RingState} {now : RingHeld} → i ≡ r → r < 256 →
    length rings ≡ 256 → y ≡ get_or rings i y → ((q : ℕ) → q ≢ r → ring_with g q ≡ ring_with h q) → FollowsRings h before rings →
    ((q : ℕ) → q ≢ r → after q ≡ before q) → after r ≡ now → (FollowsRing h r (before r) y → FollowsRing g r now x) → FollowsRings g after (set rings i x)
ring_changed {h = h} {g = g} {before = before} {after = after} {rings = rings} {i = i} {r = r} {y = y} {x = x} index low many value alike f others made turns = record {
  each = λ q z at. elim (cases_eq q r) [
    | inl same ↦
        let P : ℕ → Type 0 = λ n. slice_get (set rings n x) r ≡ Some z in
        let R : ℕ → Type 0 = λ n. slice_get (set rings i x) n ≡ Some z in
        let new : x ≡ z = slice_get-set_same rings r x z (subst P index (subst R same at)) in
        let Q : ℕ → Type 0 = λ n. FollowsRing g n (after n) z in
        let S : RingState → Type 0 = λ u. FollowsRing g r (after r) u in
        let T : RingHeld → Type 0 = λ held. FollowsRing g r held x in
        subst Q (sym same) (subst S new (subst T (sym made) (turns (f.each r y (read_at rings i r y index (omega arith) value)))))
    | inr apart ↦
        let P : RingHeld → Type 0 = λ held. FollowsRing g q held z in
        subst P (sym (others q apart))
        (follows_alike h g q (before q) z (alike q apart) (f.each q z (sym (slice_get-set_other rings i q x (λ e. apart (e ∙ index))) ∙ at)))
  ];
}

-- one part of what is kept is changed
pub with_rings : {h : Header} {words : ℕ → ℕ} {k : Kept} {w : World} → FollowsRings h (ring_held w) k.rings.items →
    (FollowsRings h (ring_held w) k.rings.items → Follows h words k w) → Follows h words k w
with_rings rings whole = whole rings

pub with_slots : {h : Header} {words : ℕ → ℕ} {k : Kept} {w : World} → FollowsSlots k.slots.items w.slot_state w.scribbles →
    (FollowsSlots k.slots.items w.slot_state w.scribbles → Follows h words k w) → Follows h words k w
with_slots slots whole = whole slots

pub with_endpoints : {h : Header} {words : ℕ → ℕ} {k : Kept} {w : World} → FollowsEndpoints k.endpoints.items w.endpoint_state w.ring_of w.isochronous →
    (FollowsEndpoints k.endpoints.items w.endpoint_state w.ring_of w.isochronous → Follows h words k w) → Follows h words k w
with_endpoints endpoints whole = whole endpoints
