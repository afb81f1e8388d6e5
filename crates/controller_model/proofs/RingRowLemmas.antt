-- Rings that come and go: what is kept of the others
unfoldable use Rattle.controller_model.proofs.Words.{emptied, resting, may_come}
use Rattle.controller_model.proofs.LowerLaws.{is_in_way, list_any, rules, remove, position-Some, fails_before_first, with_ring, without_descriptor, without_ring, length_from, no_ops, split_at, ◌≡◌, ◌≢◌, ◌==◌, ◌∷◌, ◌++◌, ◌<◌, ◌∙◌, if◌then◌else◌, ℕ, zero, suc, true, false, cases_Bool, is_transfer_kind, [], List, Some, None, not, find, filter, get_or, length, position, arith, ap, sym, refl, cases_eq, cond-true, cond-false, eq-eqb, ne_eqb, Header, Ring, ring_with, World, ring_held, put_same, put_other, inl, inr, listed}

-- ---- the rings that are there

found_before : (rings : List Ring) (x : Ring) (id : ℕ) → id ≢ x.id → find (λ r. r.id == id) (rings ++ x ∷ []) ≡ find (λ r. r.id == id) rings
found_before [] x id apart = cond-false (x.id == id) (Some x) (find (λ r. r.id == id) []) (ne_eqb x.id id (λ e. apart (sym e)))
found_before (y ∷ ys) x id apart = ap (λ o. if y.id == id then Some y else o) (found_before ys x id apart)

pub with_alike : (h : Header) (ring : Ring) (r : ℕ) → r ≢ ring.id → ring_with (with_ring h ring) r ≡ ring_with h r
unfolding with_ring
with_alike h ring r apart = found_before h.rings ring r apart

found_behind : (rings : List Ring) (gone id : ℕ) → id ≢ gone → find (λ r. r.id == id) (filter (λ r. not (r.id == gone)) rings) ≡ find (λ r. r.id == id) rings
found_behind [] gone id apart = refl
found_behind (y ∷ ys) gone id apart = grind (arith, cases_eq, cond-false, eq-eqb, ne_eqb, cond-true, found_behind ys gone id apart)

pub without_alike : (h : Header) (gone r : ℕ) → r ≢ gone → ring_with (without_ring h gone) r ≡ ring_with h r
unfolding without_ring
without_alike h gone r apart = found_behind h.rings gone r apart

-- of a header without the rings of an ID each ring is one of the header
out_found : (rings : List Ring) (gone id : ℕ) (q : Ring) → find (λ r. r.id == id) (filter (λ r. not (r.id == gone)) rings) ≡ Some q → find (λ r. r.id == id) rings ≡ Some q
out_found rings gone id q found = elim (cases_eq id gone) [
  | inl same ↦ absurd (none_with rings gone id q same found)
  | inr apart ↦ sym (found_behind rings gone id apart) ∙ found
]
  where
    none_with : (rings : List Ring) (gone id : ℕ) (q : Ring) → id ≡ gone → find (λ r. r.id == id) (filter (λ r. not (r.id == gone)) rings) ≡ Some q → ⊥
    none_with [] gone id q same found = absurd (cc)
    none_with (y ∷ ys) gone id q same found = grind (arith, cases_eq, cond-false, eq-eqb, ne_eqb, cond-true, none_with ys gone id q same)

pub without_lists : (h : Header) (gone r : ℕ) (q : Ring) → ring_with (without_ring h gone) r ≡ Some q → ring_with h r ≡ Some q
unfolding without_ring
without_lists h gone r q found = out_found h.rings gone r q found

-- a ring that is listed in place of one is found
found_last : (rings : List Ring) (x : Ring) → find (λ r. r.id == x.id) (filter (λ r. not (r.id == x.id)) rings ++ x ∷ []) ≡ Some x
found_last [] x = cond-true (x.id == x.id) (Some x) None (eq-eqb x.id x.id refl)
found_last (y ∷ ys) x = grind (arith, cases_eq, cond-false, eq-eqb, ne_eqb, cond-true, found_last ys x)

-- the newest command or event ring stands before all others
abbrev newest_first : Header → Ring → Header
newest_first h ring = record (without_ring h ring.id) { rings = ring ∷ (without_ring h ring.id).rings }

module _ (h : Header) (ring : Ring) where
  pub listed_last : is_transfer_kind ring.shape.kind ≡ true → listed h ring ≡ with_ring (without_ring h ring.id) ring
  unfolding listed
  listed_last transfer = cond-true (is_transfer_kind ring.shape.kind) (with_ring (without_ring h ring.id) ring) _ transfer

  pub listed_first : is_transfer_kind ring.shape.kind ≡ false → listed h ring ≡ newest_first h ring
  unfolding listed without_ring
  listed_first newest = cond-false (is_transfer_kind ring.shape.kind) (with_ring (without_ring h ring.id) ring) (newest_first h ring) newest

pub listed_here : (h : Header) (ring : Ring) → ring_with (listed h ring) ring.id ≡ Some ring
unfolding with_ring without_ring
listed_here h ring = elim (cases_Bool (is_transfer_kind ring.shape.kind)) [
  | inl transfer ↦ ap (λ g. ring_with g ring.id) (listed_last h ring transfer) ∙ found_last h.rings ring
  | inr newest ↦ ap (λ g. ring_with g ring.id) (listed_first h ring newest) ∙ cond-true (ring.id == ring.id) (Some ring) _ (eq-eqb ring.id ring.id refl)
]

pub listed_alike : (h : Header) (ring : Ring) (r : ℕ) → r ≢ ring.id → ring_with (listed h ring) r ≡ ring_with h r
listed_alike h ring r apart = elim (cases_Bool (is_transfer_kind ring.shape.kind)) [
  | inl transfer ↦ ap (λ g. ring_with g r) (listed_last h ring transfer) ∙ with_alike (without_ring h ring.id) ring r apart ∙ without_alike h ring.id r apart
  | inr newest ↦
      ap (λ g. ring_with g r) (listed_first h ring newest)
      ∙ cond-false (ring.id == r) (Some ring) (ring_with (without_ring h ring.id) r) (ne_eqb ring.id r (λ e. apart (sym e))) ∙ without_alike h ring.id r apart
]

-- a ring that may come has an ID that none has which lives
found_newest : (rings : List Ring) (x : Ring) → list_any (is_in_way x) rings ≡ false → find (λ r. r.id == x.id) (rings ++ x ∷ []) ≡ Some x
found_newest [] x none = cond-true (x.id == x.id) (Some x) None (eq-eqb x.id x.id refl)
found_newest (y ∷ ys) x none = grind (arith, cond-false, found_newest ys x)

pub coming_here : (live : Header) (ring : Ring) → may_come live ring ≡ true → ring_with (with_ring live ring) ring.id ≡ Some ring
unfolding may_come with_ring
coming_here live ring may = found_newest live.rings ring (grind arith)

pub coming_lists : (h live : Header) (ring : Ring) → may_come live ring ≡ true → ((r : ℕ) (q : Ring) → ring_with live r ≡ Some q → ring_with h r ≡ Some q) →
    (r : ℕ) (q : Ring) → ring_with (with_ring live ring) r ≡ Some q → ring_with (listed h ring) r ≡ Some q
coming_lists h live ring may lists r q found = elim (cases_eq r ring.id) [
  | inl same ↦
      ap (λ n. ring_with (listed h ring) n) same ∙ listed_here h ring
      ∙ sym (coming_here live ring may) ∙ sym (ap (λ n. ring_with (with_ring live ring) n) same) ∙ found
  | inr apart ↦ listed_alike h ring r apart ∙ lists r q (sym (with_alike live ring r apart) ∙ found)
]

-- rings with an ID are taken out one by one
one_out : (rings : List Ring) (n id : ℕ) (d : Ring) → n < length rings → ((get_or rings n d).id == id) ≡ true →
    filter (λ r. not (r.id == id)) (remove rings n) ≡ filter (λ r. not (r.id == id)) rings
one_out [] n id d inside is = absurd (omega arith)
one_out (y ∷ ys) zero id d inside is = grind (arith, cond-false)
one_out (y ∷ ys) (suc n) id d inside is = ap (λ zs. if not (y.id == id) then y ∷ zs else zs) (one_out ys n id d (omega arith) is)

pub one_dropped : (rings : List Ring) (n id : ℕ) → position (λ r. r.id == id) rings ≡ Some n →
    filter (λ r. not (r.id == id)) (remove rings n) ≡ filter (λ r. not (r.id == id)) rings
one_dropped [] n id found = absurd (cc)
one_dropped (y ∷ ys) n id found =
    let at = position-Some (λ (r : Ring). r.id == id) (y ∷ ys) n y found in
    one_out (y ∷ ys) n id y at.0 at.1

none_out : (rings : List Ring) (id : ℕ) → ((k : ℕ) (d : Ring) → k < length rings → ((get_or rings k d).id == id) ≡ false) → filter (λ r. not (r.id == id)) rings ≡ rings
none_out [] id none = refl
none_out (y ∷ ys) id none =
    cond-true (not (y.id == id)) (y ∷ filter (λ r. not (r.id == id)) ys) (filter (λ r. not (r.id == id)) ys) (ap not (none 0 y (omega arith)))
    ∙ ap (λ zs. y ∷ zs) (none_out ys id (λ k d inside. none (suc k) d (omega arith)))

pub none_dropped : (rings : List Ring) (id : ℕ) → position (λ r. r.id == id) rings ≡ None → filter (λ r. not (r.id == id)) rings ≡ rings
none_dropped rings id nowhere = grind (arith, none_out, fails_before_first)

pub nothing_listed : (rings : List Ring) → length rings ≡ 0 → rings ≡ []
nothing_listed [] none = refl
nothing_listed (y ∷ ys) none = absurd (omega arith)

pub without_is : (h : Header) (id : ℕ) (rings : List Ring) → rings ≡ filter (λ r. not (r.id == id)) h.rings → ◌≡◌ {A = Header} (record h { rings = rings }) (without_ring h id)
unfolding without_ring
without_is h id rings same = (λ i. record h { rings = same i })

-- ---- the world

pub resting_here : (w : World) (r : ℕ) → ring_held (resting w r) r ≡ record (ring_held w r) { queue = []; lengths = []; is_active = false; events = []; reported = 0 }
unfolding resting emptied
resting_here w r = search (rules, put_same)

pub resting_other : (w : World) (r q : ℕ) → q ≢ r → ring_held (resting w r) q ≡ ring_held w q
unfolding resting emptied
resting_other w r q apart = search (rules, put_other)

pub withdrawn_here : (w : World) (r p : ℕ) → ring_held (without_descriptor w r p) r
    ≡ record (ring_held w r) { queue = no_ops (w.queue r) p (length_from (w.lengths r) 0 p); lengths = split_at (w.lengths r) 0 p }
unfolding without_descriptor
withdrawn_here w r p = grind (arith, put_same)

pub withdrawn_other : (w : World) (r p q : ℕ) → q ≢ r → ring_held (without_descriptor w r p) q ≡ ring_held w q
unfolding without_descriptor
withdrawn_other w r p q apart = grind (arith, put_other)
