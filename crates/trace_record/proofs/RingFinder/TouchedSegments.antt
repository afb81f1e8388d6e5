-- Of the segments that start before an end only the last can touch the bytes up to there, since no two segments have a byte in common
use Rattle.trace_record.proofs.UpperLaws.{sum_by, rules, common_steps, ◌≡◌, ◌+◌, ◌-◌, ◌*◌, ◌<◌, ◌≤◌, ◌∷◌, ◌∙◌, ◌&&◌, ◌||◌, ℕ, suc, zero, List, [], Bool, true, false, refl, ap, sym, arith, inl, inr, subst, length, get_or, get_or_default, not, nat_lt, map, cond, slice_get, Some, list_any, count_by, sum_by-append, sum_by-cons, sum_by-IsPermutation, get_or-le-sum_by, list_any_at, list_any-IsPermutation, Contains-get_or, cases_Bool, cases_lt, nat_tests, and_parts, IsPartitionPoint, is_in, is_in-true, lt-ltb, list_any_none, overlap, segment_has, is_inside, touches, are_apart, segments_overlap, rings_apart, IsShape, shape_facts, Xfer, Segment, Ring, Header, IsHeader, may_stand_together, touches_ring, Start, Finder, IsFinder, start_of, starts_from, any_append, any_map, any_nowhere, false_unless, from_not, first_apart, rest_together, together, allowed_at, bytes_some, cases_eq, among_get}

-- a segment has the byte
abbrev has : ℕ → Start → Bool
has b x = is_in b x.address x.bytes

-- a segment has one of these bytes
abbrev meets : ℕ → ℕ → Start → Bool
meets from len x = overlap from len x.address x.bytes

-- ---- a walk over the rings is one over where their segments start

all_meet : (from len m : ℕ) (rs : List Ring) →
    list_any (λ r. list_any (λ s. overlap from len s.base (16 * s.count)) r.shape.segments) rs ≡ list_any (meets from len) (starts_from m rs)
all_meet from len m [] = refl
all_meet from len m (r ∷ rest) = search (rules, any_append, map, start_of, starts_from, list_any, any_map, overlap, all_meet from len (m + 1) rest)

-- ---- no two segments have a byte in common

-- a segment that is apart from others has none of their bytes
others_lack : (s : Segment) (rest : List Segment) (b : ℕ) → list_any (segments_overlap s) rest ≡ false → segment_has b s ≡ true → list_any (segment_has b) rest ≡ false
others_lack s rest b apart here = false_unless (list_any (segment_has b) rest) (λ there.
    rings_apart (record { kind = Xfer; segments = s ∷ []; offset = 0 }) (record { kind = Xfer; segments = rest; offset = 0 }) b (ap (λ c. c || false) apart) (ap (λ c. c || false) here) there)

-- how many of the segments have the byte
abbrev having : ℕ → List Start → ℕ
having b xs = count_by (has b) xs

-- one where it is so
abbrev once : Bool → ℕ
once x = cond x 1 0

ring_once : (m : ℕ) (segments : List Segment) (b : ℕ) → are_apart segments ≡ true → having b (map (start_of m) segments) ≤ once (list_any (segment_has b) segments)
ring_once m [] b apart = omega arith
ring_once m (s ∷ rest) b apart =
    let parts = and_parts (not (list_any (segments_overlap s) rest)) (are_apart rest) apart in
    grind (arith, common_steps, segment_has, list_any, map, start_of, sum_by-cons, cond, others_lack, from_not, segments_overlap, ring_once m rest b parts.1)

others_outside : (r : Ring) (rest : List Ring) (b : ℕ) → may_stand_together (r ∷ rest) ≡ true → is_inside r.shape b ≡ true → list_any (λ q. is_inside q.shape b) rest ≡ false
others_outside r rest b together here =
    list_any_none (λ q. is_inside q.shape b) rest (λ k d below. false_unless _ (λ there. (first_apart r rest together _ (among_get rest k d below)).memory b here there))

all_once : (m : ℕ) (rs : List Ring) (b : ℕ) → may_stand_together rs ≡ true → ((i : ℕ) (r : Ring) → slice_get rs i ≡ Some r → IsShape r.shape) →
    having b (starts_from m rs) ≤ once (list_any (λ r. is_inside r.shape b) rs)
all_once m [] b together allowed = omega arith
all_once m (r ∷ rest) b together allowed =
    grind (
      arith,
      common_steps,
      starts_from,
      list_any,
      is_inside,
      sum_by-append (λ (x : Start). cond (has b x) 1 0) (map (start_of m) r.shape.segments) (starts_from (m + 1) rest),
      ring_once m r.shape.segments b (shape_facts r.shape
          (allowed 0 r refl)).apart,
      all_once (m + 1) rest b (rest_together r rest together) (λ i q e. allowed (suc i) q e),
      others_outside r rest b together,
    )

two_at : {X : Type 0} (f : X → ℕ) (xs : List X) (i k : ℕ) (d : X) → i < k → k < length xs → f (get_or xs i d) + f (get_or xs k d) ≤ sum_by f xs
two_at f [] i k d less below = absurd (omega arith)
two_at f (x ∷ xs) i zero d less below = absurd (omega arith)
two_at f (x ∷ xs) i (suc k) d less below = search (rules, sum_by-cons f x xs, get_or-le-sum_by f xs k d (omega arith), two_at f xs)

module _ (h : Header) (headed : IsHeader h) (f : Finder) (is : IsFinder h.rings f) where
  one_has : (b : ℕ) → having b f.starts.items ≤ 1
  one_has b =
      grind (arith, all_once 0 h.rings b (together h headed) (allowed_at h headed f is), sum_by-IsPermutation (λ (x : Start). cond (has b x) 1 0) (starts_from 0 h.rings) f.starts.items is.starts)

  -- a segment ends before the next one starts
  ends_before : (i k : ℕ) (d : Start) → i < k → k < length f.starts.items → (get_or f.starts.items i d).address + (get_or f.starts.items i d).bytes ≤ (get_or f.starts.items k d).address
  ends_before i k d less below =
      grind (arith, is.sorted i k d, bytes_some h headed f is (get_or f.starts.items k d) (Contains-get_or f.starts.items k d below), is_in-true, two_at (λ (x : Start). cond (has (get_or f.starts.items k d).address x) 1 0) f.starts.items i k d less below, one_has (get_or f.starts.items k d).address)

  module _ (from len after : ℕ) (point : IsPartitionPoint (λ s. nat_lt s.address (from + len) ≡ true) (λ s. nat_lt s.address (from + len) ≡ false) f.starts.items after) where
    far_away : (k : ℕ) (d : Start) → k < length f.starts.items → after ≤ k → meets from len (get_or f.starts.items k d) ≡ false
    far_away k d below late = let far = point.1 k d late below in grind (arith, nat_tests, far)

    none_meets : after ≡ 0 → list_any (meets from len) f.starts.items ≡ false
    none_meets none = list_any_none (meets from len) f.starts.items (λ k d below. far_away k d below (omega arith))

    last_meets : 0 < after → after ≤ length f.starts.items → (d : Start) →
        nat_lt from ((get_or f.starts.items (after - 1) d).address + (get_or f.starts.items (after - 1) d).bytes) ≡ list_any (meets from len) f.starts.items
    last_meets some bound d = elim (cases_Bool (nat_lt from ((get_or f.starts.items (after - 1) d).address + (get_or f.starts.items (after - 1) d).bytes))) [
      | inl reaches ↦ search (rules, list_any_at, nat_tests)
      | inr past ↦
          past ∙ sym (list_any_none (meets from len) f.starts.items (λ k e below.
          grind (arith, nat_tests, cases_lt k after, far_away k e below, cases_eq k (after - 1), get_or_default f.starts.items (after - 1) e d (omega arith), ends_before k (after - 1) e, past)))
    ]

  -- bytes that there are touch a ring where they meet one of the segments
  met : (from len : ℕ) → 0 < len → list_any (meets from len) f.starts.items ≡ touches_ring h from len
  unfolding touches_ring
  met from len some =
      sym (ap (λ b. list_any (λ (r : Ring). b && list_any (λ s. overlap from len s.base (16 * s.count)) r.shape.segments) h.rings) (lt-ltb 0 len some)
      ∙ all_meet from len 0 h.rings ∙ list_any-IsPermutation (meets from len) (starts_from 0 h.rings) f.starts.items is.starts)

  -- what the segments that start before the end of these bytes say
  module _ (from len end after : ℕ) (some : 0 < len) (at : end ≡ from + len)
      (border : IsPartitionPoint (λ s. nat_lt s.address end ≡ true) (λ s. nat_lt s.address end ≡ false) f.starts.items after) where
    point : IsPartitionPoint (λ s. nat_lt s.address (from + len) ≡ true) (λ s. nat_lt s.address (from + len) ≡ false) f.starts.items after
    point = subst (λ (e : ℕ). IsPartitionPoint (λ (s : Start). nat_lt s.address e ≡ true) (λ (s : Start). nat_lt s.address e ≡ false) f.starts.items after) at border

    pub none_before_end : after ≡ 0 → false ≡ touches_ring h from len
    none_before_end none = sym (none_meets from len after point none) ∙ met from len some

    pub last_before_end : 0 < after → after ≤ length f.starts.items → (d : Start) →
        nat_lt from ((get_or f.starts.items (after - 1) d).address + (get_or f.starts.items (after - 1) d).bytes) ≡ touches_ring h from len
    last_before_end any bound d = last_meets from len after point any bound d ∙ met from len some

-- of no bytes none is one of a ring
pub no_bytes : (h : Header) (from len : ℕ) → len ≡ 0 → false ≡ touches_ring h from len
unfolding touches_ring
no_bytes h from len none = sym (any_nowhere (λ (r : Ring). touches r.shape from len) (λ r. ap (λ n. touches r.shape from n) none) h.rings)
