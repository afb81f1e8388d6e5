-- A finder finds the ring that has an address, as a walk over all would
use Rattle.trace_record.proofs.MiddleLaws.{rules, common_steps, ◌≡◌, ◌+◌, ◌-◌, ◌*◌, ◌/◌, ◌%◌, ◌<◌, ◌≤◌, ◌∷◌, ◌++◌, ◌∙◌, ◌||◌, ℕ, zero, suc, List, [], Bool, true, false, Some, None, refl, ap, sym, arith, inl, inr, length, get_or, map, take, append_assoc, add-zero, zero-add, leb, leb-true, slice_get, position, le-leb, length-take, append-nil, Contains, list_any, IsNonDecreasingBy, IsPartitionPoint, cases_Bool, cases_eq, cases_lt, false≢true, slice_get_within, get_or_from_slice_get, take_more, Contains-permutation, IsPermutation-sym, Contains-get_or, Contains-append_left, Contains-append_right, Contains-append_cases, segment_at, shape_facts, Segment, IsShape, is_inside, segment_has, touches, touches-word, is_in-true, is_in-parts, Ring, Header, IsHeader, Start, Finder, IsFinder, IsRingBefore, start_of, starts_from, numbers_apart, among_at, together, shape_allowed, one_position, no_position, some_ring, get_or_default}

-- the starts, ring by ring
pub starts_append : (m : ℕ) (xs ys : List Ring) → starts_from m (xs ++ ys) ≡ starts_from m xs ++ starts_from (m + length xs) ys
starts_append m [] ys = ap (λ n. starts_from n ys) (sym (add-zero m))
starts_append m (r ∷ xs) ys = search (rules, length, map, start_of, append_assoc, starts_from, starts_append (m + 1) xs ys)

pub starts_push : (rings : List Ring) (i : ℕ) (ring : Ring) → i < length rings → ring ≡ get_or rings i ring → starts_from 0 (take (i + 1) rings) ≡ starts_from 0 (take i rings) ++ map (start_of i) ring.shape.segments
starts_push rings i ring below item = grind (arith, common_steps, length, take, length-take, starts_from, take_more, starts_append, get_or, map, start_of, append-nil)

-- a start has this number, and all its bytes lie inside
record Lies (m : ℕ) (inside : ℕ → Bool) (x : Start) : Type 0 where
  number : x.ring ≡ m
  covers : (b : ℕ) → x.address ≤ b → b < x.address + x.bytes → inside b ≡ true
  some : 0 < x.bytes

-- the starts of one ring lie inside it
starts_inside : (m : ℕ) (segments : List Segment) → ((j : ℕ) → j < length segments → 1 ≤ (segment_at segments j).count) → (x : Start) → Contains (map (start_of m) segments) x →
    Lies m (λ b. list_any (segment_has b) segments) x
starts_inside m [] some x (k, h, e) = absurd (omega arith)
starts_inside m (s ∷ rest) some x within =
    search (rules, Contains-append_cases (start_of m s ∷ []) (map (start_of m) rest) x within, segment_has, is_in-true, start_of, some 0 (omega arith), starts_inside m rest (λ j l. some (suc j) (omega arith)) x)

-- and each byte of a ring lies behind a start, in one segment
record Behind (m : ℕ) (inside : ℕ → Bool) (starts : List Start) (a : ℕ) : Type 0 where
  start : Start
  within : Contains starts start
  ring : start.ring ≡ m
  before : start.address ≤ a
  page : start.address / 65536 ≡ a / 65536
  between : (b : ℕ) → start.address ≤ b → b ≤ a → inside b ≡ true

starts_before : (m : ℕ) (segments : List Segment) (a : ℕ) →
    ((j : ℕ) → j < length segments → (segment_at segments j).base / 65536 ≡ ((segment_at segments j).base + 16 * (segment_at segments j).count - 1) / 65536) → list_any (segment_has a) segments ≡ true → Behind m (λ b. list_any (segment_has b) segments) (map (start_of m) segments) a
starts_before m [] a pages e = absurd (false≢true e)
starts_before m (s ∷ rest) a pages e = elim (cases_Bool (segment_has a s)) [
  | inl here ↦
      let bounds = is_in-parts a s.base (16 * s.count) here in
      let page : s.base / 65536 ≡ a / 65536 = omega (arith, bounds.0, bounds.1, pages 0 (omega arith)) in
      record { start = start_of m s; within = (0, omega arith, refl); ring = refl; before = bounds.0; page = page; between = search (rules, bounds.1, is_in-true, segment_has) }
  | inr elsewhere ↦
      let there = starts_before m rest a (λ j l. pages (suc j) (omega arith)) (sym (ap (λ c. c || list_any (segment_has a) rest) elsewhere) ∙ e) in
      search (rules, Contains-append_right (start_of m s ∷ []) (map (start_of m) rest) there.start there.within, there, segment_has)
]

-- of all rings
record StartOf (m : ℕ) (rs : List Ring) (x : Start) : Type 0 where
  number : ℕ
  ring : Ring
  at : slice_get rs number ≡ Some ring
  numbered : x.ring ≡ m + number
  covers : (b : ℕ) → x.address ≤ b → b < x.address + x.bytes → is_inside ring.shape b ≡ true
  some : 0 < x.bytes

all_inside : (m : ℕ) (rs : List Ring) → ((i : ℕ) (r : Ring) → slice_get rs i ≡ Some r → IsShape r.shape) → (x : Start) → Contains (starts_from m rs) x → StartOf m rs x
all_inside m [] allowed x (k, h, e) = absurd (omega arith)
all_inside m (r ∷ rest) allowed x within = elim (Contains-append_cases (map (start_of m) r.shape.segments) (starts_from (m + 1) rest) x within) [
  | inl first ↦
      let here = starts_inside m r.shape.segments (λ j l. let blocks = ((shape_facts r.shape (allowed 0 r refl)).each j l).blocks in omega (arith, blocks)) x first in
      record { number = 0; ring = r; at = refl; numbered = here.number ∙ sym (add-zero m); covers = here.covers; some = here.some }
  | inr later ↦
      let there = all_inside (m + 1) rest (λ i q e. allowed (suc i) q e) x later in
      record { number = suc there.number; ring = there.ring; at = there.at; numbered = omega (arith, there.numbered); covers = there.covers; some = there.some }
]

all_before : (m : ℕ) (rs : List Ring) (i : ℕ) (r : Ring) (a : ℕ) → ((j : ℕ) (q : Ring) → slice_get rs j ≡ Some q → IsShape q.shape) → slice_get rs i ≡ Some r → is_inside r.shape a ≡ true → Behind (m + i) (λ b. is_inside r.shape b) (starts_from m rs) a
all_before m [] i r a allowed at inside = search rules
all_before m (q ∷ rest) zero r a allowed at inside =
    let here = starts_before m q.shape.segments a (λ j l. ((shape_facts q.shape (allowed 0 q refl)).each j l).page) (rw (← some_ring q r at) at inside) in
    rw (← some_ring q r at) (search (rules, here, Contains-append_left (map (start_of m) q.shape.segments) (starts_from (m + 1) rest) here.start here.within, add-zero))
all_before m (q ∷ rest) (suc i) r a allowed at inside =
    grind (arith, Contains-append_right, start_of, starts_from, all_before (m + 1) rest i r a (λ j p e. allowed (suc j) p e) at inside)

-- the border of the starts at or before an address
module _ (starts : List Start) (sorted : IsNonDecreasingBy (λ s. s.address) starts) (a after : ℕ)
    (point : IsPartitionPoint (λ s. leb s.address a ≡ true) (λ s. leb s.address a ≡ false) starts after) where
  pub none_before : after ≡ 0 → IsRingBefore starts a None
  none_before none = search (rules, length, get_or, false≢true, leb, le-leb)

  pub last_before : 0 < after → after ≤ length starts → (d : Start) → IsRingBefore starts a (Some (get_or starts (after - 1) d).ring)
  last_before some below d =
      let y = get_or starts (after - 1) d in (
        y,
        Contains-get_or starts (after - 1) d (omega arith),
        refl,
        leb-true y.address a (point.0 (after - 1) d (omega arith) (omega arith)),
        λ s (k, inside, at) low.
            grind (arith, common_steps, cases_lt k after, get_or_default starts k s d inside, sorted k (after - 1) d, point.1 k s, le-leb s.address a low, false≢true),
      )

module _ (h : Header) (headed : IsHeader h) (f : Finder) (is : IsFinder h.rings f) where
  pub allowed_at : (i : ℕ) (r : Ring) → slice_get h.rings i ≡ Some r → IsShape r.shape
  allowed_at i r at = shape_allowed h headed r (among_at h.rings i r at)

  -- a start has the number of a ring, and lies in it
  start_is : (y : Start) → Contains f.starts.items y → StartOf 0 h.rings y
  start_is y within =
      all_inside 0 h.rings allowed_at y (Contains-permutation f.starts.items (starts_from 0 h.rings) y (IsPermutation-sym (starts_from 0 h.rings) f.starts.items is.starts) within)

  pub number_below : (y : Start) → Contains f.starts.items y → y.ring < length h.rings
  number_below y within = grind (arith, start_is, slice_get_within, start_is y within)

  pub bytes_some : (y : Start) → Contains f.starts.items y → 0 < y.bytes
  bytes_some y within = (start_is y within).some

  module _ (a : ℕ) (aligned : a % 4 ≡ 0) where
    inside_is : (i : ℕ) (r : Ring) → slice_get h.rings i ≡ Some r → touches r.shape a 4 ≡ is_inside r.shape a
    inside_is i r at = touches-word r.shape (allowed_at i r at) a aligned

    behind_in : (n : ℕ) (q : Ring) → slice_get h.rings n ≡ Some q → is_inside q.shape a ≡ true → Behind n (λ b. is_inside q.shape b) f.starts.items a
    behind_in n q there inside =
        let behind = all_before 0 h.rings n q a allowed_at there inside in
        search (rules, Contains-permutation (starts_from 0 h.rings) f.starts.items behind.start is.starts behind.within, behind.ring ∙ zero-add n)

    -- no start is at or before the address
    pub nothing_before : IsRingBefore f.starts.items a None → None ≡ position (λ ring. touches ring.shape a 4) h.rings
    nothing_before above = sym (no_position h.rings (λ ring. touches ring.shape a 4) (λ n ring at it. search (rules, behind_in n ring at (sym (inside_is n ring at) ∙ it), above)))

    -- no start is on the page of the address
    pub nothing_on_page : ((s : Start) → Contains f.starts.items s → s.address / 65536 ≡ a / 65536 → ⊥) → None ≡ position (λ ring. touches ring.shape a 4) h.rings
    nothing_on_page none = sym (no_position h.rings (λ ring. touches ring.shape a 4) (λ n ring at it. search (rules, behind_in n ring at (sym (inside_is n ring at) ∙ it), none)))

    -- the ring of a segment that has the address
    pub ring_covering : (y : Start) → Contains f.starts.items y → y.address ≤ a → a < y.address + y.bytes → Some y.ring ≡ position (λ q. touches q.shape a 4) h.rings
    ring_covering y within l u = search (rules, zero-add, one_position, together, touches, inside_is, start_is y within)

    module _ (number : ℕ) (before : IsRingBefore f.starts.items a (Some number)) (ring : Ring) (item : ring ≡ get_or h.rings number ring) where
      last : StartOf 0 h.rings before.0
      last = start_is before.0 before.1

      last_at : slice_get h.rings number ≡ Some last.ring
      last_at = ap (λ n. slice_get h.rings n) (sym before.2 ∙ last.numbered ∙ zero-add last.number) ∙ last.at

      is_last : ring ≡ last.ring
      is_last = item ∙ get_or_from_slice_get h.rings number last.ring ring last_at

      last_has : is_inside last.ring.shape a ≡ touches ring.shape a 4
      last_has = sym (inside_is number last.ring last_at) ∙ ap (λ (r : Ring). touches r.shape a 4) (sym is_last)

      -- the ring of the last start before the address has it
      pub ring_hit : touches ring.shape a 4 ≡ true → Some number ≡ position (λ q. touches q.shape a 4) h.rings
      ring_hit it = search (rules, one_position, together, touches, last, last_at, is_last, inside_is)

      -- or no ring has
      pub ring_miss : touches ring.shape a 4 ≡ false → None ≡ position (λ q. touches q.shape a 4) h.rings
      ring_miss it = sym (no_position h.rings (λ q. touches q.shape a 4) (λ n q there hits. elim (cases_eq n number) [
        | inl same ↦ search (rules, last, some_ring, slice_get, last_at, false≢true, last_has, is_inside, inside_is)
        | inr other ↦
            let behind = behind_in n q there (sym (inside_is n q there) ∙ hits) in
            let between = behind.between before.0.address (before.4 behind.start behind.within behind.before) before.3 in
            (numbers_apart h.rings (together h headed) n number q last.ring there last_at other).memory before.0.address between (last.covers before.0.address (omega arith) (omega
            (arith, last.some)))
      ]))
