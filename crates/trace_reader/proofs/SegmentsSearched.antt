-- Of segments that lie one behind the other only the last one to start before another segment's end can overlap it
use Rattle.trace_reader.proofs.Words.{common_steps, rules, ◌≡◌, ◌+◌, ◌-◌, ◌*◌, ◌^◌, ◌<◌, ◌≤◌, ◌&&◌, ◌||◌, ◌∷◌, ◌++◌, ◌∙◌, ℕ, Bool, true, false, not, inl, inr, List, [], All, drop, filter, map, min, nat_lt, refl, sym, ap, arith, and_parts, cases_lt, nat_tests, ranked, All-cons, All-head, All-nil, All-tail, All-weaker, Ordering, Equal, Greater, Less, are_apart, segments_overlap, Segment, LieApart, insert_entry, list_all, list_any, is_lt, match_ordering, nat_cmp, segment_of}

or_none : (a b : Bool) → (a || b) ≡ false → (a ≡ false) × (b ≡ false)
or_none a b is = search rules

-- ---- the search

starts_by : (last k : ℕ) (r : Ordering) → r ≡ nat_cmp last k → k ≤ last → not (is_lt r) ≡ true
starts_by last k r is by = search rules

starts_behind : (last k : ℕ) (r : Ordering) → r ≡ nat_cmp last k → last < k → not (is_lt r) ≡ false
starts_behind last k r is behind = search rules

-- those that start at an address or before it
abbrev pub up_to : ℕ → List (ℕ × ℕ) → List (ℕ × ℕ)
up_to last es = filter (λ e. true && not (is_lt (nat_cmp last e.0))) es

covered : (a b : Bool) → (a ≡ true → b ≡ true) → (a || b) ≡ b
covered a b f = search rules

module _ (s : Segment) (last : ℕ) (end : last ≡ min (s.base + (16 * s.count - 1)) (2 ^ 64 - 1)) where
  -- the segment overlaps this one
  abbrev meets : ℕ × ℕ → Bool
  meets e = segments_overlap s (segment_of e)

  abbrev meets_any : List (ℕ × ℕ) → Bool
  meets_any es = list_any (segments_overlap s) (map segment_of es)

  far : (e : ℕ × ℕ) → last < e.0 → e.0 < 2 ^ 64 → meets e ≡ false
  far e behind low = grind (arith, nat_tests, behind, low, end)

  near : (d e : ℕ × ℕ) → d.0 + 16 * d.1 ≤ e.0 → e.0 ≤ last → meets d ≡ true → meets e ≡ true
  near d e before by met = grind (arith, nat_tests, before, by, met, end)

  pub none_met : (es : List (ℕ × ℕ)) → LieApart es → up_to last es ≡ [] → meets_any es ≡ false
  none_met [] apart none = refl
  none_met (e ∷ es) (low, some, behind, rest) none = elim (cases_lt last e.0) [
    | inl past ↦
        rw (far e past low) (none_met es rest (sym (rw (starts_behind last e.0 (nat_cmp last e.0) refl past) refl) ∙ none))
    | inr by ↦ absurd (let there = starts_by last e.0 (nat_cmp last e.0) refl by in let some : e ∷ up_to last es ≡ [] = sym (rw there refl) ∙ none in grind (arith, some))
  ]

  -- what the last of them says of all
  record IsLast (es : List (ℕ × ℕ)) (e : ℕ × ℕ) : Type 0 where
    by : e.0 ≤ last
    behind : (n : ℕ) → All (λ t. n ≤ t.0) es → n ≤ e.0
    met : meets_any es ≡ meets e

  one_more : (d : ℕ × ℕ) (es : List (ℕ × ℕ)) (e : ℕ × ℕ) → All (λ t. d.0 + 16 * d.1 ≤ t.0) es → IsLast es e → IsLast (d ∷ es) e
  one_more d es e behind is = record {
    by = is.by;
    behind = λ n all. is.behind n (All-tail (λ t. n ≤ t.0) d es all);
    met = ap (λ b. meets d || b) is.met ∙ covered (meets d) (meets e) (near d e (is.behind (d.0 + 16 * d.1) behind) is.by);
  }

  first_or_later : (d : ℕ × ℕ) (es : List (ℕ × ℕ)) (e : ℕ × ℕ) → d.0 ≤ last → All (λ t. d.0 + 16 * d.1 ≤ t.0) es → LieApart es → ((t : List (ℕ × ℕ)) → up_to last es ≡ t ++ e ∷ [] → IsLast es e) →
      (t : List (ℕ × ℕ)) → d ∷ up_to last es ≡ t ++ e ∷ [] → IsLast (d ∷ es) e
  first_or_later d es e by behind rest later [] is = (search (rules, All-head, none_met))
  first_or_later d es e by behind rest later (f ∷ t) is = one_more d es e behind (later t (ap (λ l. drop 1 l) is))

  last_of : (es : List (ℕ × ℕ)) (e : ℕ × ℕ) → LieApart es → (t : List (ℕ × ℕ)) → up_to last es ≡ t ++ e ∷ [] → IsLast es e
  last_of [] e apart t is = absurd (grind (arith, common_steps))
  last_of (d ∷ es) e (low, some, behind, rest) t is = elim (cases_lt last d.0) [
    | inl past ↦ one_more d es e behind (last_of es e rest t (sym (rw (starts_behind last d.0 (nat_cmp last d.0) refl past) refl) ∙ is))
    | inr by ↦ first_or_later d es e by behind rest (last_of es e rest) t (sym (rw (starts_by last d.0 (nat_cmp last d.0) refl by) refl) ∙ is)
  ]

  pub last_met : (es t : List (ℕ × ℕ)) (e : ℕ × ℕ) → LieApart es → up_to last es ≡ t ++ e ∷ [] → segments_overlap s (segment_of e) ≡ meets_any es
  last_met es t e apart is = sym (last_of es e apart t is).met

-- ---- one segment more

module _ (k v : ℕ) (low : k < 2 ^ 64) (some : 0 < v) where
  abbrev new : Segment
  new = segment_of (k, v)

  -- a segment that this one doesn't overlap lies before it or behind it
  before : (e : ℕ × ℕ) → k < e.0 → segments_overlap new (segment_of e) ≡ false → k + 16 * v ≤ e.0
  before e less free = grind (arith, nat_tests, less, free, some)

  -- the entries with the new one, where it has no byte of them
  pub record IsAdded (es added : List (ℕ × ℕ)) : Type 0 where
    pub apart : LieApart added
    pub behind : (n : ℕ) → n ≤ k → All (λ t. n ≤ t.0) es → All (λ t. n ≤ t.0) added
    pub any : (p : Segment → Bool) → list_any p (map segment_of added) ≡ (p new || list_any p (map segment_of es))

  further : (e : ℕ × ℕ) (es added : List (ℕ × ℕ)) → LieApart (e ∷ es) → e.0 < k → segments_overlap new (segment_of e) ≡ false → IsAdded es added → IsAdded (e ∷ es) (e ∷ added)
  further e es added apart less free rest = record {
    apart = (apart.0, apart.1, rest.behind (e.0 + 16 * e.1) (grind (arith, nat_tests, less, free, some)) apart.2, rest.apart);
    behind = λ n by all. All-cons (λ t. n ≤ t.0) e added (All-head (λ t. n ≤ t.0) e es all) (rest.behind n by (All-tail (λ t. n ≤ t.0) e es all));
    any = λ p. ap (λ b. p (segment_of e) || b) (rest.any p) ∙ or_turns (p (segment_of e)) (p new) (list_any p (map segment_of es));
  } where
    or_turns : (a b c : Bool) → (a || (b || c)) ≡ (b || (a || c))
    or_turns true true c = refl
    or_turns true false c = refl
    or_turns false b c = refl

  placed : (e : ℕ × ℕ) (es : List (ℕ × ℕ)) (r : Ordering) → r ≡ nat_cmp k e.0 → LieApart (e ∷ es) → segments_overlap new (segment_of e) ≡ false → IsAdded es (insert_entry nat_cmp es k v) →
      IsAdded (e ∷ es) (match_ordering r ((k, v) ∷ e ∷ es) ((e.0, v) ∷ es) (e ∷ insert_entry nat_cmp es k v))
  placed e es Less is apart free rest = search (rules, before, All-weaker, All-cons)
  placed e es Equal is apart free rest = absurd (grind arith)
  placed e es Greater is apart free rest = further e es (insert_entry nat_cmp es k v) apart (ranked k e.0 Greater is) free rest

  pub added : (es : List (ℕ × ℕ)) → LieApart es → list_any (segments_overlap new) (map segment_of es) ≡ false → IsAdded es (insert_entry nat_cmp es k v)
  added [] apart free = record { apart = (low, some, All-nil (λ t. k + 16 * v ≤ t.0), tt); behind = λ n by all. All-cons (λ t. n ≤ t.0) (k, v) [] by all; any = λ p. refl }
  added (e ∷ es) apart free =
      let parts = or_none (segments_overlap new (segment_of e)) (list_any (segments_overlap new) (map segment_of es)) free in
      placed e es (nat_cmp k e.0) refl apart parts.0 (added es apart.3 parts.1)

-- ---- the segments of a ring more

overlap_turns : (s t : Segment) → segments_overlap s t ≡ segments_overlap t s
overlap_turns s t = grind (arith, nat_lt, Bool)

-- these segments may be added to others, and make all of the ring's with them
pub record AreLeft (all old rest now : List Segment) : Type 0 where
  pub some : list_all (λ s. nat_lt 0 s.count) rest ≡ true
  pub apart : are_apart rest ≡ true
  pub free : list_any (λ s. list_any (segments_overlap s) now) rest ≡ false
  pub any : (p : Segment → Bool) → (list_any p rest || list_any p now) ≡ (list_any p all || list_any p old)

module _ (x : Segment) (now next : List Segment) (more : (p : Segment → Bool) → list_any p next ≡ (p x || list_any p now)) where
  still_free : (rest : List Segment) → list_any (segments_overlap x) rest ≡ false → list_any (λ s. list_any (segments_overlap s) now) rest ≡ false →
      list_any (λ s. list_any (segments_overlap s) next) rest ≡ false
  still_free [] apart free = refl
  still_free (y ∷ ys) apart free =
      let here = or_none (segments_overlap x y) (list_any (segments_overlap x) ys) apart in
      let there = or_none (list_any (segments_overlap y) now) (list_any (λ s. list_any (segments_overlap s) now) ys) free in
      rw (more (segments_overlap y), overlap_turns y x, here.0, there.0) (still_free ys here.1 there.1)

  pub one_less : (all old rest : List Segment) → AreLeft all old (x ∷ rest) now → AreLeft all old rest next
  one_less all old rest left = search (rules, and_parts, or_none, still_free)
