-- Lists of rings that may stand together, with one more and with some left out
use Rattle.safety.proofs.Words.{rules, [], ◌≡◌, ◌*◌, ◌<◌, ◌||◌, ◌++◌, ◌∷◌, ◌∙◌, not, Bool, true, false, List, Some, None, find, filter, nat_lt, arith, refl, sym, ap, inl, inr, lt-ltb, Segment, rings_overlap, segments_overlap, cases_Bool, list_all, list_any, list_any-append, and_from, and_parts, or_from, cond-true, cond-false, false≢true, false_from_ne_true, none-some, not_from_false, not-true, any_of, some_of, from_filter, IsIn, Shape, Ring, clash, may_stand_together, overlap, touches, same_Some}
use Rattle.safety.proofs.DevicesKeep.AreaFacts.{overlap_turned}

pub all_more : (p : Ring → Bool) (rs : List Ring) (r : Ring) → list_all p rs ≡ true → p r ≡ true → list_all p (rs ++ r ∷ []) ≡ true
all_more p [] r all one = and_from (p r) true one refl
all_more p (y ∷ ys) r all one = let parts = and_parts (p y) (list_all p ys) all in and_from (p y) (list_all p (ys ++ r ∷ [])) parts.0 (all_more p ys r parts.1 one)

pub together_more : (rs : List Ring) (r : Ring) → may_stand_together rs ≡ true → ((q : Ring) → IsIn q rs → clash q r ≡ false) → may_stand_together (rs ++ r ∷ []) ≡ true
together_more [] r together apart = refl
together_more (y ∷ ys) r together apart =
    let parts = and_parts (not (list_any (clash y) ys)) (may_stand_together ys) together in
    let none : list_any (clash y) (ys ++ r ∷ []) ≡ false =
    list_any-append (clash y) ys (r ∷ []) ∙ or_from (list_any (clash y) ys) (clash y r || false) (not-true (list_any (clash y) ys) parts.0) (or_from (clash y r) false (apart y (inl refl)) refl) in
    and_from (not (list_any (clash y) (ys ++ r ∷ []))) (may_stand_together (ys ++ r ∷ [])) (not_from_false _ none) (together_more ys r parts.1 (λ q at. apart q (inr at)))

module _ (keep : Ring → Bool) where
  pub all_kept : (p : Ring → Bool) (rs : List Ring) → list_all p rs ≡ true → list_all p (filter keep rs) ≡ true
  all_kept p [] all = refl
  all_kept p (y ∷ ys) all =
      let parts = and_parts (p y) (list_all p ys) all in
      let rest = all_kept p ys parts.1 in
      elim (cases_Bool (keep y)) [ inl stays ↦ simp (stays, parts.0) rest | inr goes ↦ simp goes rest ]

  pub none_kept : (p : Ring → Bool) (rs : List Ring) → list_any p rs ≡ false → list_any p (filter keep rs) ≡ false
  none_kept p rs none = search (rules, false_from_ne_true, some_of, false≢true, any_of, from_filter)

  pub together_kept : (rs : List Ring) → may_stand_together rs ≡ true → may_stand_together (filter keep rs) ≡ true
  together_kept [] together = refl
  together_kept (y ∷ ys) together =
      let parts = and_parts (not (list_any (clash y) ys)) (may_stand_together ys) together in
      let rest = together_kept ys parts.1 in
      elim (cases_Bool (keep y)) [ inl stays ↦ simp (stays, none_kept (clash y) ys (not-true (list_any (clash y) ys) parts.0)) rest | inr goes ↦ simp goes rest ]

-- what isn't found passes nowhere
pub none_found : (p : Ring → Bool) (rs : List Ring) → find p rs ≡ None → (q : Ring) → IsIn q rs → p q ≡ false
none_found p [] none q at = absurd at
none_found p (y ∷ ys) none q at =
    elim (cases_Bool (p y)) [
      | inl passes ↦ absurd (none-some y (sym none ∙ cond-true (p y) (Some y) (find p ys) passes))
      | inr fails ↦ elim at [
        | inl here ↦ ap p here ∙ fails
        | inr later ↦ none_found p ys (sym (cond-false (p y) (Some y) (find p ys) fails) ∙ none) q later
      ]
    ]

-- a ring that no segment of another touches overlaps none of them
pub overlaps_none : (a b : Shape) → ((t : Segment) → IsIn t b.segments → 0 < t.count) → ((t : Segment) → IsIn t b.segments → touches a t.base (16 * t.count) ≡ false) → rings_overlap a b ≡ false
overlaps_none a b some apart =
    false_from_ne_true (rings_overlap a b) (λ o.
    let s = some_of (λ s. list_any (segments_overlap s) b.segments) a.segments o in
    let t = some_of (segments_overlap s.0) b.segments s.2 in
    let low : nat_lt 0 (16 * t.0.count) ≡ true = lt-ltb 0 (16 * t.0.count) (omega (arith, (some t.0 t.1))) in
    let turned = overlap_turned t.0.base (16 * t.0.count) s.0.base (16 * s.0.count)
    (false_from_ne_true _ (λ over. false≢true (sym (apart t.0 t.1) ∙ and_from _ _ low (any_of (λ x. overlap t.0.base (16 * t.0.count) x.base (16 * x.count)) a.segments s.0 s.1 over)))) in
    false≢true (sym turned ∙ t.2))

-- ---- some rings of a list

module _ (p keep : Ring → Bool) where
  -- what passes is among them, so the same one is found
  pub find_kept : (rs : List Ring) → ((q : Ring) → IsIn q rs → p q ≡ true → keep q ≡ true) → find p (filter keep rs) ≡ find p rs
  find_kept [] kept = refl
  find_kept (y ∷ ys) kept = grind (arith, cases_Bool (p y), cases_Bool (keep y), kept y (inl refl), find_kept ys (λ q at. kept q (inr at)))

  -- the one that is found is among them
  pub found_kept : (rs : List Ring) (q : Ring) → find p rs ≡ Some q → keep q ≡ true → find p (filter keep rs) ≡ Some q
  found_kept [] q found kept = absurd (none-some q found)
  found_kept (y ∷ ys) q found kept = grind (arith, cases_Bool (p y), cases_Bool (keep y), found_kept ys q, same_Some)
