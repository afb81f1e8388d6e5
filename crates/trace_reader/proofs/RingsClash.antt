-- A ring clashes with others where it overlaps one of all their segments, or is a second of its kind
use Rattle.trace_reader.proofs.Words.{rules, arith, common_steps, ◌≡◌, ◌||◌, ◌++◌, ◌∷◌, ◌∙◌, Bool, false, List, [], refl, sym, ap, Ring, Segment, clash, list_any, list_any-append, or_parts, rings_overlap, segments_overlap, AreSegmentsOf, is_second}
use Rattle.trace_reader.specs.SegmentsApart.{segments_of}

module _ {X : Type 0} where
  any_same : (f g : X → Bool) → ((x : X) → f x ≡ g x) → (xs : List X) → list_any f xs ≡ list_any g xs
  any_same f g same xs = search rules

  none_of : (xs : List X) → list_any (λ x. false) xs ≡ false
  none_of [] = refl
  none_of (x ∷ xs) = none_of xs

  any_either : (f g : X → Bool) (xs : List X) → list_any (λ x. f x || g x) xs ≡ (list_any f xs || list_any g xs)
  any_either f g [] = refl
  any_either f g (x ∷ xs) = grind (arith, Bool, any_either f g xs)

-- segments overlap one of all where they overlap one of a ring's
overlapped : (ss : List Segment) (others : List Ring) →
    list_any (λ q. list_any (λ s. list_any (segments_overlap s) q.shape.segments) ss) others ≡ list_any (λ s. list_any (segments_overlap s) (segments_of others)) ss
overlapped ss [] = sym (none_of ss)
overlapped ss (q ∷ qs) =
    ap (λ b. list_any (λ s. list_any (segments_overlap s) q.shape.segments) ss || b) (overlapped ss qs)
    ∙ sym (any_either (λ s. list_any (segments_overlap s) q.shape.segments) (λ s. list_any (segments_overlap s) (segments_of qs)) ss)
    ∙ sym (any_same _ (λ s. list_any (segments_overlap s) q.shape.segments || list_any (segments_overlap s) (segments_of qs))
    (λ s. list_any-append (segments_overlap s) q.shape.segments (segments_of qs)) ss)

parted : (r q : Ring) → clash r q ≡ (rings_overlap r.shape q.shape || is_second r q)
parted r q = grind (arith, Bool)

pub clashes : (r : Ring) (others : List Ring) (segments : List Segment) → AreSegmentsOf others segments →
    (list_any (λ s. list_any (segments_overlap s) segments) r.shape.segments || list_any (is_second r) others) ≡ list_any (clash r) others
clashes r others segments all =
    ap (λ b. b || list_any (is_second r) others)
    (any_same (λ s. list_any (segments_overlap s) segments) (λ s. list_any (segments_overlap s) (segments_of others)) (λ s. all (segments_overlap s)) r.shape.segments
    ∙ sym (overlapped r.shape.segments others))
    ∙ sym (any_same (clash r) (λ q. rings_overlap r.shape q.shape || is_second r q) (parted r) others ∙ any_either (λ q. rings_overlap r.shape q.shape) (is_second r) others)

-- with the segments of a ring more they are those of all
pub all_with : (rings : List Ring) (r : Ring) (old new : List Segment) → AreSegmentsOf rings old → ((p : Segment → Bool) → list_any p new ≡ (list_any p r.shape.segments || list_any p old)) →
    AreSegmentsOf (rings ++ r ∷ []) new
all_with rings r old new all more p = grind (arith, common_steps)

-- where it clashes with none, its segments overlap none of theirs
pub none_overlapped : (r : Ring) (others : List Ring) (segments : List Segment) → AreSegmentsOf others segments → list_any (clash r) others ≡ false →
    list_any (λ s. list_any (segments_overlap s) segments) r.shape.segments ≡ false
none_overlapped r others segments all none =
    (or_parts (list_any (λ s. list_any (segments_overlap s) segments) r.shape.segments) (list_any (is_second r) others) (clashes r others segments all ∙ none)).0
