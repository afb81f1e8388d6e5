-- Of a ring's segments only the last one to start before the end of some bytes can have one of them
use Rattle.segments.proofs.LowerLaws.{rules, min, list_any_none, IsLastOf, IsLastStart, ◌≡◌, ◌+◌, ◌-◌, ◌*◌, ◌<◌, ◌≤◌, ◌^◌, ◌&&◌, ◌||◌, ◌∷◌, ◌∙◌, ℕ, suc, List, [], refl, segments_overlap, rings_overlap, true, false, None, length, list_any, list_any_at, get_or_default, lt-ltb, ap, arith, cases_Bool, cases_lt, false_from_ne_true, false≢true, Shape, Segment, IsShape, overlap, touches, segment_at, same_segment, shape_facts}

module _ (shape : Shape) (is : IsShape shape) (at len last : ℕ) (some : 0 < len) (end : last ≡ min (at + (len - 1)) (2 ^ 64 - 1)) where
  -- segment j has one of the bytes
  abbrev meets : ℕ → Type 0
  meets j = overlap at len (segment_at shape.segments j).base (16 * (segment_at shape.segments j).count) ≡ true

  none_meets : ((j : ℕ) → j < length shape.segments → meets j → ⊥) → touches shape at len ≡ false
  none_meets none =
      rw (lt-ltb 0 len some) (list_any_none (λ (s : Segment). overlap at len s.base (16 * s.count)) shape.segments (λ j d below.
      false_from_ne_true _ (λ met. none j below (rw (get_or_default shape.segments j d (record { base = 0; count = 0 }) below) at met))))

  pub nothing_touched : IsLastStart shape.segments last None → touches shape at len ≡ false
  nothing_touched above = search (rules, none_meets, shape_facts)

  -- the last one has one where another has
  last_meets : (j k : ℕ) → IsLastOf shape.segments last j → k < length shape.segments → meets k → meets j
  last_meets j k of below met = search (rules, cases_lt, segment_at, shape_facts, same_segment)

  pub touched_last : (j : ℕ) → IsLastOf shape.segments last j → overlap at len (segment_at shape.segments j).base (16 * (segment_at shape.segments j).count) ≡ touches shape at len
  touched_last j of = search (rules, cases_Bool, segment_at, lt-ltb, list_any_at, none_meets, false≢true, last_meets, cases_Bool (overlap at len (segment_at shape.segments j).base (16 * (segment_at shape.segments j).count)))

pub each_touches : (b : Shape) (ss : List Segment) → ((j : ℕ) → j < length ss → 2 ≤ (segment_at ss j).count) →
    list_any (λ s. touches b s.base (16 * s.count)) ss ≡ list_any (λ s. list_any (segments_overlap s) b.segments) ss
each_touches b [] long = refl
each_touches b (s ∷ rest) long =
    let two : 2 ≤ s.count = long 0 (omega arith) in
    ap (λ t. (t && list_any (segments_overlap s) b.segments) || list_any (λ (q : Segment). touches b q.base (16 * q.count)) rest) (lt-ltb 0 (16 * s.count) (omega (arith, two)))
    ∙ ap (λ t. list_any (segments_overlap s) b.segments || t) (each_touches b rest (λ j below. long (suc j) (omega arith)))

-- rings overlap where one has a byte of a segment of the other
pub all_touch : (a b : Shape) → IsShape a → list_any (λ s. touches b s.base (16 * s.count)) a.segments ≡ rings_overlap a b
all_touch a b is = each_touches b a.segments (λ j below. ((shape_facts a is).each j below).blocks)
