use Rattle.segments.proofs.UpperLaws.{IsShape, IsSegmentOf, Sees, ◌≡◌, ◌≢◌, ◌-◌, ◌+◌, ◌<◌, ◌∙◌, arith, rules, sym, ap, length, Some, data_count, place_of, link_crossed, segment_at, before, before-next, place_count_most, shape_facts, crosses, first_is, place_within, segment_is, sees_from, past_before, past_all, crossed_here, crossed_nowhere, count_within}
use Rattle.segments.proofs.shape.RingShape.crossing_by_segment.Goals.{After-segment_of-number, After-from}
use Rattle.segments.proofs.shape.RingShape.crossing_by_segment.Goals as goal

allowed : (c : After-segment_of-number) → IsShape c.args.self.now
allowed c = rw (← c.self.view_is) c.self.invariant.allowed

sees : (c : After-segment_of-number) → Sees c.args.self.now c.self.inside.kind c.self.inside.segments.items c.self.inside.places
sees c = sees_from c.args.self.now c.self.inside.kind c.self.inside.segments.items c.self.inside.offset c.self.inside.places c.self.view_is c.self.invariant.count

-- the segment of the place before the crossing
of_segment : (c : After-segment_of-number) → IsSegmentOf c.self.inside.kind c.self.inside.segments.items (place_of c.args.self.now (c.args.q - 1)) c.segment_of-number.result
of_segment c =
    rw (← c.place-last.ensures.value) (c.segment_of-number.ensures c.self.inside.kind c.self.inside.segments.items c.self.invariant.found
    (place_within c.args.self.now c.self.inside.kind c.self.inside.segments.items c.self.inside.places c.place-last.result (sees c) c.place-last.ensures.fits))

-- the places before that segment and in it
counts : (c : After-from) → c.segment_of-number.result < length c.self.inside.segments.items →
    (c.index-2.result.now ≡ before c.self.inside.kind c.self.inside.segments.items c.segment_of-number.result)
    × (c.from.result ≡ data_count c.self.inside.kind (segment_at c.self.inside.segments.items c.segment_of-number.result))
counts c within = (
  first_is c.self.inside.kind c.self.inside.segments.items c.self.inside.index c.self.invariant.found c.segment_of-number.result c.index-2.result.now within c.index-2.ensures,
  c.from.ensures ∙ c.data_blocks-data.ensures ∙ ap (data_count c.self.inside.kind) (segment_is c.self.inside.segments.items c.segment_of-number.result c.index.result.now within c.index.ensures),
)

pub index-requires : goal.index-requires
index-requires c = omega (arith, (of_segment (goal.at.index-requires c).After-segment_of-number).number, c.self.inside.segments.ok.0)

pub index-requires-2 : goal.index-requires-2
index-requires-2 c =
    omega (arith, (of_segment (goal.at.index-requires-2 c).After-segment_of-number).number, c.self.invariant.found.firsts.many, c.self.inside.index.firsts.ok.0)

pub overflow_add-end : goal.overflow_add-end
overflow_add-end c =
    let at = (goal.at.overflow_add-end c).After-segment_of-number in
    let of = of_segment at in
    let many = counts c of.number in
    let within = count_within c.args.self.now c.self.inside.kind c.self.inside.segments.items c.self.inside.places c.segment_of-number.result c.index-2.result.now c.from.result (sees at) of.number many.0 many.1 in
    omega (arith, within, place_count_most c.args.self.now (allowed at), (sees at).places_are)

pub overflow_add-last : goal.overflow_add-last
overflow_add-last c =
    let at = (goal.at.overflow_add-last c).After-segment_of-number in
    omega (arith, c.place-last.ensures.fits, place_count_most c.args.self.now (allowed at))

pub overflow_cast-result : goal.overflow_cast-result
overflow_cast-result c =
    let at = (goal.at.overflow_cast-result c).After-segment_of-number in
    let few = (shape_facts c.args.self.now (allowed at)).few in
    omega (arith, (of_segment at).number, few, ap length (sees at).segments_are)

pub returns-then-end-last-clause-value : goal.returns-then-end-last-clause-value
returns-then-end-last-clause-value c =
    let kind = c.self.inside.kind in
    let segments = c.self.inside.segments.items in
    let at = goal.at.returns-then-end-last-clause-value c in
    let of = of_segment at.After-segment_of-number in
    let many = counts at.After-from of.number in
    sym (crossed_here c.args.self.now (allowed at.After-segment_of-number) kind segments c.self.inside.places c.segment_of-number.result (before kind segments c.segment_of-number.result) c.from.result c.args.q
    (sees at.After-segment_of-number) (search rules) c.if-q-eq0.false of.number
    (past_before kind segments (place_of c.args.self.now (c.args.q - 1)) c.segment_of-number.result of) many.1 (omega (arith, many.0, c.if-end-last.true, c.place-last.ensures.value)))

pub returns-then-end-last-clause-link : goal.returns-then-end-last-clause-link
returns-then-end-last-clause-link c =
    let value : Some c.segment_of-number.result ≡ link_crossed c.args.self.now c.args.q = returns-then-end-last-clause-value c in
    (crosses c.args.self.now c.args.q c.segment_of-number.result (sym value)).link

pub returns-else-end-last-clause-value : goal.returns-else-end-last-clause-value
returns-else-end-last-clause-value c =
    let kind = c.self.inside.kind in
    let segments = c.self.inside.segments.items in
    let at = goal.at.returns-else-end-last-clause-value c in
    let of = of_segment at.After-segment_of-number in
    let many = counts at.After-from of.number in
    let next = before-next kind segments c.segment_of-number.result of.number in
    let other : before kind segments (c.segment_of-number.result + 1) ≢ place_of c.args.self.now (c.args.q - 1) + 1 = λ same. c.if-end-last.false (omega (arith, same, next, many.0, many.1, c.place-last.ensures.value)) in
    sym (crossed_nowhere c.args.self.now (allowed at.After-segment_of-number) kind segments c.self.inside.places (length segments) (before kind segments (length segments)) c.args.q
    (sees at.After-segment_of-number) c.if-q-eq0.false (omega arith)
    (past_all kind segments (place_of c.args.self.now (c.args.q - 1)) c.segment_of-number.result of other))
