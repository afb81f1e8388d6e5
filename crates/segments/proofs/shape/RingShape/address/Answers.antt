use Rattle.segments.proofs.UpperLaws.{IsSegmentOf, ◌≡◌, ◌+◌, arith, refl, data_count, place_of, segment_at, before, before-next, shape_facts, ahead_here, first_is, place_within, segment_is, sees_from, Sees}
use Rattle.segments.proofs.shape.RingShape.address.Goals.{After-segment_of-number}
use Rattle.segments.proofs.shape.RingShape.address.Goals as goal

sees : (c : After-segment_of-number) → Sees c.args.self.now c.self.inside.kind c.self.inside.segments.items c.self.inside.places
sees c = sees_from c.args.self.now c.self.inside.kind c.self.inside.segments.items c.self.inside.offset c.self.inside.places c.self.view_is c.self.invariant.count

-- the segment of the position's place
of_segment : (c : After-segment_of-number) → IsSegmentOf c.self.inside.kind c.self.inside.segments.items c.place-place.result c.segment_of-number.result
of_segment c =
    c.segment_of-number.ensures c.self.inside.kind c.self.inside.segments.items c.self.invariant.found
    (place_within c.args.self.now c.self.inside.kind c.self.inside.segments.items c.self.inside.places c.place-place.result (sees c) c.place-place.ensures.fits)

pub index-requires : goal.index-requires
index-requires c = omega (arith, (of_segment c).number, c.self.invariant.found.firsts.many, c.self.inside.index.firsts.ok.0)

pub overflow_sub-block : goal.overflow_sub-block
overflow_sub-block c =
    let of = of_segment (goal.at.overflow_sub-block c).After-segment_of-number in
    omega (arith, first_is _ _ _ c.self.invariant.found _ _ of.number c.index.ensures, of.first)

pub index-requires-2 : goal.index-requires-2
index-requires-2 c = omega (arith, (of_segment (goal.at.index-requires-2 c).After-segment_of-number).number, c.self.inside.segments.ok.0)

pub overflow_add-result : goal.overflow_add-result
overflow_add-result c =
    let segments = c.self.inside.segments.items in
    let facts = shape_facts (record { kind = c.self.inside.kind; segments = segments; offset = c.self.inside.offset }) c.self.invariant.allowed in
    let of = of_segment (goal.at.overflow_add-result c).After-segment_of-number in
    let first : c.index.result.now ≡ before c.self.inside.kind c.self.inside.segments.items c.segment_of-number.result = first_is _ _ _ c.self.invariant.found _ _ of.number c.index.ensures in
    let here : c.index-2.result.now ≡ segment_at segments c.segment_of-number.result = segment_is segments _ _ of.number c.index-2.ensures in
    let s = facts.each c.segment_of-number.result of.number in
    rw here (omega (arith, s.end, s.data_within, of.end, before-next c.self.inside.kind segments c.segment_of-number.result of.number, c.from.ensures, first))

pub returns : goal.returns
returns c =
    let kind = c.self.inside.kind in
    let segments = c.self.inside.segments.items in
    let at = (goal.at.returns c).After-segment_of-number in
    let of = of_segment at in
    let first : c.index.result.now ≡ before c.self.inside.kind c.self.inside.segments.items c.segment_of-number.result = first_is _ _ _ c.self.invariant.found _ _ of.number c.index.ensures in
    let here : c.index-2.result.now ≡ segment_at segments c.segment_of-number.result = segment_is segments _ _ of.number c.index-2.ensures in
    let ahead : before kind segments c.segment_of-number.result + c.from.result ≡ place_of c.args.self.now c.args.position = omega (arith, of.first, c.from.ensures, c.place-place.ensures.value, first) in
    rw here (ahead_here c.args.self.now kind segments c.self.inside.places c.segment_of-number.result c.from.result (data_count kind (segment_at segments c.segment_of-number.result)) c.args.position
    (sees at) of.number ahead refl (omega (arith, of.end, before-next kind segments c.segment_of-number.result of.number)))
