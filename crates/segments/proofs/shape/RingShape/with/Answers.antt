use Rattle.std.proofs.Common.{◌≡◌, ◌+◌, ◌*◌, ◌^◌, ◌-◌, ◌++◌, ℕ, List, ◌≤◌, ◌<◌, take, drop, map, length, min, arith, rules, ap, sym, refl, subst, ◌∙◌}
use Rattle.std.proofs.lemmas.List.{drop_min, length-map, take_min}
use Rattle.segments.proofs.Words.{Segment, Shape, IsShape, place_count, segment_of}
use Rattle.segments.proofs.DataPlaces.{place_count_most}
use Rattle.segments.proofs.ShapeFacts.{shape_facts}
use Rattle.segments.specs.Places.{lap_of}
use Rattle.segments.specs.Growth.{grown}
use Rattle.segments.proofs.Blocks.{places_of}
use Rattle.segments.proofs.Grown.{many-grown, new_places-is, place_count-grown}
use Rattle.segments.proofs.shape.RingShape.with.Goals.{In_ok-segments}
use Rattle.segments.proofs.shape.RingShape.with.Goals as goal

-- what is made of these parts is the shape that has grown
made : (shape : Shape) (j q : ℕ) (new segments : List Segment) (split more offset : ℕ) → split ≡ min (j + 1) (length shape.segments) →
    segments ≡ take split shape.segments ++ new ++ drop split shape.segments → more ≡ length (places_of shape.kind new) → offset ≡ shape.offset + more * lap_of shape (q - 1) →
    ◌≡◌ {A = Shape} (record { kind = shape.kind; segments = segments; offset = offset }) (grown shape j new q)
unfolding grown
made shape j q new segments split more offset e s m o = rw (s, e, take_min (j + 1) shape.segments, drop_min (j + 1) shape.segments, o, m, new_places-is shape j new) refl

-- the new places
more_is : (c : In_ok-segments) → c.count_places-more.result ≡ length (places_of c.args.self.now.kind (map segment_of c.args.segments.now))
more_is c = c.count_places-more.ensures ∙ ap (λ (s : Shape). length (places_of s.kind (map segment_of c.args.segments.now))) c.self.view_is

is_grown : (c : In_ok-segments) → ◌≡◌ {A = Shape} (record { kind = c.self.inside.kind; segments = c.in_ok-segments.segments.items; offset = c.in-Some.offset })
    (grown c.args.self.now c.args.behind (map segment_of c.args.segments.now) c.args.at)
is_grown c =
    let new = map segment_of c.args.segments.now in
    let kind : c.self.inside.kind ≡ c.args.self.now.kind = ap (λ s. s.kind) c.self.view_is in
    let segments : c.self.inside.segments.items ≡ c.args.self.now.segments = ap (λ s. s.segments) c.self.view_is in
    let many : c.len.result ≡ length c.args.self.now.segments = omega (arith, c.self.inside.segments.ok.0, ap (λ ss. length ss) segments) in
    rw kind (made c.args.self.now c.args.behind c.args.at new c.in_ok-segments.segments.items c.min-split.result c.count_places-more.result c.in-Some.offset
    (c.min-split.ensures ∙ ap (λ n. min (c.args.behind + 1) n) many)
    (c.in_ok-segments.ensures ∙ ap (λ ss. take c.min-split.result ss ++ new ++ drop c.min-split.result ss) (c.as_slice.ensures.value ∙ segments))
    (more_is c) c.in-Some.ensures.1)

pub count_places-more-requires : goal.count_places-more-requires
count_places-more-requires c =
    let new = map segment_of c.args.segments.now in
    omega (arith, (shape_facts (grown c.args.self.now c.args.behind new c.args.at) c.requires).few, many-grown c.args.self.now c.args.behind new c.args.at, length-map c.args.segments.now segment_of)

pub new-requires : goal.new-requires
new-requires c =
    let then = grown c.args.self.now c.args.behind (map segment_of c.args.segments.now) c.args.at in
    let same = ap (λ (s : Shape). length s.segments) (is_grown (goal.at.new-requires c).In_ok-segments) in
    omega (arith, (shape_facts then c.requires).few, same, ap (λ ss. length ss) c.as_slice-2.ensures.value)

-- how many places there are then
places : (c : In_ok-segments) → c.self.inside.places + c.count_places-more.result ≡ place_count (grown c.args.self.now c.args.behind (map segment_of c.args.segments.now) c.args.at)
places c =
    let new = map segment_of c.args.segments.now in
    omega (arith, c.self.invariant.count, ap (λ s. place_count s) c.self.view_is, more_is c, new_places-is c.args.self.now c.args.behind new, place_count-grown c.args.self.now c.args.behind new c.args.at)

pub overflow_add-result : goal.overflow_add-result
overflow_add-result c = omega (arith, places (goal.at.overflow_add-result c).In_ok-segments, place_count_most (grown c.args.self.now c.args.behind (map segment_of c.args.segments.now) c.args.at) c.requires)

pub invariant_of-result : goal.invariant_of-result
invariant_of-result c =
    let is = is_grown (goal.at.invariant_of-result c).In_ok-segments in
    record {
      allowed = subst (λ s. IsShape s) (sym is) c.requires;
      count = places (goal.at.invariant_of-result c).In_ok-segments ∙ ap (λ s. place_count s) (sym is);
      found = rw (← c.as_slice-2.ensures.value) c.in_ok-index.ensures;
    }

pub returns : goal.returns
returns c = is_grown (goal.at.returns c).In_ok-segments
