use Rattle.segments.proofs.UpperLaws.{ℕ, IsNear, ◌≡◌, ◌%◌, ◌+◌, ◌/◌, ◌<◌, ◌∙◌, if◌then◌else◌, arith, refl, sym, ap, subst, length, Some, None, nat_lt, lt-ltb, le-ltb, cond-true, cond-false, data_count, place_count, place_at, segment_at, before, place_count_most, shape_facts, place_at-Link, first_is, segment_is, sees_from, outside_none, outside_near, place_here, place_nowhere, count_within}
use Rattle.segments.specs.declared.place.Place.TheVariants.{Data, Link}
use Rattle.segments.proofs.shape.RingShape.place_at.Goals.{In_ok-number, In_ok-block}
use Rattle.segments.proofs.shape.RingShape.place_at.Goals as goal

-- the segment that may have the address
near_is : (c : In_ok-number) → IsNear c.self.inside.segments.items c.args.address (Some c.in_ok-number.number)
near_is c =
    let segments = c.self.inside.segments.items in
    let sees = sees_from c.args.self.now c.self.inside.kind segments c.self.inside.offset c.self.inside.places c.self.view_is c.self.invariant.count in
    subst (λ ss. IsNear ss c.args.address (Some c.in_ok-number.number)) sees.segments_are (subst (λ o. IsNear c.args.self.now.segments c.args.address o) c.in_ok-number.was c.segment_near.ensures.near)

-- the word with the address, by the block of that segment
answer : (c : In_ok-block) → c.in_ok-number.number < length c.self.inside.segments.items → (n : ℕ) → n ≡ data_count c.self.inside.kind c.index-segment.result.now →
    place_at c.args.self.now c.args.address ≡ Some (if nat_lt c.in_ok-block.block n
    then Data (before c.self.inside.kind c.self.inside.segments.items c.in_ok-number.number + c.in_ok-block.block) (c.args.address % 16 / 4) else Link c.in_ok-number.number (c.args.address % 16 / 4))
answer c within n held =
    let kind = c.self.inside.kind in
    let segments = c.self.inside.segments.items in
    let here = segment_is segments c.in_ok-number.number c.index-segment.result.now within c.index-segment.ensures in
    let has = rw here at c.in_ok-block.ensures in
    place_here c.args.self.now (rw (← c.self.view_is) c.self.invariant.allowed) kind segments c.self.inside.places
    c.in_ok-number.number (before kind segments c.in_ok-number.number) c.in_ok-block.block n c.args.address
    (sees_from c.args.self.now kind segments c.self.inside.offset c.self.inside.places c.self.view_is c.self.invariant.count) within
    refl (held ∙ ap (data_count kind) here) c.if-address-ne0.false has.0 has.1

pub returns-in_err-number-clause-value : goal.returns-in_err-number-clause-value
returns-in_err-number-clause-value c =
    let shape = c.args.self.now in
    let near : IsNear shape.segments c.args.address None = subst (λ o. IsNear shape.segments c.args.address o) c.in_err-number.was c.segment_near.ensures.near in
    let nowhere : place_at shape c.args.address ≡ None =
    place_nowhere shape c.segment_near.ensures.allowed shape.kind shape.segments (place_count shape) (length shape.segments) (before shape.kind shape.segments (length shape.segments))
    c.args.address (record { kind_is = refl; segments_are = refl; places_are = refl }) (omega arith) (outside_none shape.kind shape.segments c.args.address near) in
    c.from_residual.ensures ∙ sym nowhere

pub index-segment-requires : goal.index-segment-requires
index-segment-requires c =
    omega (arith, (near_is (goal.at.index-segment-requires c).In_ok-number).0, c.self.inside.segments.ok.0)

pub returns-in_err-block-clause-value : goal.returns-in_err-block-clause-value
returns-in_err-block-clause-value c =
    let kind = c.self.inside.kind in
    let segments = c.self.inside.segments.items in
    let sees = sees_from c.args.self.now kind segments c.self.inside.offset c.self.inside.places c.self.view_is c.self.invariant.count in
    let near = near_is (goal.at.returns-in_err-block-clause-value c).In_ok-number in
    let here : c.index-segment.result.now ≡ segment_at segments c.in_ok-number.number = segment_is segments _ _ near.0 c.index-segment.ensures in
    let nowhere : place_at c.args.self.now c.args.address ≡ None =
    place_nowhere c.args.self.now (rw (← c.self.view_is) c.self.invariant.allowed) kind segments c.self.inside.places (length segments) (before kind segments (length segments))
    c.args.address sees (omega arith) (outside_near kind segments c.args.address c.in_ok-number.number near (rw here at c.in_err-block.ensures)) in
    c.from_residual-in_err-block.ensures ∙ sym nowhere

pub index-requires : goal.index-requires
index-requires c =
    omega (arith, (near_is (goal.at.index-requires c).In_ok-number).0, c.self.invariant.found.firsts.many, c.self.inside.index.firsts.ok.0)

pub overflow_add-result : goal.overflow_add-result
overflow_add-result c =
    let kind = c.self.inside.kind in
    let segments = c.self.inside.segments.items in
    let near = near_is (goal.at.overflow_add-result c).In_ok-number in
    let held = c.data_blocks.ensures ∙ ap (data_count kind) (segment_is segments c.in_ok-number.number c.index-segment.result.now near.0 c.index-segment.ensures) in
    let first = first_is kind segments c.self.inside.index c.self.invariant.found c.in_ok-number.number c.index.result.now near.0 c.index.ensures in
    let sees = sees_from c.args.self.now kind segments c.self.inside.offset c.self.inside.places c.self.view_is c.self.invariant.count in
    let within = count_within c.args.self.now kind segments c.self.inside.places c.in_ok-number.number c.index.result.now c.data_blocks.result sees near.0 first held in
    omega (arith, within, place_count_most (record { kind = kind; segments = segments; offset = c.self.inside.offset }) c.self.invariant.allowed, c.self.invariant.count, c.from.ensures)

pub overflow_cast-result : goal.overflow_cast-result
overflow_cast-result c =
    let facts = shape_facts (record { kind = c.self.inside.kind; segments = c.self.inside.segments.items; offset = c.self.inside.offset }) c.self.invariant.allowed in
    omega (arith, (near_is (goal.at.overflow_cast-result c).In_ok-number).0, facts.few)

pub returns-then-block-data_blocks-clause-value : goal.returns-then-block-data_blocks-clause-value
returns-then-block-data_blocks-clause-value c =
    let at = goal.at.returns-then-block-data_blocks-clause-value c in
    let near = near_is at.In_ok-number in
    let first = first_is c.self.inside.kind c.self.inside.segments.items c.self.inside.index c.self.invariant.found c.in_ok-number.number c.index.result.now near.0 c.index.ensures in
    rw (c.from.ensures, first) (sym (answer at.In_ok-block near.0 c.data_blocks.result c.data_blocks.ensures
    ∙ ap (λ p. Some p) (cond-true _ _ _ (lt-ltb c.in_ok-block.block c.data_blocks.result c.if-block-data_blocks.true))))

pub returns-else-block-data_blocks-clause-value : goal.returns-else-block-data_blocks-clause-value
returns-else-block-data_blocks-clause-value c =
    let at = goal.at.returns-else-block-data_blocks-clause-value c in
    sym (answer at.In_ok-block (near_is at.In_ok-number).0 c.data_blocks.result c.data_blocks.ensures
    ∙ ap (λ p. Some p) (cond-false _ _ _ (le-ltb c.in_ok-block.block c.data_blocks.result c.if-block-data_blocks.false)))

pub returns-else-block-data_blocks-clause-link : goal.returns-else-block-data_blocks-clause-link
returns-else-block-data_blocks-clause-link c =
    let value : Some (Link c.in_ok-number.number (c.args.address % 16 / 4)) ≡ place_at c.args.self.now c.args.address = returns-else-block-data_blocks-clause-value c in
    (place_at-Link c.args.self.now (rw (← c.self.view_is) c.self.invariant.allowed) c.args.address c.in_ok-number.number (c.args.address % 16 / 4) (sym value)).0
