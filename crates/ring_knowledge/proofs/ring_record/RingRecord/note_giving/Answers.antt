use Rattle.ring_knowledge.proofs.Laws.{◌≡◌, ◌∙◌, rules, Some, true, refl, ap, sym, set, place_of, Writes, changed, Position, Crossing, positions_of, crossings_of, counts_on, written_step, nothing_noted, position_noted, crossing_noted, over_a_link}
use Rattle.ring_knowledge.proofs.ring_record.RingRecord.note_giving.Goals as goal

pub returns-in-None : goal.returns-in-None
returns-in-None c = λ v a w known positions crossings.
    nothing_noted c.args.shape.now v a w c.args.self.now known.marks known (positions ∙ ap positions_of c.in-None.is) (crossings ∙ ap crossings_of c.in-None.is)

pub returns-in-Some-Position : goal.returns-in-Some-Position
returns-in-Some-Position c =
    let shape = c.args.shape.now in
    let r = c.args.self.now in
    let is : c.args.giving ≡ Some (Position c.in-Some-Position.position) = search rules in
    let marks : c.set_mark.new.marks.items ≡ set r.given.items (place_of shape c.in-Some-Position.position) true =
    c.set_mark.ensures ∙ ap (λ i. set r.given.items i true) c.place.ensures.value in
    λ v a w known positions crossings.
    let noted =
    position_noted shape v a w r known.marks c.in-Some-Position.position (positions ∙ ap positions_of is) (crossings ∙ ap crossings_of is) in
    let now = changed shape v (Writes a w) in
    counts_on shape now _ (noted _ (record { forgotten = refl; blocks = refl; lengths = refl; floor = refl; held = refl; withdrawn = refl; free = refl; given_is = marks; crossed_is = refl })) r.count (λ q h. written_step shape v a w q (known.steps q h)) (c.first_not_given-self.ensures.steps now (noted _ (record { forgotten = refl; blocks = refl; lengths = refl; floor = refl; held = refl; withdrawn = refl; free = refl; given_is = marks; crossed_is = refl }))) (c.first_not_given-self.ensures.stop now (noted _ (record { forgotten = refl; blocks = refl; lengths = refl; floor = refl; held = refl; withdrawn = refl; free = refl; given_is = marks; crossed_is = refl })))

pub returns-in-Some : goal.returns-in-Some
returns-in-Some c =
    let shape = c.args.shape.now in
    let is : c.args.giving ≡ Some (Crossing c.in-Some-Crossing.crossing) = search rules in
    λ v a w known positions crossings.
    let noted =
    crossing_noted shape v a w c.args.self.now known.marks c.in-Some.segment c.in-Some-Crossing.crossing c.in-Some.ensures.link (sym c.in-Some.ensures.value)
    (positions ∙ ap positions_of is) (crossings ∙ ap crossings_of is) in
    let now = changed shape v (Writes a w) in
    counts_on shape now _ (noted _ (record { forgotten = refl; blocks = refl; lengths = refl; floor = refl; held = refl; withdrawn = refl; free = refl; given_is = refl; crossed_is = c.set_mark-in-Some.ensures })) c.args.self.now.count (λ q h. written_step shape v a w q (known.steps q h)) (c.first_not_given-self-in-Some.ensures.steps now (noted _ (record { forgotten = refl; blocks = refl; lengths = refl; floor = refl; held = refl; withdrawn = refl; free = refl; given_is = refl; crossed_is = c.set_mark-in-Some.ensures }))) (c.first_not_given-self-in-Some.ensures.stop now (noted _ (record { forgotten = refl; blocks = refl; lengths = refl; floor = refl; held = refl; withdrawn = refl; free = refl; given_is = refl; crossed_is = c.set_mark-in-Some.ensures })))

pub returns-in_default : goal.returns-in_default
returns-in_default c =
    let shape = c.args.shape.now in
    let is : c.args.giving ≡ Some (Crossing c.in-Some-Crossing.crossing) = search rules in
    λ v a w known positions crossings.
    absurd (over_a_link shape v a w c.args.self.now known.marks c.in-Some-Crossing.crossing (crossings ∙ ap crossings_of is) (sym c.crossing.ensures.value ∙ c.in_default.is))
