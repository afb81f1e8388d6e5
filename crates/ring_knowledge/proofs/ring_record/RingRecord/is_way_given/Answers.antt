use Rattle.ring_knowledge.proofs.Laws.{ap, sym, ◌∙◌, refl, max, number, same_note, way_without_link, way_with_link}
use Rattle.ring_knowledge.proofs.ring_record.RingRecord.is_way_given.Goals as goal

pub returns-in-None : goal.returns-in-None
returns-in-None c = λ v follows. way_without_link c.args.shape.now v c.args.q (sym c.in-None.ensures.value)

pub returns-in-Some : goal.returns-in-Some
returns-in-Some c = λ v follows.
    let count = c.from-places.ensures ∙ c.places.ensures.count in
    let floor = c.number.ensures ∙ sym (ap number follows.floor) in
    c.is_noted.ensures
    ∙ same_note _ _ _ _ c.in-Some.segment _ _ _ _ (c.max-least.ensures ∙ ap (λ n. max n 1) floor) count c.deref.ensures.value refl
    ∙ way_with_link c.args.shape.now v c.args.self.now follows c.args.q c.in-Some.segment (sym c.in-Some.ensures.value)
