use Rattle.ring_knowledge.proofs.Laws.{rules, ap, sym, ◌∙◌, refl, max, number, same_note, step_not_given, step_without_link, step_with_link}
use Rattle.ring_knowledge.proofs.ring_record.RingRecord.is_step_given.Goals as goal

pub returns-then-not-is_noted : goal.returns-then-not-is_noted
returns-then-not-is_noted c = search (rules, step_not_given, same_note, number)

pub returns-in-None : goal.returns-in-None
returns-in-None c = λ v follows.
    let count = c.from-places.ensures ∙ c.places.ensures.count in
    step_without_link c.args.shape.now v c.args.self.now follows c.args.q
    (sym (same_note _ _ _ _ _ _ _ _ _ (c.number-floor.ensures ∙ sym (ap number follows.floor)) count c.deref.ensures.value c.place.ensures.value)
    ∙ sym c.is_noted.ensures ∙ c.if-not-is_noted.false)
    (sym c.in-None.ensures.value)

pub returns-in-Some : goal.returns-in-Some
returns-in-Some c = λ v follows.
    let count = c.from-places.ensures ∙ c.places.ensures.count in
    let floor = c.number-floor.ensures ∙ sym (ap number follows.floor) in
    c.is_noted-in-Some.ensures
    ∙ same_note _ _ _ _ c.in-Some.segment _ _ _ _ (c.max.ensures ∙ ap (λ n. max n 1) floor) count c.deref-in-Some.ensures.value refl
    ∙ step_with_link c.args.shape.now v c.args.self.now follows c.args.q c.in-Some.segment
    (sym (same_note _ _ _ _ _ _ _ _ _ floor count c.deref.ensures.value c.place.ensures.value) ∙ sym c.is_noted.ensures ∙ c.if-not-is_noted.false)
    (sym c.in-Some.ensures.value)
