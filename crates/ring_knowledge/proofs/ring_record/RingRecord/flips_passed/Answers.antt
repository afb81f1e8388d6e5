use Rattle.ring_knowledge.proofs.Laws.{rules, none-some, RingView, no_flips, Some, AtData, ◌≡◌, ◌∙◌, ap, sym, arith, number, not, lt-ltb, le-ltb, place_at, floor_number, ceiling, IsDue, data_is, found, data_no_link, none_in, behind_at, kept_at, passed_at, no_flip}
use Rattle.ring_knowledge.proofs.ring_record.RingRecord.flips_passed.Goals.{After-next_at-position}
use Rattle.ring_knowledge.proofs.ring_record.RingRecord.flips_passed.Goals as goal

pub returns-then-is_empty : goal.returns-then-is_empty
returns-then-is_empty c = λ v known. sym (no_flips c.args.shape.now v c.args.at c.args.word (λ p. known.marks.free p ∙ none_in c.args.self.now.free (c.is_empty.ensures.0 c.if-is_empty.true) p))

pub returns-then-index-ne3 : goal.returns-then-index-ne3
returns-then-index-ne3 c = λ v known.
    let at = found c.args.shape.now _ _ _ _ c.get.ensures.same c.in-Some-Data.ensures.value c.in-Some-Data.field-0-is in
    no_flip c.args.shape.now v c.args.self.now known.marks c.args.at c.args.word (λ i e. c.if-index-ne3.true (data_is c.in-Some-Data.place c.in-Some-Data.index i 3 (sym at ∙ e)).1)

-- the word is the control word of the place, and what is found is the place's due position
here : (c : After-next_at-position) (v : RingView) → v.floor ≡ c.args.self.now.floor → (place_at c.args.shape.now c.args.at ≡ Some (AtData c.in-Some-Data.place 3)) ×
    IsDue c.args.shape.now (floor_number v) c.in-Some-Data.place c.next_at-position.result
here c v same = search (rules, found, number)

pub returns-then-not-contains : goal.returns-then-not-contains
returns-then-not-contains c = λ v known.
    let is = here (goal.at.returns-then-not-contains c).After-next_at-position v known.marks.floor in
    kept_at c.args.shape.now v c.args.self.now known.marks c.args.at c.args.word c.in-Some-Data.place c.next_at-position.result is.0 is.1
    (known.marks.free c.next_at-position.result ∙ sym c.contains.ensures ∙ c.if-not-contains.true)

pub returns-then-position-ceiling : goal.returns-then-position-ceiling
returns-then-position-ceiling c = λ v known.
    let q = c.next_at-position.result in
    let is = here (goal.at.returns-then-position-ceiling c).After-next_at-position v known.marks.floor in
    behind_at c.args.shape.now v c.args.self.now known.marks c.args.at c.args.word c.in-Some-Data.place q is.0 is.1 (known.marks.free q ∙ sym c.contains.ensures ∙ c.if-not-contains.false)
    (le-ltb q (ceiling c.args.shape.now v) (omega (arith, c.ceiling.ensures c.args.shape.now v known, c.if-position-ceiling.true)))

pub returns-else-position-ceiling : goal.returns-else-position-ceiling
returns-else-position-ceiling c = λ v known.
    let q = c.next_at-position.result in
    let is = here (goal.at.returns-else-position-ceiling c).After-next_at-position v known.marks.floor in
    ap not c.has_cycle_of.ensures
    ∙ passed_at c.args.shape.now v c.args.self.now known.marks c.args.at c.args.word c.in-Some-Data.place q is.0 is.1 (known.marks.free q ∙ sym c.contains.ensures ∙ c.if-not-contains.false)
    (lt-ltb q (ceiling c.args.shape.now v) (omega (arith, c.ceiling.ensures c.args.shape.now v known, c.if-position-ceiling.false)))

pub returns-in-Some-Link : goal.returns-in-Some-Link
returns-in-Some-Link c = λ v known.
    let at = found c.args.shape.now _ _ _ _ c.get.ensures.same c.in-Some-Link.ensures.value c.in-Some-Link.field-0-is in
    no_flip c.args.shape.now v c.args.self.now known.marks c.args.at c.args.word (λ i e. data_no_link i 3 _ _ (sym e ∙ at))

pub returns-in-None : goal.returns-in-None
returns-in-None c = λ v known.
    let at = ap (λ m. place_at c.args.shape.now m) (sym c.get.ensures.same) ∙ sym c.in-None.ensures.value in
    no_flip c.args.shape.now v c.args.self.now known.marks c.args.at c.args.word (λ i e. none-some (AtData i 3) (sym at ∙ e))
