use Rattle.ring_knowledge.proofs.Laws.{◌≡◌, ◌-◌, ◌∙◌, arith, Some, false, ap, sym, get_or, place_at, found}
use Rattle.ring_knowledge.proofs.UpperLaws.{◌||◌, AtLink, RingView, FollowsRing, data_no_link, link_is, none-some}
use Rattle.ring_knowledge.specs.BesideFree.{is_unrestored, stands_beside_free}
use Rattle.ring_knowledge.proofs.BesideFree.{none_beside, unmarked_beside, marked_beside}
use Rattle.ring_knowledge.proofs.ring_record.RingRecord.stands_beside_free.Goals.{After-crossing_behind-crossing}
use Rattle.ring_knowledge.proofs.ring_record.RingRecord.stands_beside_free.Goals as goal

pub returns-then-index-ne3 : goal.returns-then-index-ne3
returns-then-index-ne3 c = λ v known.
    let at = found c.args.shape.now _ _ _ _ c.get.ensures.same c.in-Some-Link.ensures.value c.in-Some-Link.field-0-is in
    none_beside _ v _ known.marks c.args.at (λ j here. c.if-index-ne3.true (link_is c.in-Some-Link.segment c.in-Some-Link.index j 3 (sym at ∙ here)).1)

pub returns-then-not-is_marked : goal.returns-then-not-is_marked
returns-then-not-is_marked c = λ v known.
    let at = found c.args.shape.now _ _ _ _ c.get.ensures.same c.in-Some-Link.ensures.value c.in-Some-Link.field-0-is in
    let clear = ap (λ marks. get_or marks c.in-Some-Link.segment false) (sym c.deref.ensures.value) ∙ sym c.is_marked.ensures ∙ c.if-not-is_marked.true in
    unmarked_beside _ v _ known.marks c.args.at c.in-Some-Link.segment (at ∙ ap (λ i. Some (AtLink c.in-Some-Link.segment i)) c.if-index-ne3.false) clear

-- what is found leads over the segment's Link
beside : (c : After-crossing_behind-crossing) (v : RingView) → FollowsRing c.args.shape.now v c.args.self.now →
    (is_unrestored v (c.crossing_behind-crossing.result - 1) || is_unrestored v c.crossing_behind-crossing.result) ≡ stands_beside_free c.args.shape.now v c.args.at
beside c v known =
    let at = found c.args.shape.now _ _ _ _ c.get.ensures.same c.in-Some-Link.ensures.value c.in-Some-Link.field-0-is in
    let mark = ap (λ marks. get_or marks c.in-Some-Link.segment false) (sym c.deref.ensures.value) ∙ sym c.is_marked.ensures ∙ c.if-not-is_marked.false in
    marked_beside _ v _ known.marks c.args.at c.in-Some-Link.segment c.crossing_behind-crossing.result (at ∙ ap (λ i. Some (AtLink c.in-Some-Link.segment i)) c.if-index-ne3.false) mark
    (omega arith) (omega arith) c.crossing_behind-crossing.ensures.over

pub returns-then-is_unrestored : goal.returns-then-is_unrestored
returns-then-is_unrestored c = λ v known.
    c.if-is_unrestored.true ∙ sym (ap (λ b. b || is_unrestored v c.crossing_behind-crossing.result) (sym (c.is_unrestored.ensures c.args.shape.now v known) ∙ c.if-is_unrestored.true))
    ∙ beside (goal.at.returns-then-is_unrestored c).After-crossing_behind-crossing v known

pub returns-else-is_unrestored : goal.returns-else-is_unrestored
returns-else-is_unrestored c = λ v known.
    c.is_unrestored-else-is_unrestored.ensures c.args.shape.now v known
    ∙ sym (ap (λ b. b || is_unrestored v c.crossing_behind-crossing.result) (sym (c.is_unrestored.ensures c.args.shape.now v known) ∙ c.if-is_unrestored.false))
    ∙ beside (goal.at.returns-else-is_unrestored c).After-crossing_behind-crossing v known

pub returns-in-Some-Data : goal.returns-in-Some-Data
returns-in-Some-Data c = λ v known.
    let at = found c.args.shape.now _ _ _ _ c.get.ensures.same c.in-Some-Data.ensures.value c.in-Some-Data.field-0-is in
    none_beside _ v _ known.marks c.args.at (λ j here. data_no_link _ _ j 3 (sym at ∙ here))

pub returns-in-None : goal.returns-in-None
returns-in-None c = λ v known.
    let at = ap (λ m. place_at c.args.shape.now m) (sym c.get.ensures.same) ∙ sym c.in-None.ensures.value in
    none_beside _ v _ known.marks c.args.at (λ j here. none-some _ (sym at ∙ here))
