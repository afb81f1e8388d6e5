use Rattle.ownership_checker.proofs.Laws.{◌∙◌, sym, on_more, least_flips, least_unflipped, refused_too}
use Rattle.ownership_checker.proofs.pass.ring_pass.RingPass.check_restored.Goals as goal

pub returns-then-some_flips-clause-refused : goal.returns-then-some_flips-clause-refused
returns-then-some_flips-clause-refused g c = λ k tracked still.
    let m = g.M.WordMemory.words c.args.self.now.memory in
    let placed = c.place_behind-place.ensures k m tracked.follows still in
    least_flips c.args.self.now.header k c.args.row.now (sym (c.some_flips.ensures k m tracked.follows placed) ∙ c.if-some_flips.true)

pub returns-clause-ok : goal.returns-clause-ok
returns-clause-ok g c =
    let m = g.M.WordMemory.words c.args.self.now.memory in
    on_more c.check_row.result (λ ok k tracked still.
    let placed = c.place_behind-place.ensures k m tracked.follows still in
    (sym (c.some_flips.ensures k m tracked.follows placed) ∙ c.if-some_flips.false, ok k tracked placed)) c.check_row.ensures.ok

pub returns-clause-refused : goal.returns-clause-refused
returns-clause-refused g c =
    let m = g.M.WordMemory.words c.args.self.now.memory in
    refused_too c.check_row.result _ _ (λ r least k tracked still.
    let placed = c.place_behind-place.ensures k m tracked.follows still in
    least_unflipped c.args.self.now.header k c.args.row.now (sym (c.some_flips.ensures k m tracked.follows placed) ∙ c.if-some_flips.false) r
    (least k tracked placed)) c.check_row.ensures.refused
