use Rattle.ownership_checker.proofs.Laws.{goes_clean, ◌<◌, ◌∙◌, arith, length, refl, sym, err_from_is_err_and, without_end, header_now, known_now, lents, FreeRow, goes_behind, goes_refused, goes_logged, held_before, least_off, next_row}
use Rattle.ownership_checker.proofs.pass.ring_pass.RingPass.ring_goes.Goals as goal

pub returns-then-is_stopped-clause-refused : goal.returns-then-is_stopped-clause-refused
returns-then-is_stopped-clause-refused g c = λ h past p.
    let k = known_now h past in
    least_off (header_now h past) k (FreeRow c.args.id) (sym (c.is_stopped.ensures k p.tracked.follows.registers) ∙ c.if-is_stopped.true)

pub returns-in_err-check_going-clause-refused : goal.returns-in_err-check_going-clause-refused
returns-in_err-check_going-clause-refused g c =
    let words = g.M.WordMemory.words in
    let e = err_from_is_err_and c.from_residual-in_err-check_going.result c.from_residual-in_err-check_going.ensures.1 in
    rw (e.1, e.2)
    (goes_refused words c.args.self.now c.args.id (λ h past p. sym (c.is_stopped.ensures (known_now h past) p.tracked.follows.registers) ∙ c.if-is_stopped.false)
    c.in_err-check_going.field-0.0 c.in_err-check_going.ensures.refused)

pub returns-clause-passed : goal.returns-clause-passed
returns-clause-passed g c = λ h past p.
    let words = g.M.WordMemory.words in
    let before = c.args.self.now in
    let k = known_now h past in
    goes_behind words h past before p c.args.id c.check_going.new.kept
    (λ keeps on. c.in_ok-check_going.ensures.ok k (words before.memory) p.tracked.follows keeps on)
    (λ keeps. c.in_ok-check_going.ensures.version k (words before.memory) p.tracked.follows keeps)
    (sym (c.is_stopped.ensures k p.tracked.follows.registers) ∙ c.if-is_stopped.false)
    (c.in_ok-check_going.ensures.reads (length past) p.few_reads) _
    c.in_ok-check_going.ensures.goes c.in_ok-check_going.ensures.headed c.in_ok-check_going.ensures.found refl refl refl

pub returns-clause-logged : goal.returns-clause-logged
returns-clause-logged g c = λ list h first past p numbered room held.
    let words = g.M.WordMemory.words in
    let Holds = g.B.LeaseLog.holds list in
    let before = c.args.self.now in
    let id = c.args.id in
    let k = known_now h past in
    let on = sym (c.is_stopped.ensures k p.tracked.follows.registers) ∙ c.if-is_stopped.false in
    let step = c.in_ok-check_going.ensures.ok k (words before.memory) p.tracked.follows (p.tracked.keeps on) on in
    let early : c.args.number < without_end = omega (arith, numbered, room) in
    goes_logged words Holds h first past before p room id c.args.number numbered c.note_going.new.book before.ranges
    (c.in_ok-note_going.ensures list k (lents h first past) (words before.memory)
    (next_row words Holds h first past before p room (FreeRow id) (goes_clean before.header k id step.kept)) early (held_before words Holds h first past before p room before.log before.ranges held))
