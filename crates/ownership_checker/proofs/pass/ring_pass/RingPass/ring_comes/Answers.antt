use Rattle.ownership_checker.proofs.Laws.{comes_clean, ◌∙◌, length, refl, sym, subst, err_from_is_err_and, header_now, known_now, IsHeader, lents, comes_behind, comes_refused, comes_logged, held_before, least_off, next_row, RingRow}
use Rattle.ownership_checker.proofs.pass.ring_pass.RingPass.ring_comes.Goals as goal

pub returns-then-is_stopped-clause-refused : goal.returns-then-is_stopped-clause-refused
returns-then-is_stopped-clause-refused g c = λ h past p.
    let k = known_now h past in
    least_off (header_now h past) k (RingRow c.args.ring) (sym (c.is_stopped.ensures k p.tracked.follows.registers) ∙ c.if-is_stopped.true)

pub returns-in_err-check_coming-clause-refused : goal.returns-in_err-check_coming-clause-refused
returns-in_err-check_coming-clause-refused g c =
    let words = g.M.WordMemory.words in
    let e = err_from_is_err_and c.from_residual-in_err-check_coming.result c.from_residual-in_err-check_coming.ensures.1 in
    rw (e.1, e.2)
    (comes_refused words c.args.self.now c.args.ring (λ h past p. sym (c.is_stopped.ensures (known_now h past) p.tracked.follows.registers) ∙ c.if-is_stopped.false)
    c.in_err-check_coming.field-0.0 c.in_err-check_coming.ensures.refused)

pub returns-clause-passed : goal.returns-clause-passed
returns-clause-passed g c = λ h past p.
    let words = g.M.WordMemory.words in
    let k = known_now h past in
    comes_behind words h past c.args.self.now p c.args.ring c.requires.coming c.check_coming.new.kept
    (λ keeps on. c.in_ok-check_coming.ensures.ok k p.tracked.follows keeps on)
    (sym (c.is_stopped.ensures k p.tracked.follows.registers) ∙ c.if-is_stopped.false)
    (c.in_ok-check_coming.ensures.reads (length past) p.few_reads) _
    c.in_ok-check_coming.ensures.comes c.in_ok-check_coming.ensures.headed c.in_ok-check_coming.ensures.found refl refl refl

pub returns-clause-logged : goal.returns-clause-logged
returns-clause-logged g c = λ list h first past p numbered room held.
    let words = g.M.WordMemory.words in
    let Holds = g.B.LeaseLog.holds list in
    let before = c.args.self.now in
    let ring = c.args.ring in
    let k = known_now h past in
    let on = sym (c.is_stopped.ensures k p.tracked.follows.registers) ∙ c.if-is_stopped.false in
    let step = c.in_ok-check_coming.ensures.ok k p.tracked.follows (p.tracked.keeps on) on in
    comes_logged words Holds h first past before p room ring c.args.number numbered c.note_coming.new.book c.note_coming.new.ranges
    (c.in_ok-note_coming.ensures list before.header k (lents h first past) before.record (words before.memory) p.headed c.requires.coming
    (next_row words Holds h first past before p room (RingRow ring) (comes_clean before.header k ring step.kept)) (held_before words Holds h first past before p room before.log before.ranges held))
