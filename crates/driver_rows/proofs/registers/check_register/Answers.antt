use Rattle.driver_rows.proofs.Laws.{refl, ap, sym, ◌∙◌, not, bad_register, bad_erdp, step_is, BadRegister, Reg, is_bad_register, or_parts, stricter, reset_fine, reset_is, without_gap}
use Rattle.driver_rows.proofs.registers.check_register.Goals as goal

pub returns-then-is_bad_register-clause-refused : goal.returns-then-is_bad_register-clause-refused
returns-then-is_bad_register-clause-refused g c = λ k f keeps s on.
    bad_register c.args.header.now c.args.register c.args.value k on (sym (c.is_bad_register.ensures k f s) ∙ c.if-is_bad_register.true)

pub returns-then-not-note_dequeue-clause-refused : goal.returns-then-not-note_dequeue-clause-refused
returns-then-not-note_dequeue-clause-refused g c = λ k f keeps s on.
    bad_erdp c.args.header.now c.args.register c.args.value k on (sym (c.is_bad_register.ensures k f s) ∙ c.if-is_bad_register.false)
    (c.note_dequeue.ensures.exact k (sym (c.is_started.ensures k f.registers)) f.events s ∙ ap not c.if-not-note_dequeue.true)

pub returns-then-resets-clause-ok : goal.returns-then-resets-clause-ok
returns-then-resets-clause-ok g c = λ k f keeps s on.
    let h = c.args.header.now in
    let r = c.args.register in
    let v = c.args.value in
    let is = sym (c.resets.ensures k f.registers) ∙ c.if-resets.true in
    let fine = sym (c.is_bad_register.ensures k f s) ∙ c.if-is_bad_register.false in
    reset_is h r v c.args.t.now (g.M.WordMemory.words c.args.memory.now) k f on fine (reset_fine h k r v is) c.reset.new.self is
    (c.in_ok-reset.ensures.ok k (g.M.WordMemory.words c.args.memory.now) f on (without_gap h k r v keeps is (or_parts (stricter h k (Reg r v) BadRegister) (is_bad_register h k r v) fine).1) s.declared)

pub returns-clause-ok : goal.returns-clause-ok
returns-clause-ok g c = λ k f keeps s on.
    step_is c.args.header.now c.args.register c.args.value c.args.t.now (g.M.WordMemory.words c.args.memory.now) k f on
    (sym (c.is_bad_register.ensures k f s) ∙ c.if-is_bad_register.false)
    (c.note_dequeue.ensures.exact k (sym (c.is_started.ensures k f.registers)) f.events s ∙ ap not c.if-not-note_dequeue.false)
    c.write.new.self c.note_dequeue.new.events (c.write.ensures c.args.header.now k refl f.registers)
    (c.note_dequeue.ensures.moved c.if-not-note_dequeue.false k (sym (c.is_started.ensures k f.registers)) f.events)
    (sym (c.resets.ensures k f.registers) ∙ c.if-resets.false)
