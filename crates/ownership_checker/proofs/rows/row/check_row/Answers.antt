use Rattle.ownership_checker.proofs.Laws.{RegRead, register_read_bad, register_read_ok, sym, ◌∙◌, ap, Sub, Write, Reg, Bell, Read, placed_bad, placed_ok, stopped_refused, word_ok, word_bad, row_ok, row_bad, declared_ok, declared_bad, register_ok, register_bad}
use Rattle.ownership_checker.proofs.rows.row.check_row.Goals as goal

pub returns-then-is_stopped-clause-refused : goal.returns-then-is_stopped-clause-refused
returns-then-is_stopped-clause-refused g c = λ k t placed. stopped_refused c.args.header.now k c.args.row.now (sym (c.is_stopped.ensures k t.follows.registers) ∙ c.if-is_stopped.true)

pub returns-in-Sub-clause-ok : goal.returns-in-Sub-clause-ok
returns-in-Sub-clause-ok g c =
    row_ok c.args.header.now c.args.kept.now (g.M.WordMemory.words c.args.memory.now) (λ k f. sym (c.is_stopped.ensures k f.registers) ∙ c.if-is_stopped.false)
    c.args.row.now (Sub c.in-Sub.id c.as_slice.result.now) (c.in-Sub.is ∙ ap (λ bs. Sub c.in-Sub.id bs) (sym c.as_slice.ensures)) c.args.place.now c.check_declaration.new.kept (g.M.WordMemory.words c.args.memory.now) c.check_declaration.result
    (declared_ok c.args.header.now c.args.kept.now c.check_declaration.new.kept (g.M.WordMemory.words c.args.memory.now) (Sub c.in-Sub.id c.as_slice.result.now) c.check_declaration.result c.check_declaration.ensures.ok)

pub returns-in-Sub-clause-refused : goal.returns-in-Sub-clause-refused
returns-in-Sub-clause-refused g c =
    row_bad c.args.header.now c.args.kept.now (g.M.WordMemory.words c.args.memory.now) (λ k f. sym (c.is_stopped.ensures k f.registers) ∙ c.if-is_stopped.false)
    c.args.row.now (Sub c.in-Sub.id c.as_slice.result.now) (c.in-Sub.is ∙ ap (λ bs. Sub c.in-Sub.id bs) (sym c.as_slice.ensures)) c.args.place.now c.check_declaration.result
    (declared_bad c.args.header.now c.args.kept.now (g.M.WordMemory.words c.args.memory.now) (Sub c.in-Sub.id c.as_slice.result.now) c.check_declaration.result c.check_declaration.ensures.refused)

pub returns-in-Write-clause-ok : goal.returns-in-Write-clause-ok
returns-in-Write-clause-ok g c =
    word_ok c.args.header.now c.args.kept.now (g.M.WordMemory.words c.args.memory.now) (λ k f. sym (c.is_stopped.ensures k f.registers) ∙ c.if-is_stopped.false)
    c.args.row.now (Write c.in-Write.at c.in-Write.word) c.in-Write.is c.args.place.now c.owns.result (c.owns.ensures c.requires.headed) c.check_word.new.kept (g.M.WordMemory.words c.check_word.new.memory) c.check_word.result c.check_word.ensures.ok

pub returns-in-Write-clause-refused : goal.returns-in-Write-clause-refused
returns-in-Write-clause-refused g c =
    word_bad c.args.header.now c.args.kept.now (g.M.WordMemory.words c.args.memory.now) (λ k f. sym (c.is_stopped.ensures k f.registers) ∙ c.if-is_stopped.false)
    c.args.row.now (Write c.in-Write.at c.in-Write.word) c.in-Write.is c.args.place.now c.owns.result (c.owns.ensures c.requires.headed) c.check_word.result c.check_word.ensures.refused

pub returns-in-Reg-clause-ok : goal.returns-in-Reg-clause-ok
returns-in-Reg-clause-ok g c =
    row_ok c.args.header.now c.args.kept.now (g.M.WordMemory.words c.args.memory.now) (λ k f. sym (c.is_stopped.ensures k f.registers) ∙ c.if-is_stopped.false)
    c.args.row.now (Reg c.in-Reg.register c.in-Reg.value) c.in-Reg.is c.args.place.now c.check_register.new.t (g.M.WordMemory.words c.args.memory.now) c.check_register.result
    (register_ok c.args.header.now c.requires.headed c.args.kept.now (g.M.WordMemory.words c.args.memory.now) (Reg c.in-Reg.register c.in-Reg.value) c.check_register.new.t c.check_register.result c.check_register.ensures.ok)

pub returns-in-Reg-clause-refused : goal.returns-in-Reg-clause-refused
returns-in-Reg-clause-refused g c =
    row_bad c.args.header.now c.args.kept.now (g.M.WordMemory.words c.args.memory.now) (λ k f. sym (c.is_stopped.ensures k f.registers) ∙ c.if-is_stopped.false)
    c.args.row.now (Reg c.in-Reg.register c.in-Reg.value) c.in-Reg.is c.args.place.now c.check_register.result
    (register_bad c.args.header.now c.requires.headed c.args.kept.now (g.M.WordMemory.words c.args.memory.now) (Reg c.in-Reg.register c.in-Reg.value) c.check_register.result c.check_register.ensures.refused)

pub returns-in-Bell-clause-ok : goal.returns-in-Bell-clause-ok
returns-in-Bell-clause-ok g c =
    row_ok c.args.header.now c.args.kept.now (g.M.WordMemory.words c.args.memory.now) (λ k f. sym (c.is_stopped.ensures k f.registers) ∙ c.if-is_stopped.false)
    c.args.row.now (Bell c.in-Bell.slot c.in-Bell.target) c.in-Bell.is c.args.place.now c.check_doorbell.new.kept (g.M.WordMemory.words c.args.memory.now) c.check_doorbell.result c.check_doorbell.ensures.ok

pub returns-in-Bell-clause-refused : goal.returns-in-Bell-clause-refused
returns-in-Bell-clause-refused g c =
    row_bad c.args.header.now c.args.kept.now (g.M.WordMemory.words c.args.memory.now) (λ k f. sym (c.is_stopped.ensures k f.registers) ∙ c.if-is_stopped.false)
    c.args.row.now (Bell c.in-Bell.slot c.in-Bell.target) c.in-Bell.is c.args.place.now c.check_doorbell.result c.check_doorbell.ensures.refused

pub returns-in-Read-clause-ok : goal.returns-in-Read-clause-ok
returns-in-Read-clause-ok g c =
    placed_ok c.args.header.now c.args.kept.now (g.M.WordMemory.words c.args.memory.now) (λ k f. sym (c.is_stopped.ensures k f.registers) ∙ c.if-is_stopped.false)
    c.args.row.now (Read c.in-Read.event) c.in-Read.is c.args.place.now c.check_event.new.kept (g.M.WordMemory.words c.args.memory.now) c.check_event.result c.check_event.ensures.ok

pub returns-in-Read-clause-refused : goal.returns-in-Read-clause-refused
returns-in-Read-clause-refused g c =
    placed_bad c.args.header.now c.args.kept.now (g.M.WordMemory.words c.args.memory.now) (λ k f. sym (c.is_stopped.ensures k f.registers) ∙ c.if-is_stopped.false)
    c.args.row.now (Read c.in-Read.event) c.in-Read.is c.args.place.now c.check_event.result c.check_event.ensures.refused

pub returns-in-RegRead-clause-ok : goal.returns-in-RegRead-clause-ok
returns-in-RegRead-clause-ok g c =
    let row = RegRead c.in-RegRead.register c.in-RegRead.value in
    row_ok c.args.header.now c.args.kept.now (g.M.WordMemory.words c.args.memory.now) (λ k f. sym (c.is_stopped.ensures k f.registers) ∙ c.if-is_stopped.false)
    c.args.row.now row c.in-RegRead.is c.args.place.now c.check_register_read.new.t (g.M.WordMemory.words c.args.memory.now) c.check_register_read.result
    (register_read_ok c.args.header.now c.args.kept.now (g.M.WordMemory.words c.args.memory.now) row c.check_register_read.new.t c.check_register_read.result c.check_register_read.ensures.ok)

pub returns-in-RegRead-clause-refused : goal.returns-in-RegRead-clause-refused
returns-in-RegRead-clause-refused g c =
    let row = RegRead c.in-RegRead.register c.in-RegRead.value in
    row_bad c.args.header.now c.args.kept.now (g.M.WordMemory.words c.args.memory.now) (λ k f. sym (c.is_stopped.ensures k f.registers) ∙ c.if-is_stopped.false)
    c.args.row.now row c.in-RegRead.is c.args.place.now c.check_register_read.result
    (register_read_bad c.args.header.now c.args.kept.now (g.M.WordMemory.words c.args.memory.now) row c.check_register_read.result c.check_register_read.ensures.refused)
