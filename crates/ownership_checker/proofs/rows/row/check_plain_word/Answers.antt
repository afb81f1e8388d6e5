use Rattle.ownership_checker.proofs.Words.{lenient_row}
use Rattle.ownership_checker.proofs.rows.row.check_plain_word.Goals as goal

pub returns-in-Some-clause-refused : goal.returns-in-Some-clause-refused
returns-in-Some-clause-refused g c = λ k f keeps on placed leased.
    c.in-Some.ensures.refused k c.args.kept.now (g.M.WordMemory.words c.args.memory.now) c.args.write.now.at c.args.write.now.word f keeps on c.requires.plain placed leased

pub returns-clause-ok : goal.returns-clause-ok
returns-clause-ok g c = λ k f keeps on placed leased.
    let allowed = c.in_default.ensures.allowed k c.args.kept.now (g.M.WordMemory.words c.args.memory.now) c.args.write.now.at c.args.write.now.word f keeps on c.requires.plain placed leased in
    record { clean = allowed.clean; followed = c.in_ok-note_plain_write.ensures.ok k f placed allowed.command keeps (lenient_row c.args.header.now k _ allowed.clean) }
