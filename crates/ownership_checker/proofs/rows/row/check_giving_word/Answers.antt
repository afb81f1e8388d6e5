use Rattle.ownership_checker.proofs.Laws.{sym, ◌∙◌, lenient_row, contexts_fit}
use Rattle.ownership_checker.proofs.rows.row.check_giving_word.Goals as goal

pub returns-in_ok-note_plain_write-in-Ok-None-clause-ok : goal.returns-in_ok-note_plain_write-in-Ok-None-clause-ok
returns-in_ok-note_plain_write-in-Ok-None-clause-ok g c = λ k f keeps on placed leased.
    let allowed = c.in-Ok-None.ensures.ok k f keeps (contexts_fit c.args.header.now k keeps) on placed leased in
    record { clean = allowed.clean; followed = c.in_ok-note_plain_write-in-Ok-None.ensures.ok k f placed (allowed.command ∙ c.in-Ok-None.field-0-is) keeps (lenient_row c.args.header.now k _ allowed.clean) }

pub returns-in_ok-note_write-in-Ok-Some-clause-ok : goal.returns-in_ok-note_write-in-Ok-Some-clause-ok
returns-in_ok-note_write-in-Ok-Some-clause-ok g c = λ k f keeps on placed leased.
    let allowed = c.in-Ok-Some.ensures.ok k f keeps (contexts_fit c.args.header.now k keeps) on placed leased in
    record { clean = allowed.clean; followed = c.in_ok-note_write-in-Ok-Some.ensures.ok k f placed (sym (allowed.command ∙ c.in-Ok-Some.field-0-is)) keeps (lenient_row c.args.header.now k _ allowed.clean) on }

pub returns-in-Err-clause-refused : goal.returns-in-Err-clause-refused
returns-in-Err-clause-refused g c = λ k f keeps on placed leased. c.in-Err.ensures.refused k f keeps (contexts_fit c.args.header.now k keeps) on placed leased
