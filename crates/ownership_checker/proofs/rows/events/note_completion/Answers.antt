use Rattle.ownership_checker.proofs.Laws.{set_up, on_true}
use Rattle.ownership_checker.proofs.rows.events.note_completion.Goals as goal

pub returns-clause-possible : goal.returns-clause-possible
returns-clause-possible g c = λ k f keeps next. c.read_completion.ensures.possible k f (set_up c.args.header.now c.requires.headed k keeps) next

pub returns-clause-followed : goal.returns-clause-followed
returns-clause-followed g c =
    on_true c.read_completion.result _ _ (λ p k f keeps on next may. p k f keeps (set_up c.args.header.now c.requires.headed k keeps) on next may) c.read_completion.ensures.followed
