use Rattle.replayer.proofs.MiddleLaws.{◌∙◌, reverse, sym, kept_now, all_headers, rows_fit}
use Rattle.replayer.proofs.LazySteps.StepsOfRows.{steps_law}
use Rattle.replayer.proofs.scheduler.lazy.steps_of.Goals as goal

pub notes_of-requires-clause-headed : goal.notes_of-requires-clause-headed
notes_of-requires-clause-headed g c = rw c.in_ok-rings.ensures c.requires.headed

pub notes_of-requires-clause-unmoved : goal.notes_of-requires-clause-unmoved
notes_of-requires-clause-unmoved g c = rw c.in_ok-rings.ensures c.requires.unmoved

pub steps_of_notes-requires-clause-headed : goal.steps_of_notes-requires-clause-headed
steps_of_notes-requires-clause-headed g c = rw c.in_ok-first_rings.ensures c.requires.headed

pub steps_of_notes-requires-clause-then_headed : goal.steps_of_notes-requires-clause-then_headed
steps_of_notes-requires-clause-then_headed g c =
    let rows = c.args.rows.now in
    rw c.in_ok-first_rings.ensures
    (all_headers c.args.header.now (c.requires.headed, c.requires.unmoved) rows (rows_fit rows c.requires.fits) (kept_now c.args.header.now (reverse rows) (rw c.in_ok-rings.ensures at c.in_ok-notes.ensures.clean)))

pub returns-clause-steps : goal.returns-clause-steps
returns-clause-steps g c =
    let made = rw (c.in_ok-first_rings.ensures, c.in_ok-notes.ensures.notes, c.in_ok-rings.ensures) at c.in_ok-steps_of_notes.ensures in
    made ∙ sym (steps_law c.args.header.now c.args.rows.now)
