use Rattle.leases.proofs.BaseWords.{sym, ◌∙◌}
use Rattle.leases.proofs.rows.rows.note_event.Goals as goal

pub returns-in-CommandCompletion : goal.returns-in-CommandCompletion
returns-in-CommandCompletion g c = λ list k ts m ends clean held.
    let completes = sym c.kind.ensures ∙ c.in-CommandCompletion.is in
    c.note_completion.ensures list k ts m completes (ends completes) clean held

pub returns-in_default : goal.returns-in_default
returns-in_default g c = λ list k ts m ends clean held.
    c.note_transfer.ensures list k ts m c.args.ranges.now (λ e. c.in_default.not-CommandCompletion (c.kind.ensures ∙ e)) clean held
