use Rattle.event_rows.proofs.Words.{arith, ap, ◌∙◌, command_in}
use Rattle.event_rows.proofs.transfers.reporting.next_command.Goals as goal

pub returns : goal.returns
returns c = λ shape v f.
    let stands = c.floor_number-next.ensures.value shape v f in
    c.command_said.ensures.same ∙ c.declared_command.ensures shape v f (omega (arith, stands)) ∙ ap (command_in v.queue) stands
