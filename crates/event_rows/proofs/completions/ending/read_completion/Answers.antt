use Rattle.event_rows.proofs.Laws.{◌∙◌, ap, sym, not, commands_complete, said_well}
use Rattle.event_rows.proofs.completions.ending.read_completion.Goals as goal

pub finish-requires : goal.finish-requires
finish-requires g c = record {
  headed = c.requires.headed;
  found = c.requires.found;
  well = said_well c.command_said-command.result c.command_said-command.ensures.said;
}

pub returns-then-is_impossible_completion-clause-possible : goal.returns-then-is_impossible_completion-clause-possible
returns-then-is_impossible_completion-clause-possible g c = λ k f set_up next.
    sym (ap not (sym (c.is_impossible_completion.ensures k _ f set_up (λ there. c.command_said-command.ensures.same ∙ next there)) ∙ c.if-is_impossible_completion.true))

pub returns-clause-possible : goal.returns-clause-possible
returns-clause-possible g c = λ k f set_up next.
    sym (ap not (sym (c.is_impossible_completion.ensures k _ f set_up (λ there. c.command_said-command.ensures.same ∙ next there)) ∙ c.if-is_impossible_completion.false))

pub returns-clause-followed : goal.returns-clause-followed
returns-clause-followed g c = λ k f d set_up on next possible.
    c.finish.ensures.followed k f d set_up on (c.command_said-command.ensures.same ∙ next (commands_complete c.args.header.now c.requires.headed k set_up c.args.block possible)) possible
