use Rattle.trace_record.proofs.Laws.{arith}
use Rattle.trace_record.proofs.BaseWords.{◌∙◌, Option, ℕ, ap, false≢true, is_command_kind, is_event_kind, is_some, refl, sym}
use Rattle.ownership_rules.specs.Rings.{is_bad_kind}
use Rattle.trace_record.proofs.CommandRing.{commands_there, events_there, none_some}
use Rattle.trace_record.proofs.trace_record.TraceRecord.is_bad_kind.Goals as goal

pub returns-then-is_some-clause-rule : goal.returns-then-is_some-clause-rule
unfolding is_bad_kind
returns-then-is_some-clause-rule c = λ k f.
    let h = c.args.header.now in
    rw c.in-Cmd.is (grind (arith, c.is_some.ensures, ap (λ (o : Option ℕ). is_some o) c.requires.found.commands, commands_there h c.requires.headed))

pub returns-else-is_some-clause-rule : goal.returns-else-is_some-clause-rule
unfolding is_bad_kind
returns-else-is_some-clause-rule c = λ k f.
    let h = c.args.header.now in
    rw c.in-Cmd.is (grind (arith, c.is_some.ensures, ap (λ (o : Option ℕ). is_some o) c.requires.found.commands, commands_there h c.requires.headed, c.is_in_run.ensures k f))

pub returns-else-is_some-clause-commands : goal.returns-else-is_some-clause-commands
returns-else-is_some-clause-commands c = λ fine it.
    none_some _ (sym (commands_there c.args.header.now c.requires.headed) ∙ sym (ap (λ (o : Option ℕ). is_some o) c.requires.found.commands) ∙ sym c.is_some.ensures ∙ c.if-is_some.false)

pub returns-else-is_some-clause-events : goal.returns-else-is_some-clause-events
returns-else-is_some-clause-events c = λ fine it. absurd (false≢true (sym (ap (λ n. is_event_kind n) c.in-Cmd.is) ∙ it))

pub returns-then-is_some-2-clause-rule : goal.returns-then-is_some-2-clause-rule
unfolding is_bad_kind
returns-then-is_some-2-clause-rule c = λ k f.
    rw c.in-Evt.is (grind (arith, c.is_some-in-Evt.ensures, ap (λ (o : Option ℕ). is_some o) c.requires.found.events, events_there c.args.header.now c.requires.headed))

pub returns-else-is_some-2-clause-rule : goal.returns-else-is_some-2-clause-rule
unfolding is_bad_kind
returns-else-is_some-2-clause-rule c = λ k f.
    rw c.in-Evt.is
    (grind (arith, c.is_some-in-Evt.ensures, ap (λ (o : Option ℕ). is_some o) c.requires.found.events, events_there c.args.header.now c.requires.headed, c.is_started.ensures k f))

pub returns-else-is_some-2-clause-commands : goal.returns-else-is_some-2-clause-commands
returns-else-is_some-2-clause-commands c = λ fine it. absurd (false≢true (sym (ap (λ n. is_command_kind n) c.in-Evt.is) ∙ it))

pub returns-else-is_some-2-clause-events : goal.returns-else-is_some-2-clause-events
returns-else-is_some-2-clause-events c = λ fine it.
    none_some _ (sym (events_there c.args.header.now c.requires.headed) ∙ sym (ap (λ (o : Option ℕ). is_some o) c.requires.found.events) ∙ sym c.is_some-in-Evt.ensures ∙ c.if-is_some-2.false)

pub returns-in-Xfer-clause-rule : goal.returns-in-Xfer-clause-rule
unfolding is_bad_kind
returns-in-Xfer-clause-rule c = λ k f. rw c.in-Xfer.is refl

pub returns-in-Xfer-clause-commands : goal.returns-in-Xfer-clause-commands
returns-in-Xfer-clause-commands c = λ fine it. absurd (false≢true (sym (ap (λ n. is_command_kind n) c.in-Xfer.is) ∙ it))

pub returns-in-Xfer-clause-events : goal.returns-in-Xfer-clause-events
returns-in-Xfer-clause-events c = λ fine it. absurd (false≢true (sym (ap (λ n. is_event_kind n) c.in-Xfer.is) ∙ it))
