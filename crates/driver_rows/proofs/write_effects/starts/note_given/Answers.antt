use Rattle.driver_rows.proofs.Laws.{subst, sym, on_ok_weaker, named_context, inputs_of, IsWith, mapped_with}
use Rattle.driver_rows.proofs.write_effects.starts.note_given.Goals as goal

pub returns-in-Some-clause-inputs : goal.returns-in-Some-clause-inputs
returns-in-Some-clause-inputs c =
    on_ok_weaker c.add_area.result
    (λ adds n old new with holds.
    adds n (inputs_of old) (inputs_of new)
    (mapped_with named_context c.in-Some.command old new (subst (λ o. IsWith o old new) c.in-Some.is with) c.input_context.result (sym c.input_context.ensures)) holds)
    c.add_area.ensures
