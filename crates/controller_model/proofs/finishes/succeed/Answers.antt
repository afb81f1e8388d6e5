use Rattle.controller_model.proofs.Laws.{◌≡◌, ◌∙◌, Some, is_some, ap, sym, true, false, changes, changed_by_all, succeeded, command_well, some_of, none_of_test, success_changes}
use Rattle.controller_model.proofs.finishes.succeed.Goals as goal

pub returns-in-None-clause-change : goal.returns-in-None-clause-change
unfolding succeeded
returns-in-None-clause-change g c = λ h w lists f. simp (sym c.command_of.ensures ∙ c.in-None.is) tt

pub succeeds-requires : goal.succeeds-requires
succeeds-requires g c = command_well c.args.block.now c.in-Some.command (sym c.command_of.ensures ∙ c.in-Some.is)

pub apply-requires-clause-well : goal.apply-requires-clause-well
apply-requires-clause-well g c = command_well c.args.block.now c.in-Some.command (sym c.command_of.ensures ∙ c.in-Some.is)

pub returns-then-not-succeeds-clause-change : goal.returns-then-not-succeeds-clause-change
returns-then-not-succeeds-clause-change g c = λ h w lists f.
    let fails : is_some (succeeded c.args.header.now w c.args.slot (Some c.in-Some.command)) ≡ false = sym (c.succeeds.ensures.value h w f) ∙ c.if-not-succeeds.true in
    rw (sym c.command_of.ensures ∙ c.in-Some.is, none_of_test _ fails) tt

pub returns-clause-change : goal.returns-clause-change
returns-clause-change g c = λ h w lists f.
    let words = g.M.WordMemory.words c.args.memory.now in
    let g = c.args.header.now in
    let d = c.in-Some.command in
    let works : is_some (succeeded g w c.args.slot (Some d)) ≡ true = sym (c.succeeds.ensures.value h w f) ∙ c.if-not-succeeds.false in
    let made = some_of (succeeded g w c.args.slot (Some d)) works in
    let memory : w.memory ≡ words = ap (λ x. x.memory) f.held in
    let changed : changed_by_all g d w (changes g.context_size words c.args.slot d) ≡ Some made.after =
    ap (λ m. changed_by_all g d w (changes g.context_size m c.args.slot d)) (sym memory) ∙ success_changes g w c.args.slot d made.after made.is in
    rw (sym c.command_of.ensures ∙ c.in-Some.is, made.is) (c.in_ok-apply.ensures.change h words w made.after lists changed f)
