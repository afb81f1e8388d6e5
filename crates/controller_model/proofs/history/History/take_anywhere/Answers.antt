use Rattle.controller_model.proofs.Laws.{◌∙◌, ◌++◌, ◌∷◌, [], refl, ap, not, common_steps, arith, keeps_took}
use Rattle.controller_model.proofs.history.History.take_anywhere.Goals as goal

pub returns-clause-keeps : goal.returns-clause-keeps
returns-clause-keeps c = λ shape events reported.
    keeps_took shape events reported c.args.self.now _ c.args.address c.args.block.now _ (record {
      next = grind (arith, common_steps, c.in_ok-next.ensures.value, c.checked_add.ensures);
      placed = refl;
      inside = ap not c.is_end.ensures;
      unreported = c.in_ok-push_back.ensures.items ∙ ap (λ t. c.args.self.now.unreported.items ++ t ∷ []) c.take_of.ensures;
    })
