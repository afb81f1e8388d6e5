use Rattle.controller_model.proofs.Laws.{refl, keeps_nothing, shows_nothing}
use Rattle.controller_model.proofs.history.History.clear.Goals as goal

pub returns : goal.returns
returns c = record {
  keeps = λ shape. keeps_nothing shape _ refl refl refl c.clear.ensures.items;
  harms = λ shape. shows_nothing shape _ refl refl;
}
