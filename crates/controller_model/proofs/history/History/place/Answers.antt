use Rattle.controller_model.proofs.Laws.{refl, keeps_placed, shows_placed}
use Rattle.controller_model.proofs.history.History.place.Goals as goal

pub returns : goal.returns
returns c = record {
  keeps = λ events reported. keeps_placed c.args.shape.now events reported c.args.address c.args.self.now _ c.first_at-self.ensures refl refl c.clear.ensures.items;
  harms = λ events. shows_placed c.args.shape.now events c.args.address c.args.self.now _ refl refl;
}
