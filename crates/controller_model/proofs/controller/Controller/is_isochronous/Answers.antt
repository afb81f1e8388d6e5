use Rattle.controller_model.proofs.Words.{sym}
use Rattle.controller_model.proofs.controller.Controller.is_isochronous.Goals as goal

pub returns : goal.returns
returns g c = λ x s. sym (c.endpoint_of.ensures c.args.self.now.lists.declared (g.M.WordMemory.words c.args.self.now.memory) x.world s.followed.follows.follows).2
