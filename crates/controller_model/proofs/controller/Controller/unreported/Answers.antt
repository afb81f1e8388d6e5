use Rattle.controller_model.proofs.Words.{◌∙◌, ap, sym, unreported}
use Rattle.controller_model.proofs.controller.Controller.unreported.Goals as goal

pub returns : goal.returns
unfolding unreported
returns g c = λ x s. ap (λ q. q.items) c.unreported_takes.ensures ∙ sym (c.ring_state.ensures c.args.self.now.lists.declared (g.M.WordMemory.words c.args.self.now.memory) x.world s.followed.follows.follows).history.unreported
