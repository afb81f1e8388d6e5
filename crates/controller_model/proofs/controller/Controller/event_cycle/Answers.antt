use Rattle.controller_model.proofs.controller.Controller.event_cycle.Goals as goal

pub returns : goal.returns
returns g c = λ x s. rw s.followed.follows.header (c.event_cycle.ensures (g.M.WordMemory.words c.args.self.now.memory) x.world s.followed.follows.follows)
