use Rattle.controller_model.proofs.controller.Controller.has_event_room.Goals as goal

pub returns : goal.returns
returns g c = λ x s. rw s.followed.follows.header (c.has_event_room.ensures (g.M.WordMemory.words c.args.self.now.memory) x.world s.followed.follows.follows)
