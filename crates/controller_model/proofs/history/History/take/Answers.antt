use Rattle.controller_model.proofs.Laws.{not, ◌||◌, ◌==◌, shows_took}
use Rattle.controller_model.proofs.history.History.take.Goals as goal

pub returns-clause-harms : goal.returns-clause-harms
returns-clause-harms c = λ events reported.
    shows_took c.args.shape.now events reported c.args.self.now _ c.args.address c.args.block.now _
    (λ i. not (c.is_right_place-is_right.ensures i) || not (c.address.ensures i == c.args.address) || c.take_anywhere.ensures.order i)
    (λ i. not (c.is_as_declared-is_same.ensures i) || c.take_anywhere.ensures.words i)

pub returns-clause-keeps : goal.returns-clause-keeps
returns-clause-keeps c = λ events reported before.
    let k = c.in_ok-take_anywhere.ensures.keeps c.args.shape.now events reported before in
    record { next = k.next; placed = k.placed; inside = k.inside; unreported = k.unreported; few = k.few }
