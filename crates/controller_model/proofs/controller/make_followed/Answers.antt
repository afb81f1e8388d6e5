use Rattle.controller_model.proofs.Laws.{FollowsScene, step_made, IsFollowed, shows, step_more, subst, sym, BringsNone}
use Rattle.controller_model.proofs.controller.make_followed.Goals as goal

pub returns-clause-step : goal.returns-clause-step
returns-clause-step g c = λ x f.
    let h = c.make_step.new.rings in
    let left = c.make_step.new.left in
    let words = g.M.WordMemory.words c.make_step.new.memory in
    let k = c.make_step.new.kept in
    step_more (step_made x c.args.step.now) c.in_ok-seen.seen (shows x.header x.world c.args.step.now) (FollowsScene h left words k) (IsFollowed h left words k c.harms_after.result)
    (λ y made follows. record {
      follows = follows;
      rings = c.harms_after.ensures left x y f.rings made (λ none. subst (λ rows. BringsNone c.args.step.now rows) (sym f.follows.left) (c.brings_ring-comes.ensures none)) follows;
    }) (c.in_ok-seen.ensures.step x f.follows)
