use Rattle.controller_model.proofs.Laws.{FollowsScene, step_made, ◌∙◌, ap, option_map, Header, shows, stepped, Follows, step_made_is, step_mapped, with_world}
use Rattle.controller_model.proofs.steps.make_step.Goals as goal

pub returns-in-NextRow-clause-step : goal.returns-in-NextRow-clause-step
unfolding shows
returns-in-NextRow-clause-step g c = λ x f.
    rw (ap (λ s. step_made x s) c.in-NextRow.is, ap (λ s. shows x.header x.world s) c.in-NextRow.is) (c.next_row.ensures.step x f)

pub returns-in_default-clause-step : goal.returns-in_default-clause-step
returns-in_default-clause-step g c = λ x f.
    let s = c.args.step.now in
    let h = c.args.rings.now.declared in
    let live = c.args.rings.now.live in
    let words = g.M.WordMemory.words c.make_counted.new.memory in
    let k = c.make_counted.new.kept in
    rw (step_made_is x s c.in_default.not-NextRow ∙ (λ i. option_map (with_world x) (stepped (f.header i) (f.live i) x.world s)), ap (λ (z : Header). shows z x.world s) f.header)
    (step_mapped c.make_counted.result (stepped h live x.world s) (with_world x) (shows h x.world s) (Follows h words k) (FollowsScene c.args.rings.now c.args.left.now words k)
    (λ w follows. record { header = f.header; live = f.live; lists = f.lists; left = f.left; follows = follows }) (c.make_counted.ensures.step x.world c.in_default.not-NextRow f.lists f.follows))
