use Rattle.driver_rows.proofs.Laws.{arith, nobody, rests, runs_on}
use Rattle.driver_rows.proofs.rings.stopped.has_stopped.Goals as goal

pub returns-in_default : goal.returns-in_default
returns-in_default g c = λ k f d fits. nobody c.args.header.now k d c.args.id (c.in_default.ensures.none k f.devices (λ s i t j a b. d.states.one_endpoint s i t j c.args.id a b))

pub returns-then-not-is_stopped : goal.returns-then-not-is_stopped
returns-then-not-is_stopped g c = grind (arith, runs_on)

pub returns : goal.returns
returns g c = grind (arith, rests)
