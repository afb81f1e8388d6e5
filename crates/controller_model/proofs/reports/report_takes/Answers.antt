use Rattle.controller_model.proofs.Laws.{refl, IsSome, ring_with, ◌≤◌, length, ap, arith, unreported, with_reported, ring_changed, with_rings, reported_here, reported_other}
use Rattle.controller_model.proofs.reports.report_takes.Goals as goal

pub returns-clause-change : goal.returns-clause-change
unfolding with_reported unreported
returns-clause-change c = λ h words w few f.
    with_rings (ring_changed c.from.ensures (omega (arith, c.ranges.ring)) c.args.kept.now.rings_many c.index_mut-state.ensures.value (λ q apart. refl) f.rings
    (reported_other h w c.args.ring _) (reported_here h w c.args.ring _) (λ old.
    let enough : c.args.count ≤ length c.index_mut-state.result.now.history.unreported.items = omega (arith, few, ap length old.history.unreported) in
    let harms = λ (there : IsSome (ring_with h c.args.ring)). c.report_first.ensures.harms _ _ (old.harms there) in
    assumption (harms, c.report_first.ensures.keeps _ _ _ enough old.history))) (assumption)
