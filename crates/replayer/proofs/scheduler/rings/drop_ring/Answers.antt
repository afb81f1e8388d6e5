use Rattle.replayer.proofs.MiddleLaws.{◌≡◌, ◌==◌, ◌∙◌, ap, filter, not, rules, Bor, filter_same, Ring, rings_at, rings_kept}
use Rattle.replayer.proofs.scheduler.rings.drop_ring.Goals as goal

pub returns : goal.returns
returns c =
    let kept : c.retain.new.self.items ≡ filter (λ (r : Bor Ring). not (r.now.id == c.args.id)) c.args.rings.now.items = filter_same _ _ _ (λ x b f' k. search rules) _ _ c.retain.ensures.filtered in
    ap (λ l. rings_at l) kept ∙ rings_kept c.args.id c.args.rings.now.items
