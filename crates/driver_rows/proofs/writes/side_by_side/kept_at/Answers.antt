use Rattle.driver_rows.proofs.Words.{◌≡◌, List, true, IfSome, sym, subst, Command, is_about, FollowsUnfinished}
use Rattle.driver_rows.proofs.writes.side_by_side.kept_at.Goals as goal

pub returns-then-index-eq0-clause-named : goal.returns-then-index-eq0-clause-named
returns-then-index-eq0-clause-named c =
    subst (λ i. IfSome c.of_slot.result (λ x. (all : List Command) → FollowsUnfinished all c.args.commands.now → is_about c.args.slot i x ≡ true)) (sym c.if-index-eq0.true) c.of_slot.ensures.named
