use Rattle.driver_rows.proofs.Words.{ap, sym, ◌∙◌, first_broken, place_tests}
use Rattle.driver_rows.proofs.writes.checks.place_refusal.Goals as goal

pub returns-in-None-clause-first : goal.returns-in-None-clause-first
returns-in-None-clause-first g c = λ k shape f d fit follows.
    c.block_refusal.ensures c.args.header.now k shape _ f follows ∙ ap (λ o. first_broken (place_tests c.args.header.now k c.args.given.now.ring.now.id o)) (sym c.in-None.is)
