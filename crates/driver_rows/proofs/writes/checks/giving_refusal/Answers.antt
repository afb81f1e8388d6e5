use Rattle.driver_rows.proofs.Laws.{rules, ◌≡◌, [], ◌∷◌, Some, ap, sym, ◌∙◌, Crossing, Position, first_broken, crossing_tests, place_tests, position_tests, first_fails, none_fails}
use Rattle.driver_rows.proofs.writes.checks.giving_refusal.Goals as goal

pub returns-in-Some-clause-first : goal.returns-in-Some-clause-first
returns-in-Some-clause-first g c =
    let is : c.args.write.now.place.now.giving ≡ Some (Position c.in-Some-Position.p) = search rules in
    λ k f d fit r from.
    let ring = c.args.given.now.ring.now in
    let memory = g.M.WordMemory.words c.args.memory.now in
    rw is (first_fails (position_tests ring.shape (k.ring ring.id) memory c.args.write.now.at c.args.write.now.word (c.in-Some-Position.p ∷ [])) (place_tests c.args.header.now k ring.id c.args.given.now.command)
    c.in-Some.refusal (sym c.in-Some.is ∙ c.position_refusal.ensures (k.ring ring.id) r (rw is at from)))

pub returns-in_default-clause-first : goal.returns-in_default-clause-first
returns-in_default-clause-first g c =
    let is : c.args.write.now.place.now.giving ≡ Some (Position c.in-Some-Position.p) = search rules in
    λ k f d fit r from.
    let ring = c.args.given.now.ring.now in
    let memory = g.M.WordMemory.words c.args.memory.now in
    rw is (c.place_refusal.ensures.first k ring.shape f d fit r
    ∙ none_fails (position_tests ring.shape (k.ring ring.id) memory c.args.write.now.at c.args.write.now.word (c.in-Some-Position.p ∷ [])) (place_tests c.args.header.now k ring.id c.args.given.now.command)
    (sym c.in_default.is ∙ c.position_refusal.ensures (k.ring ring.id) r (rw is at from)))

pub returns-in-Some-Crossing-clause-first : goal.returns-in-Some-Crossing-clause-first
returns-in-Some-Crossing-clause-first g c =
    let is : c.args.write.now.place.now.giving ≡ Some (Crossing c.in-Some-Crossing.q) = search rules in
    λ k f d fit r from.
    let ring = c.args.given.now.ring.now in
    let memory = g.M.WordMemory.words c.args.memory.now in
    rw is (c.crossing_refusal.ensures
    ∙ ap (λ b. first_broken (crossing_tests ring.shape memory c.args.write.now.at c.args.write.now.word b (c.in-Some-Crossing.q ∷ []))) (c.awaits_binding-awaits.ensures c.args.header.now k ring.shape memory f r))
