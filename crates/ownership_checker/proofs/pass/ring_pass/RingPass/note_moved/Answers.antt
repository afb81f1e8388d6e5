use Rattle.ownership_checker.proofs.Words.{◌∙◌, Some, ap, on_more, positions_of, gives_at, no_ring_moves, nothing_moves}
use Rattle.ownership_checker.proofs.pass.ring_pass.RingPass.note_moved.Goals as goal

pub returns-in_default-clause-moved : goal.returns-in_default-clause-moved
returns-in_default-clause-moved g c = λ list k memory ts a w f d placed moves opened early held.
    absurd (no_ring_moves c.args.self.now.header c.requires.headed k a w c.args.place.now placed c.args.id moves c.in_default.is)

pub returns-in_default-giving-clause-moved : goal.returns-in_default-giving-clause-moved
returns-in_default-giving-clause-moved g c = λ list k memory ts a w f d placed moves opened early held.
    absurd (nothing_moves c.args.self.now.header c.requires.headed k a w c.args.place.now placed c.args.id moves c.in-Some.command_ring c.in-Some.is (ap positions_of c.in_default-giving.is))

pub returns-in-Position-clause-moved : goal.returns-in-Position-clause-moved
returns-in-Position-clause-moved g c = on_more c.note_moved_at.result (λ told list k memory ts a w f d placed moves opened early held.
    told list k memory ts a w f d (gives_at c.args.self.now.header c.requires.headed k a w c.args.place.now placed c.args.id moves c.in-Some.command_ring c.in-Some.is c.in-Position.position (c.in-Some-giving.is ∙ ap (λ x. Some x) c.in-Position.is)) moves opened early held)
    c.note_moved_at.ensures.moved

pub returns-in-Crossing-clause-moved : goal.returns-in-Crossing-clause-moved
returns-in-Crossing-clause-moved g c = λ list k memory ts a w f d placed moves opened early held.
    absurd (nothing_moves c.args.self.now.header c.requires.headed k a w c.args.place.now placed c.args.id moves c.in-Some.command_ring c.in-Some.is (ap positions_of (c.in-Some-giving.is ∙ ap (λ x. Some x) c.in-Crossing.is)))
