use Rattle.trace_record.proofs.RingFinder.Starts.{nothing_on_page, ring_covering}
use Rattle.trace_record.proofs.ring_finder.finder.Finder.ring_at.Goals as goal

pub returns-in_default : goal.returns-in_default
returns-in_default c = nothing_on_page c.args.header.now c.requires.headed c.args.self.now c.requires.found c.args.address c.requires.aligned c.in_default.ensures.none

pub returns-then-has : goal.returns-then-has
returns-then-has c =
    ring_covering c.args.header.now c.requires.headed c.args.self.now c.requires.found c.args.address c.requires.aligned c.in-Some.start c.in-Some.ensures.some
    c.if-has.ensures.0 c.if-has.ensures.1

pub returns-then-has-2 : goal.returns-then-has-2
returns-then-has-2 c =
    ring_covering c.args.header.now c.requires.headed c.args.self.now c.requires.found c.args.address c.requires.aligned c.in-Some-start_near.near c.in-Some-start_near.ensures
    c.if-has-2.ensures.0 c.if-has-2.ensures.1
