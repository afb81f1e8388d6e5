use Rattle.std.proofs.Common.{sym, ◌∙◌}
use Rattle.event_ring.proofs.CountLemmas.{in_order_posted, posts_elsewhere}
use Rattle.event_ring.proofs.event_place.EventPlace.post.Goals as goal

pub returns-clause-in_order : goal.returns-clause-in_order
returns-clause-in_order c = λ order.
    rw (← c.self.view_is) at (in_order_posted c.args.self.now c.may_post.ensures.allowed (sym c.may_post.ensures.value ∙ c.if-not-may_post.false) order)

pub returns-clause-over_none : goal.returns-clause-over_none
returns-clause-over_none c = posts_elsewhere c.args.self.now c.may_post.ensures.allowed (sym c.may_post.ensures.value ∙ c.if-not-may_post.false)
