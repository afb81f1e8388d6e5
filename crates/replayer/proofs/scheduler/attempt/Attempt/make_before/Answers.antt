use Rattle.replayer.proofs.MiddleLaws.{made_before, made_post, not_read}
use Rattle.replayer.proofs.scheduler.attempt.Attempt.make_before.Goals as goal

pub returns-in-Read-Some : goal.returns-in-Read-Some
unfolding made_before made_post
returns-in-Read-Some c m has = rw (c.in-Read-Some.is-0, c.in-Read-Some.is-1) (rw c.post_of.ensures.step at c.make_behind_looks.ensures m has)

pub returns-in-Read-None : goal.returns-in-Read-None
unfolding made_before made_post
returns-in-Read-None c m has = rw (c.in-Read-None.is-0, c.in-Read-None.is-1) (rw c.post_of-in-Read-None.ensures.step at c.make.ensures m has)

pub returns-in_default : goal.returns-in_default
returns-in_default c m has = rw (not_read m c.args.row.now _ c.in_default.not-Read-0) (c.halt_before.ensures m has)
