use Rattle.driver_rows.proofs.Laws.{arith, sym, ◌∙◌, subst, ◌&&◌, not, is_some, and_parts, not-true, is_lenient, event_ring, event_shape, FollowsEvents, erdp_address, is_event_place, passed, passed_is, moved_follows, others_follow, fine_erdp, stays_follows}
use Rattle.driver_rows.proofs.registers.note_dequeue.Goals as goal

pub returns-then-set_dequeue-clause-moved : goal.returns-then-set_dequeue-clause-moved
returns-then-set_dequeue-clause-moved c = λ is k started f.
    moved_follows c.args.header.now k c.args.register c.args.value c.set_dequeue.new.events c.in-Erdp.is (c.set_dequeue.ensures.moved c.if-set_dequeue.true c.args.header.now k f)

pub returns-then-set_dequeue-clause-exact : goal.returns-then-set_dequeue-clause-exact
returns-then-set_dequeue-clause-exact c = grind (arith, passed, passed_is)

pub returns-else-set_dequeue-clause-exact : goal.returns-else-set_dequeue-clause-exact
returns-else-set_dequeue-clause-exact c = grind (arith, passed, passed_is, FollowsEvents)

pub returns-else-set_dequeue-clause-moved : goal.returns-else-set_dequeue-clause-moved
returns-else-set_dequeue-clause-moved c = λ is k started f.
    let h = c.args.header.now in
    let same = subst (FollowsEvents h k) (sym (c.set_dequeue.ensures.kept c.if-set_dequeue.false)) f in
    let all = and_parts (is_lenient h.version) _ (sym (c.may_be_ignored.ensures k started same) ∙ is) in
    let rest = and_parts (not k.started) (is_some (event_ring h) && not (is_event_place (event_shape h) (erdp_address c.args.value))) all.1 in
    let none = and_parts (is_some (event_ring h)) (not (is_event_place (event_shape h) (erdp_address c.args.value))) rest.1 in
    stays_follows h k c.args.register c.args.value c.set_dequeue.new.events c.in-Erdp.is (not-true (is_event_place (event_shape h) (erdp_address c.args.value)) none.1) same

pub returns-in_default : goal.returns-in_default
returns-in_default c = grind (arith, others_follow, fine_erdp)
