use Rattle.trace_record.proofs.Laws.{◌∙◌, Some, sym, subst}
use Rattle.trace_record.proofs.BaseWords.{List, RingRecord}
use Rattle.trace_record.specs.RingFinder.RecordsOfRings.{FollowsRings}
use Rattle.traces.specs.LivingRings.{with_ring}
use Rattle.ring_knowledge.specs.Histories.{forgotten}
use Rattle.trace_record.proofs.LivingRings.{came, new_events, rings_come, still_events}
use Rattle.trace_record.proofs.trace_record.TraceRecord.add_ring.Goals as goal

pub returns-in_ok-copy-clause-ok : goal.returns-in_ok-copy-clause-ok
returns-in_ok-copy-clause-ok c = λ h k m f comes.
    let r = c.args.ring.now in
    came h k r comes c.args.self.now (record c.args.self.now { rings = c.push.new.self; events = Some c.new-then-is_event_ring.result }) m f
    (subst (λ (xs : List RingRecord). FollowsRings (with_ring h r) (forgotten k r.id) xs) (sym c.in_ok-push.ensures.items) (rings_come h k r comes c.args.self.now.rings.items c.in_ok-known.known f.rings c.in_ok-known.ensures))
    (new_events h k r comes (sym c.is_event_ring.ensures ∙ c.if-is_event_ring.true) c.new-then-is_event_ring.result (c.new-then-is_event_ring.ensures.shape ∙ c.in_ok-copy.ensures) c.new-then-is_event_ring.ensures.counts)

pub returns-else-is_event_ring-clause-ok : goal.returns-else-is_event_ring-clause-ok
returns-else-is_event_ring-clause-ok c = λ h k m f comes.
    let r = c.args.ring.now in
    came h k r comes c.args.self.now (record c.args.self.now { rings = c.push.new.self }) m f
    (subst (λ (xs : List RingRecord). FollowsRings (with_ring h r) (forgotten k r.id) xs) (sym c.in_ok-push.ensures.items) (rings_come h k r comes c.args.self.now.rings.items c.in_ok-known.known f.rings c.in_ok-known.ensures))
    (still_events h k r comes (sym c.is_event_ring.ensures ∙ c.if-is_event_ring.false) c.args.self.now.events f.events)
