use Rattle.trace_record.proofs.Laws.{subst, ◌*◌, ℕ, [], HoldsAreas, AreFresh, follows_first}
use Rattle.trace_record.proofs.trace_record.TraceRecord.new.Goals as goal

pub returns-clause-follows : goal.returns-clause-follows
returns-clause-follows c = λ m blank.
    let fresh = subst (λ xs. AreFresh xs c.in_ok-fresh_records.field-0.items) c.as_slice.ensures c.in_ok-fresh_records.ensures in
    let inputs = subst (λ (n : ℕ). HoldsAreas (33 * n) [] c.new-5.result) c.bytes-context.ensures c.new-5.ensures in
    let contexts = subst (λ (n : ℕ). HoldsAreas (32 * n) [] c.new-6.result) c.bytes-context.ensures c.new-6.ensures in
    follows_first c.args.header.now _ fresh c.new.ensures c.in_ok-event_place.ensures.follows c.in_ok-new.ensures c.in_ok-new-2.ensures c.new-4.ensures inputs contexts c.new-7.ensures m blank
