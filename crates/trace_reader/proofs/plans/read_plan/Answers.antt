use Rattle.trace_reader.proofs.Laws.{PlanText, plan_of, IsPlan, spells_plan, one_plan, plan_read_if_spelled, plan_spelled_if_read, none_spelled}
use Rattle.trace_reader.proofs.plans.read_plan.Goals as goal

pub invariant_of-result : goal.invariant_of-result
invariant_of-result c =
    let plan : PlanText = record { ring = c.in-Ok.ring; lines = c.in-Ok.lines.items } in
    let valid : IsPlan plan = (plan_spelled_if_read c.args.text.now plan c.in-Ok.ensures.ok).1 in
    record { named = valid.id; allowed = valid.shape; driven = valid.driven; fitting = rw c.new.ensures valid.lines; within = rw c.new.ensures valid.within }

pub returns-in-Ok-clause-spelled : goal.returns-in-Ok-clause-spelled
returns-in-Ok-clause-spelled c = rw c.new.ensures ((plan_spelled_if_read c.args.text.now (record { ring = c.in-Ok.ring; lines = c.in-Ok.lines.items }) c.in-Ok.ensures.ok).0)

pub returns-in-Ok-clause-alone : goal.returns-in-Ok-clause-alone
returns-in-Ok-clause-alone c other valid spelled =
    let plan : PlanText = record { ring = c.in-Ok.ring; lines = c.in-Ok.lines.items } in
    let s = plan_spelled_if_read c.args.text.now plan c.in-Ok.ensures.ok in
    rw c.new.ensures (one_plan c.args.text.now other plan spelled valid s.0 s.1)

pub returns-in-Err-clause-unspelled : goal.returns-in-Err-clause-unspelled
returns-in-Err-clause-unspelled c =
    none_spelled (plan_of c.args.text.now) (λ plan. spells_plan plan c.args.text.now) (λ plan. IsPlan plan) (λ plan spelled is. plan_read_if_spelled c.args.text.now plan spelled is)
    c.in-Err.fault c.in-Err.ensures.err
