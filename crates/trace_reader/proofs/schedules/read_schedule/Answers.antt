use Rattle.trace_reader.proofs.Laws.{schedule_of, IsSchedule, spells_schedule, one_schedule, schedule_read_if_spelled, schedule_spelled_if_read, none_spelled}
use Rattle.trace_reader.proofs.schedules.read_schedule.Goals as goal

pub invariant_of-result : goal.invariant_of-result
invariant_of-result c =
    let valid : IsSchedule c.in-Ok.steps.items = (schedule_spelled_if_read c.args.text.now c.in-Ok.steps.items c.in-Ok.ensures.ok).1 in
    record { fitting = rw c.new.ensures valid.steps; within = rw c.new.ensures valid.within }

pub returns-in-Ok-clause-spelled : goal.returns-in-Ok-clause-spelled
returns-in-Ok-clause-spelled c = rw c.new.ensures ((schedule_spelled_if_read c.args.text.now c.in-Ok.steps.items c.in-Ok.ensures.ok).0)

pub returns-in-Ok-clause-alone : goal.returns-in-Ok-clause-alone
returns-in-Ok-clause-alone c other valid spelled =
    let s = schedule_spelled_if_read c.args.text.now c.in-Ok.steps.items c.in-Ok.ensures.ok in
    rw c.new.ensures (one_schedule c.args.text.now other c.in-Ok.steps.items spelled valid s.0 s.1)

pub returns-in-Err-clause-unspelled : goal.returns-in-Err-clause-unspelled
returns-in-Err-clause-unspelled c =
    none_spelled (schedule_of c.args.text.now) (λ steps. spells_schedule steps c.args.text.now) (λ steps. IsSchedule steps)
    (λ steps spelled is. schedule_read_if_spelled c.args.text.now steps spelled is) c.in-Err.fault c.in-Err.ensures.err
