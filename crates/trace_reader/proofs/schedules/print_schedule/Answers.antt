use Rattle.trace_reader.proofs.Laws.{rules, ◌≡◌, ◌∙◌, ap, schedule_of, printed_schedule, whole_schedule, schedule_printed_reads}
use Rattle.trace_reader.proofs.schedules.print_schedule.Goals as goal

pub returns : goal.returns
returns c =
    let schedule = c.args.schedule.now in
    let printed : c.push_steps.new.out.items ≡ printed_schedule schedule.steps = rw (whole_schedule schedule.steps) (search rules) in
    record { printed = printed; reread = ap schedule_of printed ∙ schedule_printed_reads schedule.steps (record { steps = schedule.fitting; within = schedule.within }) }
