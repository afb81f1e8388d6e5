use Rattle.plan_writer.proofs.Words.{rules, plan_text, whole_text, plan_trace}
use Rattle.plan_writer.proofs.print.print_plan.Goals as goal

pub returns-clause-printed : goal.returns-clause-printed
returns-clause-printed c =
    rw (whole_text (plan_trace (plan_text c.args.plan))) (search rules)
