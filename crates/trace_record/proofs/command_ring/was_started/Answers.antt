use Rattle.trace_record.proofs.Laws.{◌∙◌, ap, sym}
use Rattle.std.proofs.Common.{not, ◌==◌}
use Rattle.trace_record.proofs.CommandRing.{started_open, started_held}
use Rattle.trace_record.proofs.command_ring.was_started.Goals as goal

pub returns-then-is_open : goal.returns-then-is_open
returns-then-is_open c = λ shape v known. c.if-is_open.true ∙ started_open shape v (sym (c.is_open.ensures shape v known) ∙ c.if-is_open.true)

pub returns-else-is_open : goal.returns-else-is_open
returns-else-is_open c = λ shape v known. ap (λ n. not (n == 0)) (c.ceiling.ensures shape v known) ∙ started_held shape v (sym (c.is_open.ensures shape v known) ∙ c.if-is_open.false)
