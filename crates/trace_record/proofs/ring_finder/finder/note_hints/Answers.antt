use Rattle.trace_record.proofs.Laws.{rules, arith, get_or_default, Start, one_hint}
use Rattle.trace_record.proofs.BaseWords.{length-set}
use Rattle.trace_record.proofs.ring_finder.finder.note_hints.Goals as goal

pub loop-number-preserved : goal.loop-number-preserved
loop-number-preserved c = (grind (arith, Start, one_hint, get_or_default), search (rules, length-set))
