use Rattle.trace_reader.proofs.Laws.{text_of, ok_also, few_lines}
use Rattle.trace_reader.proofs.read.read_trace.Goals as goal

pub returns-clause-few : goal.returns-clause-few
returns-clause-few c = ok_also c.read_kept.result (λ trace is. few_lines c.args.text.now (text_of trace) is) c.read_kept.ensures.read
