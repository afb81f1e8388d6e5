use Rattle.trace_reader.proofs.Laws.{cut_at}
use Rattle.trace_reader.proofs.declarations.declaring_content.Goals as goal

pub returns-then-text-end-eq10 : goal.returns-then-text-end-eq10
returns-then-text-end-eq10 c = cut_at c.args.text.now _ c.if-text-end.false c.if-text-end-eq10.true
