use Rattle.trace_reader.proofs.Laws.{arith, length-take-le, cut_at}
use Rattle.trace_reader.proofs.quick.content_ahead.Goals as goal

pub returns : goal.returns
returns c = (length-take-le c.args.count c.args.text.now (omega (arith, c.if-text-count.false)), cut_at c.args.text.now c.args.count c.if-text-count.false c.if-text-count-ne10.false)
