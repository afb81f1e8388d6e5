use Rattle.trace_reader.proofs.Laws.{sym, write_says}
use Rattle.trace_reader.proofs.quick.quick_write.Goals as goal

pub returns : goal.returns
returns c =
    write_says c.args.content.now c.in_ok-at.at c.in_ok-word.word c.requires c.if-content-ne119.false c.if-content-ne32.false c.if-content-ne32-2.false (sym c.in_ok-at.ensures)
    (sym c.in_ok-word.ensures)
