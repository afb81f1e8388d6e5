use Rattle.trace_reader.proofs.Laws.{sym, sub_says}
use Rattle.trace_reader.proofs.quick.quick_declaration.Goals as goal

pub returns : goal.returns
returns c =
    sub_says c.args.content.now c.in_ok-ring.ring c.in_ok-block.block c.requires c.if-content-ne115.false c.if-content-ne117.false c.if-content-ne98.false c.if-content-ne32.false
    c.if-content-ne32-2.false c.if-content-ne32-3.false c.if-content-ne32-4.false c.if-content-ne32-5.false (sym c.in_ok-ring.ensures) (sym c.in_ok-block.ensures)
