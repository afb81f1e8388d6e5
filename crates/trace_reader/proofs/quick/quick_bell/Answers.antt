use Rattle.trace_reader.proofs.Laws.{sym, bell_says}
use Rattle.trace_reader.proofs.quick.quick_bell.Goals as goal

pub returns : goal.returns
returns c =
    bell_says c.args.content.now c.in_ok-slot.slot c.in_ok-target.target c.requires c.if-content-ne100.false c.if-content-ne98.false c.if-content-ne32.false c.if-content-ne32-2.false
    (sym c.in_ok-slot.ensures) (sym c.in_ok-target.ensures)
