use Rattle.trace_reader.proofs.Laws.{sym, register_says}
use Rattle.trace_reader.proofs.quick.quick_register.Goals as goal

pub returns : goal.returns
returns c =
    register_says c.args.content.now c.in_ok-register.field.now c.in_ok-register.register c.in_ok-value.value c.requires c.in_ok-register.ensures (sym c.in_ok-value.ensures)
