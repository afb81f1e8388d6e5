use Rattle.std.proofs.lemmas.List.{take_rest}
use Rattle.trace_reader.proofs.Laws.{sym, blocks_within, subs_say}
use Rattle.trace_reader.proofs.declarations.quick_declarations.Goals as goal

pub returns-clause-says : goal.returns-clause-says
returns-clause-says c =
    rw c.new.ensures (subs_say c.args.content.now c.in_ok-ring.ring c.in_ok-blocks.blocks.items c.if-content-le-FRONT.false c.if-content.false c.if-content-ne115.false c.if-content-ne117.false
    c.if-content-ne98.false c.if-content-ne32.false (sym c.in_ok-ring.ensures) (rw (take_rest c.args.content.now 6) at c.in_ok-blocks.ensures))

pub returns-clause-within : goal.returns-clause-within
returns-clause-within c =
    rw c.new.ensures (blocks_within c.args.content.now c.in_ok-blocks.blocks.items c.if-content-le-FRONT.false c.if-content.false (rw (take_rest c.args.content.now 6) at c.in_ok-blocks.ensures))
