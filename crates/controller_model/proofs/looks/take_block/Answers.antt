use Rattle.controller_model.proofs.Words.{sym, taken, taken_on, command_begun}
use Rattle.controller_model.proofs.looks.take_block.Goals as goal

pub returns-then-is_command_ring : goal.returns-then-is_command_ring
unfolding taken
returns-then-is_command_ring c = λ words w at f.
    let u = taken_on c.args.header.now w c.args.ring c.args.block.now in
    let begun = c.begin.ensures c.args.header.now words u (c.in_ok-take_on.ensures c.args.header.now words w c.ring_with.ensures f) in
    simp (sym c.if-is_command_ring.ensures, at)
    (c.watch_context.ensures c.args.header.now words (command_begun c.args.header.now u c.args.pointer c.args.block.now) begun)

pub returns : goal.returns
unfolding taken
returns c = λ words w at f. simp (sym c.if-is_command_ring.ensures) (c.in_ok-take_on.ensures c.args.header.now words w c.ring_with.ensures f)
