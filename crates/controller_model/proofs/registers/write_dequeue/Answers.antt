use Rattle.controller_model.proofs.Words.{Erdp, register_row, valued}
use Rattle.controller_model.proofs.registers.write_dequeue.Goals as goal

pub returns : goal.returns
unfolding register_row
returns c = λ words w f. c.in_ok-set_dequeue.ensures words (valued w Erdp c.args.value) (c.note.ensures c.args.header.now words w f)
