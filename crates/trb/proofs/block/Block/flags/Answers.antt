use Rattle.trb.proofs.Laws.{known_from, has_flag-at_places, word}
use Rattle.trb.proofs.block.Block.flags.Goals as goal

pub returns-clause-bits : goal.returns-clause-bits
unfolding known_from
returns-clause-bits c = c.from_bits_truncate.ensures tt

pub returns-clause-contains : goal.returns-clause-contains
unfolding known_from
returns-clause-contains c = has_flag-at_places c.from_bits_truncate.result (word c.args.self 3) (c.from_bits_truncate.ensures tt)
