use Rattle.trb.proofs.Laws.{sym, arith, nat_tests, kind_numbered-unnamed}
use Rattle.trb.proofs.kind.BlockKind.from_number.Goals as goal

-- no other arm takes the number, so it is that of no name
pub returns-in_default-clause-kind : goal.returns-in_default-clause-kind
returns-in_default-clause-kind c = sym (kind_numbered-unnamed c.args.number (grind (arith, nat_tests)))
