use Rattle.trace_record.proofs.Laws.{arith, sym, subst, Row, RowPlace, IsPlaced, placed_other}
use Rattle.trace_record.proofs.trace_record.TraceRecord.place.Goals as goal

pub returns-in-Write : goal.returns-in-Write
returns-in-Write c = λ k memory f. subst (λ (row : Row). IsPlaced c.args.header.now k row c.write_place.result) (sym c.in-Write.is) (c.write_place.ensures k f.rings)

pub returns-in-Read : goal.returns-in-Read
returns-in-Read c = grind (arith, RowPlace, Row, IsPlaced)

pub returns-in_default : goal.returns-in_default
returns-in_default c = λ k memory f. placed_other c.args.header.now k c.args.row.now _ c.in_default.not-Write c.in_default.not-Read
