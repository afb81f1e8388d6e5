use Rattle.leases.proofs.Laws.{sym, SegmentTable, stands}
use Rattle.leases.proofs.book.ranges.RangeIndexes.end_table.Goals as goal

pub returns : goal.returns
returns g c = λ list h ts held found lent.
    c.end_range.ensures list h ts SegmentTable held (stands h c.args.self.now ts c.args.bytes c.args.address c.args.self.now.table SegmentTable (λ i at. sym at) found) lent
