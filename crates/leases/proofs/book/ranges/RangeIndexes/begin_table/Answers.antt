use Rattle.leases.proofs.Laws.{SegmentTable, always_ok, range_begins, table_put}
use Rattle.leases.proofs.book.ranges.RangeIndexes.begin_table.Goals as goal

pub returns-clause-found : goal.returns-clause-found
returns-clause-found g c = always_ok c.begin_range.result (λ list h ts held found free.
    range_begins h c.args.self.now (record { contexts = c.args.self.now.contexts; entries = c.args.self.now.entries; devices = c.args.self.now.devices; table = c.count-self.result; segments = c.args.self.now.segments }) SegmentTable
    (table_put h c.args.self.now c.count-self.result) c.args.row c.args.bytes c.args.address ts (c.count-self.ensures list h ts held) found free)
