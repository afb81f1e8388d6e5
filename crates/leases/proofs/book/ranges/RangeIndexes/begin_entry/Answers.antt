use Rattle.leases.proofs.Laws.{sym, ap, ◌∙◌, SlotEntry, index_in, always_ok, entry_put, range_begins}
use Rattle.leases.proofs.book.ranges.RangeIndexes.begin_entry.Goals as goal

pub returns-clause-found : goal.returns-clause-found
returns-clause-found g c = always_ok c.begin_range.result (λ list h ts held found free.
    range_begins h c.args.self.now (record { contexts = c.args.self.now.contexts; entries = c.put.new.self; devices = c.args.self.now.devices; table = c.args.self.now.table; segments = c.args.self.now.segments }) (SlotEntry c.args.slot)
    (entry_put h c.args.self.now c.put.new.self c.args.slot c.from.result c.from.ensures c.in_ok-put.ensures.others) c.args.row c.args.bytes c.args.address ts
    (ap (index_in c.put.new.self) (sym c.from.ensures) ∙ c.in_ok-put.ensures.same ∙ c.count-index.ensures list h ts held) found free)
