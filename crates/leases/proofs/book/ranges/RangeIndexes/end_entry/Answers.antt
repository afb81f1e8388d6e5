use Rattle.leases.proofs.Laws.{sym, ap, ◌∙◌, SlotEntry, index_in, stands}
use Rattle.leases.proofs.book.ranges.RangeIndexes.end_entry.Goals as goal

pub returns : goal.returns
returns g c = λ list h ts held found lent.
    c.end_range.ensures list h ts (SlotEntry c.args.slot) held
    (stands h c.args.self.now ts c.args.bytes c.args.address c.get-index.result (SlotEntry c.args.slot) (λ i at. sym at ∙ ap (index_in c.args.self.now.entries) (sym c.from.ensures) ∙ sym c.get-index.ensures) found) lent
