use Rattle.leases.proofs.Laws.{◌≡◌, ◌∙◌, sym, ap, place_of, InputContext, index_in, command_place, always_ok, context_put, range_begins}
use Rattle.leases.proofs.book.ranges.RangeIndexes.begin_context.Goals as goal

pub returns-clause-found : goal.returns-clause-found
returns-clause-found g c = always_ok c.begin_range.result (λ list h ts shape held found free.
    let place : c.place.result ≡ command_place h c.args.position = c.place.ensures.value ∙ ap (λ s. place_of s c.args.position) (sym shape) in
    range_begins h c.args.self.now (record { contexts = c.put.new.self; entries = c.args.self.now.entries; devices = c.args.self.now.devices; table = c.args.self.now.table; segments = c.args.self.now.segments }) (InputContext c.args.position)
    (context_put h c.args.self.now c.put.new.self c.args.position c.place.result place c.in_ok-put.ensures.others) c.args.row c.args.bytes c.args.address ts
    (ap (index_in c.put.new.self) (sym place) ∙ c.in_ok-put.ensures.same ∙ c.count-index.ensures list h ts held) found free)
