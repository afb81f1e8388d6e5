use Rattle.leases.proofs.Laws.{◌≡◌, ◌∙◌, sym, ap, place_of, InputContext, index_in, command_place, stands}
use Rattle.leases.proofs.book.ranges.RangeIndexes.end_context.Goals as goal

pub returns : goal.returns
returns g c = λ list h ts shape held found lent.
    let place : c.place.result ≡ command_place h c.args.position = c.place.ensures.value ∙ ap (λ s. place_of s c.args.position) (sym shape) in
    c.end_range.ensures list h ts (InputContext c.args.position) held
    (stands h c.args.self.now ts c.args.bytes c.args.address c.get-index.result (InputContext c.args.position)
    (λ i at. sym at ∙ ap (index_in c.args.self.now.contexts) (sym place) ∙ sym c.get-index.ensures) found) lent
