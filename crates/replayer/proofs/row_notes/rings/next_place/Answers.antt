use Rattle.replayer.proofs.MiddleLaws.{◌≡◌, Some, get_or, ap, sym, ◌∙◌, same_Some, slice_get-get_or, slice_get_within, Ring, command_id, next_command, no_command_ring, IsCommandNumber, command_id_is, command_number, has_commands, read_at, next_there}
use Rattle.replayer.proofs.row_notes.rings.next_place.Goals as goal

pub returns-in_default : goal.returns-in_default
returns-in_default c = λ k m f some. has_commands c.args.header.now some (no_command_ring c.args.header.now (sym c.requires.found.commands ∙ c.in_default.is))

pub returns : goal.returns
returns c = λ k m f some.
    let h = c.args.header.now in
    let n = c.in-Some.number in
    let has : IsCommandNumber h n = command_number h c.requires.headed n (sym c.requires.found.commands ∙ c.in-Some.is) in
    let known = c.in-Some-get.known.now in
    let there = read_at c.deref.result.now c.args.kept.now.rings.items n known c.deref.ensures.value c.in-Some-get.ensures.lookup.3.0 c.in-Some-get.ensures.lookup.1 in
    let follows = f.rings.each n has.ring known has.at there has.driver in
    let item = c.index-rings-number.result in
    let same : item ≡ has.ring = same_Some item has.ring (ap (λ (q : Ring). Some q) (c.index-rings-number.is ∙ ap (λ xs. get_or xs n item) c.as_slice-rings.ensures) ∙ sym (slice_get-get_or h.rings n item (slice_get_within h.rings n has.ring has.at)) ∙ has.at) in
    let id : item.id ≡ command_id h = ap (λ (q : Ring). q.id) same ∙ sym (command_id_is h has.ring has.there) in
    let next : c.floor_number.result ≡ next_command h k = next_there h c.requires.headed k has.ring c.floor_number.result has.there (c.floor_number.ensures.value has.ring.shape (k.ring has.ring.id) follows) in
    cc
