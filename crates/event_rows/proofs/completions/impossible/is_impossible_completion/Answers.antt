use Rattle.event_rows.proofs.Laws.{◌∙◌, ap, get_or, refl, sym, is_command_kind, among_at, command_found, no_command_ring, driven, read_at, next_is, completion_is, none_completes}
use Rattle.std.specs.Option.{is_some}
use Rattle.trace_record.proofs.RingFinder.FoundRings.{ring_here}
use Rattle.event_rows.proofs.completions.impossible.is_impossible_completion.Goals as goal

pub returns-in_default : goal.returns-in_default
returns-in_default c = λ k m f set_up next.
    none_completes c.args.header.now c.requires.headed k set_up c.args.block (no_command_ring c.args.header.now (sym c.requires.found.commands ∙ c.in_default.is))

pub returns : goal.returns
returns c = λ k m f set_up next.
    let h = c.args.header.now in
    let n = c.in-Some.number in
    let ring = c.index-rings-number.result in
    let here = ring_here h (λ q. is_command_kind q.shape.kind) h.rings n ring (sym c.requires.found.commands ∙ c.in-Some.is) refl (c.index-rings-number.is ∙ ap (λ xs. get_or xs n ring) c.as_slice-rings.ensures) in
    let there = command_found h c.requires.headed ring (among_at h.rings n ring here.0) here.1 in
    let record_at = read_at c.deref.result.now c.args.t.now.rings.items n c.in-Some-get.known.now c.deref.ensures.value c.in-Some-get.ensures.lookup.3.0 c.in-Some-get.ensures.lookup.1 in
    let known = f.rings.each n ring c.in-Some-get.known.now here.0 record_at (driven ring.shape.kind here.1) in
    let named = next (ap (λ o. is_some o) there) in
    c.is_no_completion.ensures (k.ring ring.id) k known f.devices f.registers (named ∙ next_is h c.requires.headed k ring there) ∙ sym (completion_is h c.requires.headed k ring there c.args.block)
