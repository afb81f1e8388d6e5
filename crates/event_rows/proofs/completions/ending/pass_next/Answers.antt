use Rattle.event_rows.proofs.Laws.{◌∙◌, ap, get_or, refl, sym, is_command_kind, among_at, command_found, no_command_ring, driven, has_commands, passed_with}
use Rattle.trace_record.proofs.RingFinder.FoundRings.{ring_here}
use Rattle.event_rows.proofs.completions.ending.pass_next.Goals as goal

pub returns-in_default : goal.returns-in_default
returns-in_default c = λ k f some next.
    has_commands c.args.header.now some (no_command_ring c.args.header.now (sym c.requires.found.commands ∙ c.in_default.is))

pub returns-in-Some-get_mut : goal.returns-in-Some-get_mut
returns-in-Some-get_mut c = λ k f some next.
    let h = c.args.header.now in
    let n = c.in-Some.number in
    let items = c.args.rings.now.items in
    let ring = c.index-all-number.result in
    let here = ring_here h (λ q. is_command_kind q.shape.kind) h.rings n ring (sym c.requires.found.commands ∙ c.in-Some.is) refl (c.index-all-number.is ∙ ap (λ xs. get_or xs n ring) c.as_slice-all.ensures) in
    let there = command_found h c.requires.headed ring (among_at h.rings n ring here.0) here.1 in
    passed_with h c.requires.headed k items f n ring here.0 (driven ring.shape.kind here.1) there c.in-Some-get_mut.known.now c.in-Some-get_mut.ensures.value c.pass.new.self c.floor-next.result
    (λ v follows. c.floor-next.ensures ring.shape v follows) c.pass.ensures next
