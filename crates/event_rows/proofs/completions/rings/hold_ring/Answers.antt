use Rattle.event_rows.proofs.Laws.{arith, refl, sym, ◌∙◌, read_at, held_with, held_without}
use Rattle.event_rows.proofs.completions.rings.hold_ring.Goals as goal

pub returns-in_default : goal.returns-in_default
returns-in_default c = λ k f. held_without c.args.header.now c.requires.headed k c.args.rings.now.items f c.args.id (sym c.number_of.ensures.value ∙ c.in_default.is)

pub returns-in-Some-get_mut : goal.returns-in-Some-get_mut
returns-in-Some-get_mut c = λ k f.
    let n = c.in-Some.number in
    let items = c.args.rings.now.items in
    let known = c.in-Some-get_mut.known.now in
    let there = read_at items items n known refl (omega (arith, f.as_many, c.in-Some.ensures.inside)) c.in-Some-get_mut.ensures.value in
    held_with c.args.header.now c.requires.headed k items f n known there c.hold_at_ceiling.new.self c.args.id (sym c.number_of.ensures.value ∙ c.in-Some.is) c.hold_at_ceiling.ensures
