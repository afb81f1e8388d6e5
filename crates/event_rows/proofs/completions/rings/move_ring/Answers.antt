use Rattle.event_rows.proofs.Laws.{ap, arith, length, refl, sym, ◌∙◌, read_at, moved_with, moved_without}
use Rattle.event_rows.proofs.completions.rings.move_ring.Goals as goal

pub returns-in_default : goal.returns-in_default
returns-in_default c = λ k f may. moved_without c.args.header.now c.requires.headed k c.args.rings.now.items f c.args.id c.args.pointer c.args.cycle (sym c.number_of.ensures.value ∙ c.in_default.is)

pub returns-in-Some-get_mut : goal.returns-in-Some-get_mut
returns-in-Some-get_mut c = λ k f may.
    let n = c.in-Some.number in
    let items = c.args.rings.now.items in
    let known = c.in-Some-get_mut.known.now in
    let there = read_at items items n known refl (omega (arith, f.as_many, c.in-Some.ensures.inside)) c.in-Some-get_mut.ensures.value in
    let ring = c.index-all-number.result in
    let ring_at = read_at c.as_slice-all.result.now c.args.header.now.rings n ring c.as_slice-all.ensures (omega (arith, c.in-Some.ensures.inside, ap length c.as_slice-all.ensures)) c.index-all-number.is in
    moved_with c.args.header.now c.requires.headed k items f n known there c.move_to_target.new.known c.args.id c.args.pointer c.args.cycle (sym c.number_of.ensures.value ∙ c.in-Some.is) ring ring_at may c.move_to_target.ensures
