use Rattle.replayer.proofs.MiddleLaws.{sym, ◌∙◌, read_at, kept_there, not_there}
use Rattle.replayer.proofs.row_notes.rings.is_open.Goals as goal

pub returns-in_default : goal.returns-in_default
returns-in_default c = λ h k m headed found f transfer. not_there h headed c.args.id transfer (sym (c.ring_named.ensures h.rings found) ∙ c.in_default.is)

pub returns : goal.returns
returns c = λ h k m headed found f transfer.
    let n = c.in-Some.number in
    let known = c.in-Some-get.known.now in
    let there = read_at c.deref.result.now c.args.kept.now.rings.items n known c.deref.ensures.value c.in-Some-get.ensures.lookup.3.0 c.in-Some-get.ensures.lookup.1 in
    let follows = kept_there h headed c.args.id transfer n (sym (c.ring_named.ensures h.rings found) ∙ c.in-Some.is) k c.args.kept.now.rings.items f.rings known there in
    c.is_open.ensures follows.0.shape (k.ring c.args.id) follows.1
