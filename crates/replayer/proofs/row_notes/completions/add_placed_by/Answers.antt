use Rattle.replayer.proofs.MiddleLaws.{◌∙◌, append-nil, eq-eqb, ne_eqb, sym, code, slot, placed_by, on_more}
use Rattle.replayer.proofs.row_notes.completions.add_placed_by.Goals as goal

pub returns-then-code-ne1 : goal.returns-then-code-ne1
returns-then-code-ne1 g c = λ k f may. rw (ne_eqb (code c.args.event) 1 (λ one. c.if-code-ne1.true (c.code.ensures ∙ one))) (sym (append-nil c.args.rings.now.items))

pub returns-in-None : goal.returns-in-None
unfolding placed_by
returns-in-None g c = λ k f may. rw (eq-eqb (code c.args.event) 1 (sym c.code.ensures ∙ c.if-code-ne1.false), c.in-None.is) (sym (append-nil c.args.rings.now.items))

pub returns-in-Some : goal.returns-in-Some
unfolding placed_by
returns-in-Some g c =
    on_more c.add_placed.result (λ adds. λ k f may.
    let still = rw c.in-Some.is at may in
    rw (eq-eqb (code c.args.event) 1 (sym c.code.ensures ∙ c.if-code-ne1.false), c.in-Some.is) (adds k (slot c.args.event) f.devices f.words still.0 still.1 still.2)) c.add_placed.ensures
