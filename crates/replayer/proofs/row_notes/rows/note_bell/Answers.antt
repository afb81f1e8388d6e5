use Rattle.replayer.proofs.MiddleLaws.{◌∙◌, append-nil, eq-eqb, ne_eqb, sym, row_notes, on_more}
use Rattle.replayer.proofs.row_notes.rows.note_bell.Goals as goal

pub returns-then-slot-eq0 : goal.returns-then-slot-eq0
unfolding row_notes
returns-then-slot-eq0 c = λ h k f. rw (eq-eqb c.args.slot 0 c.if-slot-eq0.true) (sym (append-nil c.args.notes.now.items))

pub returns-in-Some : goal.returns-in-Some
unfolding row_notes
returns-in-Some c = on_more c.add_note.result (λ added. λ h k f. rw (ne_eqb c.args.slot 0 c.if-slot-eq0.false, sym (c.ring_of.ensures k f) ∙ c.in-Some.is) added) c.add_note.ensures

pub returns-in-None : goal.returns-in-None
unfolding row_notes
returns-in-None c = λ h k f. rw (ne_eqb c.args.slot 0 c.if-slot-eq0.false, sym (c.ring_of.ensures k f) ∙ c.in-None.is) (sym (append-nil c.args.notes.now.items))
