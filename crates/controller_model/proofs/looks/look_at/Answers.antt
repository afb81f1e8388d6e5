use Rattle.controller_model.proofs.Laws.{◌∙◌, sym, refl, look_shows, looked_at, seen_by_look, busy}
use Rattle.controller_model.proofs.looks.look_at.Goals as goal

pub returns-then-not-agrees-clause-step : goal.returns-then-not-agrees-clause-step
unfolding looked_at look_shows
returns-then-not-agrees-clause-step c = λ live words w same at turn f.
    simp (sym (c.agrees.ensures (w.cycle_state c.args.ring) turn) ∙ c.if-not-agrees.true) (refl, c.note_look.ensures c.args.header.now live words w same at f)

pub returns-then-is_link-clause-step : goal.returns-then-is_link-clause-step
unfolding looked_at look_shows
returns-then-is_link-clause-step c = λ live words w same at turn f.
    simp (sym (c.agrees.ensures (w.cycle_state c.args.ring) turn) ∙ c.if-not-agrees.false, sym c.is_link.ensures ∙ c.if-is_link.true) (
      refl,
      c.cross_on.ensures c.args.header.now words (seen_by_look live w c.args.ring) (c.note_look-then-is_link.ensures c.args.header.now live words w same at f),
    )

pub returns-clause-step : goal.returns-clause-step
unfolding looked_at look_shows seen_by_look
returns-clause-step c = λ live words w same at turn f.
    simp (
      sym (c.agrees.ensures (w.cycle_state c.args.ring) turn) ∙ c.if-not-agrees.false,
      sym c.is_link.ensures ∙ c.if-is_link.false,
      sym (busy c.args.header.now w c.args.ring c.args.kept.now.under_way f.under_way) ∙ sym c.is_busy.ensures ∙ c.if-is_busy.false,
    ) (
      (rw at),
      c.in_ok-take_block.ensures words (seen_by_look live w c.args.ring) at (c.note_look-2.ensures c.args.header.now live words w same at f),
    )
