use Rattle.controller_model.proofs.Laws.{◌==◌, ◌&&◌, ◌∙◌, ap, sym, arith, eq-eqb, ne_eqb, activated, bell_row, activated_other, follows_same, command_id-some, command_id-none}
use Rattle.controller_model.proofs.bells.ring_bell.Goals as goal

pub returns-then-slot-ne0 : goal.returns-then-slot-ne0
unfolding bell_row
returns-then-slot-ne0 c = λ words w f. simp (ne_eqb c.args.slot 0 c.if-slot-ne0.true) (c.ring_endpoint.ensures c.args.header.now words w f)

pub returns-in-None : goal.returns-in-None
unfolding activated bell_row
returns-in-None c = grind (arith, command_id-none, eq-eqb, follows_same, activated_other)

pub returns-in-Some : goal.returns-in-Some
unfolding bell_row
returns-in-Some c = λ words w f.
    let starts = ap (λ b. c.args.target == 0 && b) f.progress.started ∙ sym c.starts_commands.ensures ∙ c.if-not-starts_commands.false in
    simp (eq-eqb c.args.slot 0 c.if-slot-ne0.false, starts)
    (rw (command_id-some c.args.header.now c.in-Some.ring.now c.in-Some.ensures) (c.activate.ensures c.args.header.now words w f))
