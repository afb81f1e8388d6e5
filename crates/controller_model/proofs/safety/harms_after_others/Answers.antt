use Rattle.controller_model.proofs.Laws.{◌∙◌, sym, harms_kept, second_false}
use Rattle.controller_model.proofs.safety.harms_after_others.Goals as goal

pub returns : goal.returns
returns g c = λ w v before nothing f.
    let x = c.args.before in
    let none = sym c.is_any.ensures ∙ c.if-is_any.false in
    harms_kept c.args.header.now w v x before nothing (second_false x.other_words x.waits_inside (second_false x.out_of_order _ none))
    (λ i q at may. c.may_wait_inside.ensures c.args.header.now v f c.if-may_wait_inside.false q.id may)
