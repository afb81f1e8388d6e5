use Rattle.controller_model.proofs.Laws.{◌<◌, ◌∙◌, length, is_some, ap, sym, arith, slot_success, read_at}
use Rattle.controller_model.proofs.successes.slot_allows.Goals as goal

pub returns : goal.returns
returns c = λ h words w f.
    let inside : c.slot_meant-meant.result < length c.args.kept.now.slots.items = omega (arith, c.args.kept.now.slots_many, c.from.ensures) in
    let old = f.slots.each c.slot_meant-meant.result c.index.result.now
    (read_at c.args.kept.now.slots.items c.from.result c.slot_meant-meant.result c.index.result.now c.from.ensures inside c.index.ensures) in
    c.is_some.ensures ∙ ap (λ o. is_some o) c.after.ensures
    ∙ ap (λ s. is_some (slot_success c.args.command.now s)) (sym old.0 ∙ ap w.slot_state c.slot_meant-meant.ensures)
