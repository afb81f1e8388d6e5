use Rattle.controller_model.proofs.Laws.{◌∙◌, sym, input_add_flag, has_isochronous, only_unnamed, only_named, typed_none, typed_one, typed_same}
use Rattle.controller_model.proofs.types.type_one.Goals as goal

pub returns-then-not-adds-clause-change : goal.returns-then-not-adds-clause-change
returns-then-not-adds-clause-change g c = λ h words w f.
    let memory = g.M.WordMemory.words c.args.memory.now in
    let isochronous = has_isochronous c.args.size memory c.args.context in
    let unnamed = sym c.adds.ensures ∙ c.if-not-adds.true in
    rw (typed_same w c.args.slot isochronous _ _ (only_unnamed (input_add_flag memory c.args.context) c.args.index unnamed) ∙ typed_none w c.args.slot isochronous) f

pub returns-clause-change : goal.returns-clause-change
returns-clause-change g c = λ h words w f.
    let memory = g.M.WordMemory.words c.args.memory.now in
    let isochronous = has_isochronous c.args.size memory c.args.context in
    let named = sym c.adds.ensures ∙ c.if-not-adds.false in
    let now = rw c.has_isochronous-is_isochronous.ensures at (c.set_type.ensures.change h words w f) in
    rw (typed_same w c.args.slot isochronous _ _ (only_named (input_add_flag memory c.args.context) c.args.index named))
    (rw (typed_one w c.args.slot isochronous c.args.index) at now)
