use Rattle.controller_model.proofs.Laws.{◌+◌, ◌∙◌, ap, sym, changed_by_all, places_from, adds_next, first_of}
use Rattle.controller_model.proofs.effects.place_added.Goals as goal

pub returns-clause-change : goal.returns-clause-change
returns-clause-change g c = λ h words d w final lists made f.
    let memory = g.M.WordMemory.words c.args.memory.now in
    let size = c.args.header.now.context_size in
    let added = sym c.adds.ensures ∙ c.if-not-adds.false in
    let next = first_of c.args.header.now d w final c.args.slot c.args.index c.args.context size memory (places_from size memory c.args.slot c.args.context (c.args.index + 1))
    (sym (ap (λ xs. changed_by_all c.args.header.now d w xs) (adds_next size memory c.args.slot c.args.context c.args.index c.requires.last added)) ∙ made) in
    record {
      world = next.world;
      first = c.in_ok-place_by_context.ensures.change h words w next.world lists next.made f;
      second = next.goes_on;
    }
