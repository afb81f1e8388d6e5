use Rattle.controller_model.proofs.Laws.{◌∙◌, ap, sym, arith, Running, context_cycle, context_pointer, ring_having, changed_by, changed_by_all, placed, placed_on, adds_next, sees_placed}
use Rattle.controller_model.proofs.trials.try_added.Goals as goal

pub returns-then-is_held-clause-refused : goal.returns-then-is_held-clause-refused
unfolding changed_by changed_by_all placed_on
returns-then-is_held-clause-refused g c = λ h words d w v so f sees.
    simp (
      adds_next c.args.header.now.context_size (g.M.WordMemory.words c.args.memory.now) c.args.slot c.args.context c.args.index c.requires.last (sym c.adds.ensures ∙ c.if-not-adds.false),
      ap (λ a. ring_having c.args.header.now a) (sym c.context_of-pointer.ensures.pointer) ∙ sym c.ring_having.ensures ∙ c.in-Some.is,
      sym (c.is_held.ensures h words w v f sees) ∙ c.if-is_held.true,
    )

pub returns-clause-made : goal.returns-clause-made
unfolding changed_by changed_by_all placed_on
returns-clause-made g c = λ h words d w v so f sees.
    let memory = g.M.WordMemory.words c.args.memory.now in
    let size = c.args.header.now.context_size in
    let p = context_pointer size memory c.args.context c.args.index in
    let cycle = context_cycle size memory c.args.context c.args.index in
    record {
      world = placed v c.args.slot c.args.index c.in-Some.ring p cycle Running;
      sees = sees_placed w v c.args.rings.now c.from.result c.args.slot c.args.index c.in-Some.ring p cycle Running c.from.ensures (omega (arith, c.requires.many, c.requires.last)) sees;
      same = simp (
        adds_next size memory c.args.slot c.args.context c.args.index c.requires.last (sym c.adds.ensures ∙ c.if-not-adds.false),
        ap (λ a. ring_having c.args.header.now a) (sym c.context_of-pointer.ensures.pointer) ∙ sym c.ring_having.ensures ∙ c.in-Some.is,
        sym (c.is_held.ensures h words w v f sees) ∙ c.if-is_held.false,
      );
    }
