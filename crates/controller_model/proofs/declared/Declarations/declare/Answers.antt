use Rattle.controller_model.proofs.Laws.{◌∙◌, ap, length, take, ◌++◌, ◌-◌, ◌≡◌, take_all, entries, entries_push, declares_more}
use Rattle.controller_model.proofs.declared.Declarations.declare.Goals as goal

pub loop-i-preserved : goal.loop-i-preserved
loop-i-preserved c = c.in_ok-push.ensures.items ∙ entries_push _ _ c.args.blocks.now c.loop-i.i _ _ c.loop-i-test.true c.loop-i.invariant

pub returns : goal.returns
returns c = λ queue lengths old.
    let all : take c.loop-i.i c.args.blocks.now ≡ c.args.blocks.now = take_all c.loop-i.i c.args.blocks.now c.loop-i-test.false in
    declares_more c.args.self.now c.loop-i.self queue c.args.blocks.now lengths c.requires
    (c.loop-i.invariant ∙ ap (λ bs. c.args.self.now.blocks.items ++ entries 0 (length c.args.blocks.now - 1) bs) all) old
