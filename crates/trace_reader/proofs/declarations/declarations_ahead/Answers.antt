use Rattle.trace_reader.proofs.Laws.{refl, Sub, begins_with}
use Rattle.trace_reader.proofs.declarations.declarations_ahead.Goals as goal
use Rattle.trace_reader.proofs.Limits.{few_in_each}

pub returns : goal.returns
returns c =
    begins_with c.args.text.now c.in_ok-content.content.now _ (Sub c.in_ok-ring.ring c.in_ok-ring.blocks) c.in_ok-ring.ensures.says (refl, λ version. few_in_each version _ c.in_ok-ring.ensures.within) refl
    c.in_ok-content.ensures
