use Rattle.trace_reader.proofs.Laws.{arith, refl, [], ◌∷◌, Sub, found_ahead}
use Rattle.trace_reader.proofs.quick.declaration_ahead.Goals as goal
use Rattle.trace_reader.proofs.Limits.{few_in_each}

pub returns : goal.returns
returns c =
    found_ahead (λ said. Sub said.0 (said.1 ∷ [])) c.args.text.now c.in_ok-content_ahead.field-0.now 42 c.quick_declaration.result (λ said. (refl, λ version. few_in_each version 1 (omega arith))) c.in_ok-content_ahead.ensures c.quick_declaration.ensures
