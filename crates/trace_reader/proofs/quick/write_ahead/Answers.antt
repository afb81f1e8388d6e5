use Rattle.trace_reader.proofs.Laws.{refl, Write, found_ahead}
use Rattle.trace_reader.proofs.quick.write_ahead.Goals as goal

pub returns : goal.returns
returns c =
    found_ahead (λ said. Write said.0 said.1) c.args.text.now c.in_ok-content_ahead.field-0.now 27 c.quick_write.result (λ said. (refl, λ version. refl)) c.in_ok-content_ahead.ensures c.quick_write.ensures
