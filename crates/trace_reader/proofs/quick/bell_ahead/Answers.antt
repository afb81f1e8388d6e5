use Rattle.trace_reader.proofs.Laws.{refl, Bell, found_ahead}
use Rattle.trace_reader.proofs.quick.bell_ahead.Goals as goal

pub returns : goal.returns
returns c = found_ahead (λ said. Bell said.0 said.1) c.args.text.now c.in_ok-content_ahead.field-0.now 8 c.quick_bell.result (λ said. (refl, λ version. refl)) c.in_ok-content_ahead.ensures c.quick_bell.ensures
