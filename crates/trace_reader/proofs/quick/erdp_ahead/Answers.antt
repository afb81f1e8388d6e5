use Rattle.trace_reader.proofs.Laws.{refl, Erdp, Reg, found_ahead}
use Rattle.trace_reader.proofs.quick.erdp_ahead.Goals as goal

pub returns : goal.returns
returns c = found_ahead (λ said. Reg Erdp said) c.args.text.now c.in_ok-content_ahead.field-0.now 25 c.quick_erdp.result (λ said. (refl, λ version. refl)) c.in_ok-content_ahead.ensures c.quick_erdp.ensures
