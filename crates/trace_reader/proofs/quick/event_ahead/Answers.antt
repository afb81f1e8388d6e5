use Rattle.trace_reader.proofs.Laws.{refl, Read, found_ahead}
use Rattle.trace_reader.proofs.quick.event_ahead.Goals as goal

pub returns : goal.returns
returns c = found_ahead (λ said. Read said) c.args.text.now c.in_ok-content_ahead.field-0.now 38 c.quick_event.result (λ said. (refl, λ version. refl)) c.in_ok-content_ahead.ensures c.quick_event.ensures
