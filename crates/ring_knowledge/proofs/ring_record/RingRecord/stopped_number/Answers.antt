use Rattle.ring_knowledge.proofs.Laws.{ap, sym, ◌∙◌, stopped_number, stopped_before, stopped_behind, stopped_at_link}
use Rattle.ring_knowledge.proofs.ring_record.RingRecord.stopped_number.Goals as goal

pub returns-then-position-self : goal.returns-then-position-self
returns-then-position-self c = λ shape v known.
    stopped_before shape v c.args.self.now known c.in-Data.position c.if-position-self.true ∙ ap (λ t. stopped_number shape v t) (sym c.in-Data.is)

pub returns-else-position-self : goal.returns-else-position-self
returns-else-position-self c = λ shape v known.
    stopped_behind shape v c.args.self.now known c.in-Data.position c.if-position-self.false ∙ ap (λ t. stopped_number shape v t) (sym c.in-Data.is)

pub returns-in-Link : goal.returns-in-Link
returns-in-Link c = λ shape v known. stopped_at_link shape v c.in-Link.crossing ∙ ap (λ t. stopped_number shape v t) (sym c.in-Link.is)
