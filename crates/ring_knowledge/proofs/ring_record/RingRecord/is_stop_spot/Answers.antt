use Rattle.ring_knowledge.proofs.Laws.{ap, sym, ◌∙◌, is_stop_spot, stop_at_link, stop_at_count, stop_elsewhere, stop_reached}
use Rattle.ring_knowledge.proofs.ring_record.RingRecord.is_stop_spot.Goals as goal

pub returns-then-position-self-clause-stop : goal.returns-then-position-self-clause-stop
returns-then-position-self-clause-stop c = λ v known.
    c.is_way_given.ensures v known.marks ∙ stop_at_count c.args.shape.now v c.args.self.now known c.in-Data.position c.if-position-self.true
    ∙ ap (λ t. is_stop_spot c.args.shape.now v t) (sym c.in-Data.is)

pub returns-then-position-self-clause-reached : goal.returns-then-position-self-clause-reached
returns-then-position-self-clause-reached c = λ v known. returns-then-position-self-clause-stop c v known ∙ stop_reached c.args.shape.now v c.args.self.now known c.args.spot

pub returns-else-position-self-clause-stop : goal.returns-else-position-self-clause-stop
returns-else-position-self-clause-stop c = λ v known.
    stop_elsewhere c.args.shape.now v c.args.self.now known c.in-Data.position c.if-position-self.false
    ∙ ap (λ t. is_stop_spot c.args.shape.now v t) (sym c.in-Data.is)

pub returns-else-position-self-clause-reached : goal.returns-else-position-self-clause-reached
returns-else-position-self-clause-reached c = λ v known. returns-else-position-self-clause-stop c v known ∙ stop_reached c.args.shape.now v c.args.self.now known c.args.spot

pub returns-in-Link-clause-stop : goal.returns-in-Link-clause-stop
returns-in-Link-clause-stop c = λ v known.
    stop_at_link c.args.shape.now v c.args.self.now known c.in-Link.crossing
    ∙ ap (λ t. is_stop_spot c.args.shape.now v t) (sym c.in-Link.is)

pub returns-in-Link-clause-reached : goal.returns-in-Link-clause-reached
returns-in-Link-clause-reached c = λ v known. returns-in-Link-clause-stop c v known ∙ stop_reached c.args.shape.now v c.args.self.now known c.args.spot
