use Rattle.event_rows.proofs.TransferEvents.EventCounts.{follows_counted}
use Rattle.event_rows.proofs.transfers.events.count_read.Goals as goal

pub returns-clause-followed : goal.returns-clause-followed
returns-clause-followed c = λ h k m f cycled. follows_counted h k c.args.t.now m f c.count.new.events (c.count.ensures.counted h k f.events cycled)
