use Rattle.controller_model.proofs.Words.{Some, ◌+◌, inactive, stopped_with, with_reported}
use Rattle.controller_model.proofs.reports.stop_after.Goals as goal

pub returns-clause-change : goal.returns-clause-change
unfolding stopped_with with_reported inactive
returns-clause-change c = λ h words w few f.
    let u = with_reported h w c.args.ring (w.reported c.args.ring + c.args.count) in
    c.note_stopped.ensures.change h words (inactive u (Some c.args.ring))
    (c.deactivate.ensures.change h words u (c.report_takes.ensures.change h words w few f))
