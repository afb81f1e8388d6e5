use Rattle.line_text.proofs.DigitLanes.{values}
use Rattle.line_text.proofs.lanes.values_of.Goals as goal

pub returns : goal.returns
returns g c = values c.args.digits g.row.N c.fits-digits c.requires
