use Rattle.line_text.proofs.DigitLanes.{are_digits}
use Rattle.line_text.proofs.lanes.are_digits.Goals as goal

pub returns : goal.returns
returns g c = are_digits c.args.text g.row.N c.requires c.fits-text
