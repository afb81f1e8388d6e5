use Rattle.line_text.proofs.DigitLanes.{bytes_8}
use Rattle.line_text.proofs.lanes.bytes_of_8.Goals as goal

pub returns : goal.returns
returns c = bytes_8 c.args.digits c.values_of-values.result c.fits-digits.0 c.values_of-values.ensures
