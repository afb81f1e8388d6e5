use Rattle.line_text.proofs.Words.{◌++◌, arith, length-append, pick_l_whole}
use Rattle.line_text.proofs.lanes.side_by_side.Goals as goal

pub returns : goal.returns
returns c = pick_l_whole 0 (c.args.first ++ c.args.second) 16 (omega (arith, length-append c.args.first c.args.second, c.fits-first.0, c.fits-second.0))
