use Rattle.segments.proofs.UpperLaws.{rules, only_segment}
use Rattle.segments.proofs.index.SegmentIndex.segment_of.Goals as goal

pub returns-then-len-eq1 : goal.returns-then-len-eq1
returns-then-len-eq1 c = λ kind segments is within. only_segment kind segments c.args.self.now.firsts.items c.args.place is.firsts (search rules) within
