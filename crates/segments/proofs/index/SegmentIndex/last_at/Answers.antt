use Rattle.segments.proofs.UpperLaws.{Start, arith, last_here}
use Rattle.segments.proofs.index.SegmentIndex.last_at.Goals.{else-next-starts-via-then-next-starts+else-starts-next, else-next-starts-via-else-next-starts}
use Rattle.segments.proofs.index.SegmentIndex.last_at.Goals as goal

pub returns : goal.returns
returns c = λ kind segments is.
    let d : Start = record { base = 0; segment = 0 } in
    last_here kind segments c.args.self.now is c.args.address c.args.at c.as_slice-starts.result.now d c.as_slice-starts.ensures.value c.if-at-starts.false c.if-address-starts.false
    (λ more. elim c.else-next-starts.branch [
      | else-next-starts-via-then-next-starts+else-starts-next w ↦ w.if-starts-next.false
      | else-next-starts-via-else-next-starts w ↦ absurd (omega (arith, more, w.if-next-starts.false))
    ])
