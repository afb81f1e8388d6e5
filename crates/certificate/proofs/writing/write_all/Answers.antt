use Rattle.certificate.proofs.Laws.{◌∙◌, ◌≤◌, ℕ, List, arith, subst, length, take, drop, length-drop, Appends, more, rest_of}
use Rattle.certificate.proofs.writing.write_all.Goals as goal

pub loop-taken-preserved : goal.loop-taken-preserved
loop-taken-preserved g c =
    let bytes = c.args.bytes.now in
    let done = c.loop-taken.taken in
    let short : c.in-Ok.more ≤ length (drop done bytes) = subst (λ (l : List ℕ). c.in-Ok.more ≤ length l) (rest_of bytes done) c.in-Ok.ensures.bound in
    let taken : Appends (g.S.Sink.taken c.loop-taken.sink) (g.S.Sink.taken c.write.new.self) (take c.in-Ok.more (drop done bytes)) =
    subst (λ (l : List ℕ). Appends (g.S.Sink.taken c.loop-taken.sink) (g.S.Sink.taken c.write.new.self) (take c.in-Ok.more l)) (rest_of bytes done) c.in-Ok.ensures.taken in (
      omega (arith, short, length-drop done bytes, c.loop-taken.invariant.0),
      more _ _ _ bytes done c.in-Ok.more c.loop-taken.invariant.1 taken,
      c.in-Ok.ensures.counted ∙ c.loop-taken.invariant.2,
    )
