use Rattle.answers.proofs.Laws.{arith, subst, sym, ℕ, ◌≤◌, List, length, take, drop, length-drop, Appends, kept, more, rest_of}
use Rattle.answers.proofs.telling.write_some.Goals.{in-Ok, in-Err+else-ne}
use Rattle.answers.proofs.telling.write_some.Goals as goal

pub loop-preserved : goal.loop-preserved
loop-preserved g c =
    let bytes = c.args.bytes.now in
    let done = c.loop.done in
    elim c.match-write.branch [
      | in-Ok w ↦ (
        let short : w.in-Ok.n ≤ length (drop done bytes) = subst (λ (l : List ℕ). w.in-Ok.n ≤ length l) (rest_of bytes done) w.in-Ok.ensures.bound in
            omega (arith, short, length-drop done bytes, w.done-is, c.loop.invariant.0),
        let taken : Appends (g.W.Write.contents c.loop.writer) (g.W.Write.contents c.write.new.self) (take w.in-Ok.n (drop done bytes)) =
            subst (λ (l : List ℕ). Appends (g.W.Write.contents c.loop.writer) (g.W.Write.contents c.write.new.self) (take w.in-Ok.n l)) (rest_of bytes done) w.in-Ok.ensures.bytes in
            subst (λ (n : ℕ). Appends (g.W.Write.contents c.args.writer.now) (g.W.Write.contents c.write.new.self) (take n bytes)) (sym w.done-is)
            (more _ _ _ bytes done w.in-Ok.n c.loop.invariant.1 taken),
      )
      | in-Err+else-ne w ↦ (
        omega (arith, w.done-is),
        subst (λ (n : ℕ). Appends (g.W.Write.contents c.args.writer.now) (g.W.Write.contents c.write.new.self) (take n bytes)) (sym w.done-is)
            (kept _ _ _ (take done bytes) c.loop.invariant.1 w.in-Err.ensures.bytes),
      )
    ]
