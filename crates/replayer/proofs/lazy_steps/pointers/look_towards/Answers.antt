use Rattle.replayer.proofs.MiddleLaws.{◌++◌, ◌∙◌, List, map, ap, Shape, Step, Look, looks_to, spots_before, shape_behind, spot_in, on_more}
use Rattle.replayer.proofs.lazy_steps.pointers.look_towards.Goals as goal

pub returns : goal.returns
unfolding looks_to
returns c =
    let t = c.args.pointers.now in
    let ring = c.args.goal.ring in
    let made : List Step = c.args.steps.now.items in
    on_more c.push_looks.result
    (λ pushed.
    pushed
    ∙ ap (λ n. made ++ map (λ u. Look ring) (spots_before (shape_behind c.ring_shape-shape.result) (spot_in t n) c.args.goal.spot)) c.from.ensures
    ∙ ap (λ (s : Shape). made ++ map (λ u. Look ring) (spots_before s (spot_in t ring) c.args.goal.spot)) c.ring_shape-shape.ensures)
    c.push_looks.ensures
