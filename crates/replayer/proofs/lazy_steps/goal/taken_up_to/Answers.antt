use Rattle.replayer.proofs.Words.{◌∙◌, ℕ, ap, Shape, Spot, RingSpot, behind_blocks, taken_up_to}
use Rattle.replayer.proofs.lazy_steps.goal.taken_up_to.Goals as goal

spot_on : ℕ → Spot → RingSpot
spot_on r s = record { ring = r; spot = s }

pub returns : goal.returns
unfolding taken_up_to spot_on
returns c =
    ap (λ (s : Spot). spot_on c.args.ring s) c.spot_taken.ensures
    ∙ ap (λ (s : Shape). spot_on c.args.ring (behind_blocks s c.args.blocks)) c.ring_shape-shape.ensures
