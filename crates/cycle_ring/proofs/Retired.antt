-- What stands once blocks are retired: xHCI 4.9.2
use Rattle.cycle_ring.proofs.Words.{reaches_keeps, FollowsPassed, ℕ, IsShape, Progress}

pub follows_passed : (p : Progress) (count : ℕ) → IsShape p.shape → FollowsPassed p count (record p { retired = count })
follows_passed p count is =
    record {
      stands = λ v e past. record { declared = e.declared; given = e.given; crossed = e.crossed; restored = e.restored; passed = past };
      reached = λ memory v t keeps e may.
          (reaches_keeps p.shape is memory v keeps t may.reach may.within, record { declared = e.declared; given = e.given; crossed = e.crossed; restored = e.restored; passed = may.past });
    }
