use Rattle.std.specs.Prelude.{◌||◌, ◌*◌, ℕ, Bool}
use Rattle.std.proofs.Common.{take}
use Rattle.std.specs.List.{list_any}
use Rattle.segments.specs.Places.{overlap}
use Rattle.trace_record.specs.RangeWords.Holding.{HoldsSoiled}
use Rattle.trace_record.proofs.range_words.soiled.SoiledWords.soil_ring.Given as goal

-- the words of the segments so far are soiled
abbrev pub invariant-loop-segment : goal.invariant-loop-segment
invariant-loop-segment l =
    (soiled : ℕ → Bool) → HoldsSoiled soiled l.fn.self → HoldsSoiled (λ a. soiled a || list_any (λ s. overlap a 4 s.base (16 * s.count)) (take l.segment-index l.shape.segments)) l.self
