-- What a clean history keeps of its rings
use Rattle.std.specs.Prelude.{◌≡◌, ◌<◌, ℕ, true}
use Rattle.segments.specs.ShapeValue.{Shape}
use Rattle.segments.specs.RingView.{RingView}
use Rattle.segments.specs.Ceiling.{ceiling}
use Rattle.segments.specs.RingKeeps.{RingKeeps}
use Rattle.traces.specs.declared.header.Header.{Header}
use Rattle.traces.specs.Header.{shape_of}
use Rattle.ring_knowledge.specs.Known.{Known}
use Rattle.safety.specs.DriverRings.{IsDriverRing}

-- nothing more is free than it was, and nothing more of it may be passed
abbrev pub PassesNoMore : Shape → RingView → RingView → Type 0
PassesNoMore shape v w = (p : ℕ) → w.free p ≡ true → (v.free p ≡ true) × (p < ceiling shape w → p < ceiling shape v)

-- what the rules keep of one ring that was v before
pub record RingKept (shape : Shape) (memory : ℕ → ℕ) (v w : RingView) : Type 0 where
  pub rules : RingKeeps shape memory w
  pub passes : PassesNoMore shape v w

module _ (h : Header) where
  -- of each of them what the rules keep of one ring
  abbrev pub RingsKeep : Known → Type 0
  RingsKeep k = (r : ℕ) → IsDriverRing h r → RingKeeps (shape_of h r) k.memory (k.ring r)

  -- k is what was known before
  abbrev pub RingsKept : Known → Known → Type 0
  RingsKept k l = (r : ℕ) → IsDriverRing h r → RingKept (shape_of h r) l.memory (k.ring r) (l.ring r)
