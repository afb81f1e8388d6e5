-- What a row rests on where descriptors were withdrawn: what is free of a ring keeps its Cycle bit where the controller may have passed
-- it, and of a ring that is opened or moved nothing is free: xHCI 4.6.9, 4.6.10
use Rattle.std.specs.Prelude.{◌≡◌, ℕ, Bool, false, [], Some}
use Rattle.segments.specs.Givings.{flips_passed}
use Rattle.segments.specs.RingKeeps.{IsRestored}
use Rattle.commands.specs.declared.command.Command.{Command}
use Rattle.commands.specs.declared.command.Command.TheVariants.{SetTrDequeue}
use Rattle.traces.specs.declared.header.Header.{Header}
use Rattle.traces.specs.declared.row.Row.{Row}
use Rattle.traces.specs.declared.row.Row.TheVariants.{Write, Bell}
use Rattle.traces.specs.Header.{shape_of}
use Rattle.ring_knowledge.specs.Known.{Known}
use Rattle.ring_knowledge.specs.Writes.{command_given}
use Rattle.ownership_rules.specs.LenientRules.{lenient}
use Rattle.safety.specs.DriverRings.{IsDriverRing}

-- nothing is free of the ring of an endpoint
abbrev pub EndpointRestored : Known → ℕ → ℕ → Type 0
EndpointRestored k s i = (r : ℕ) → k.ring_of s i ≡ Some r → IsRestored (k.ring r)

-- nor of the one that a Set TR Dequeue moves
abbrev pub MovesRestored : Known → Command → Type 0
MovesRestored k c = (s i p : ℕ) (cycle : Bool) → c ≡ SetTrDequeue s i p cycle → EndpointRestored k s i

module _ (h : Header) where
  -- what is free and may be passed keeps its Cycle bit
  abbrev pub KeepsPassed : Known → ℕ → ℕ → Type 0
  KeepsPassed k a w = (r : ℕ) → IsDriverRing h r → flips_passed (shape_of h r) (k.ring r) a w ≡ false

  abbrev pub IsRestoring : Known → Row → Type 0
  IsRestoring k (Write a w) = KeepsPassed k a w × ((c : Command) → command_given h k a w ≡ Some c → MovesRestored k c)
  IsRestoring k (Bell s t) = EndpointRestored k s t
  IsRestoring k _ = Unit {0}

  -- the row breaks no rule, and leaves free only what may be
  abbrev pub MayCome : Known → Row → Type 0
  MayCome k row = (lenient h k row ≡ []) × IsRestoring k row
