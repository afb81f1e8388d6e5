-- What completions do to one ring, and what that rests on: xHCI 4.6.5, 4.6.9, 4.6.10
use Rattle.std.specs.Prelude.{◌≡◌, ℕ, ◌==◌, if◌then◌else◌, Bool, true, List, Option, Some, None, position}
use Rattle.segments.specs.declared.spot.Spot.{Spot}
use Rattle.segments.specs.ShapeValue.{Shape}
use Rattle.segments.specs.Spots.{number}
use Rattle.segments.specs.RingView.{RingView, Reaches, Holds, changed}
use Rattle.segments.specs.Moves.{is_reached, target}
use Rattle.commands.specs.States.{is_off}
use Rattle.traces.specs.declared.ring.Ring.{Ring}
use Rattle.traces.specs.declared.header.Header.{Header}
use Rattle.traces.specs.Header.{shape_of}
use Rattle.ring_knowledge.specs.Known.{Known}

-- the number of the ring with this ID
abbrev pub number_in : List Ring → Option ℕ → Option ℕ
number_in rings None = None
number_in rings (Some id) = position (λ ring. ring.id == id) rings

-- the pointer is set to a spot, if there is one
abbrev pub set_on : Shape → RingView → Option Spot → RingView
set_on shape v None = v
set_on shape v (Some t) = changed shape (changed shape v (Reaches t)) (Holds (number t))

-- before the spot that a pointer and a cycle state name, all is given
abbrev pub ReachesTarget : Shape → RingView → ℕ → Bool → Type 0
ReachesTarget shape v p cycle = (t : Spot) → target shape v p cycle ≡ Some t → is_reached shape v t ≡ true

-- the ring that is moved where an endpoint is placed: of one that is off the ring that has the block at the pointer, of any other its own
abbrev pub ring_placed : Known → ℕ → ℕ → Option ℕ → Option ℕ
ring_placed k s i having = if is_off (k.endpoint_state s i) then having else k.ring_of s i

-- before the spot to which the ring is moved all is given
abbrev pub MayMoveTo : Header → Known → Option ℕ → ℕ → Bool → Type 0
MayMoveTo h k o p cycle = (r : ℕ) → o ≡ Some r → ReachesTarget (shape_of h r) (k.ring r) p cycle
