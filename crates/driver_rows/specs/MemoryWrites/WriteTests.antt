-- The rules of a write to a word of one ring that isn't under lease
use Rattle.std.specs.Prelude.{◌≡◌, ℕ, ◌||◌, Bool, true, List, [], ◌∷◌, ◌++◌, Option, Some, None}
use Rattle.std.specs.List.{list_any}
use Rattle.segments.specs.ShapeValue.{Shape}
use Rattle.segments.specs.Shape.{IsShape}
use Rattle.segments.specs.RingView.{RingView}
use Rattle.segments.specs.Givings.{is_other_than_declared, is_not_declared, is_not_whole, leads_wrong, interrupts}
use Rattle.commands.specs.declared.command.Command.{Command}
use Rattle.traces.specs.declared.ring.Ring.{Ring}
use Rattle.traces.specs.declared.header.Header.{Header}
use Rattle.traces.specs.Header.{is_driver_kind}
use Rattle.ring_knowledge.specs.Known.{Known}
use Rattle.ring_knowledge.specs.declared.ring_record.RingGiving.{RingGiving}
use Rattle.ring_knowledge.specs.declared.ring_record.RingGiving.TheVariants.{Position, Crossing}
use Rattle.ownership_rules.specs.Commands as commands
use Rattle.ownership_rules.specs.Moves as moves
use Rattle.ownership_rules.specs.ByVersion.{has_busy_slot, has_left_out_endpoint, places_badly}
use Rattle.ownership_rules.specs.Refusal.{Test}
use Rattle.ownership_rules.specs.declared.refusal.Refusal.TheVariants.{NotAsSubmitted, NotDeclared, NotWhole, LinkFault, BadCommand, Busy, NotInProfile, BadMove}

-- the allowed shape of a command or transfer ring
pub record IsDriver (shape : Shape) : Type 0 where
  pub driver : is_driver_kind shape.kind ≡ true
  pub allowed : IsShape shape

-- a command is given by a position alone
abbrev pub GivesOnPosition : Option RingGiving → Option Command → Type 0
GivesOnPosition (Some (Position p)) command = Unit {0}
GivesOnPosition (Some (Crossing q)) command = command ≡ None
GivesOnPosition None command = command ≡ None

-- of a write that gives these positions
abbrev pub position_tests : Shape → RingView → (ℕ → ℕ) → ℕ → ℕ → List ℕ → List Test
position_tests shape v memory a w given =
    (NotAsSubmitted, list_any (is_other_than_declared shape v memory a w) given)
    ∷ (NotDeclared, list_any (is_not_declared v) given)
    ∷ (NotWhole, list_any (is_not_whole shape v) given) ∷ []

-- of a write that gives these crossings, of a ring that awaits its binding or doesn't
abbrev pub crossing_tests : Shape → (ℕ → ℕ) → ℕ → ℕ → Bool → List ℕ → List Test
crossing_tests shape memory a w awaits crossed =
    (LinkFault, list_any (leads_wrong shape memory a w) crossed)
    ∷ (Busy, list_any (λ q. awaits) crossed)
    ∷ (NotInProfile, list_any (interrupts shape memory a w) crossed) ∷ []

-- of a write that gives a command
abbrev pub command_tests : Header → Known → Command → List Test
command_tests h k c =
    (BadCommand, commands.is_bad_command h k c)
    ∷ (Busy, has_busy_slot h k c)
    ∷ (NotInProfile, has_left_out_endpoint h k c)
    ∷ (BadMove, places_badly h k c) ∷ []

-- of a write that gives a position of the ring with this ID, and by it this command
abbrev pub place_tests : Header → Known → ℕ → Option Command → List Test
place_tests h k r (Some c) = command_tests h k c
place_tests h k r None = (Busy, moves.is_being_moved h k r || moves.awaits_binding h k r) ∷ []

-- of a write that gives this of a ring, and this command
abbrev pub given_tests : Header → Known → Ring → (ℕ → ℕ) → ℕ → ℕ → Option RingGiving → Option Command → List Test
given_tests h k ring memory a w None command = []
given_tests h k ring memory a w (Some (Crossing q)) command = crossing_tests ring.shape memory a w (moves.awaits_binding h k ring.id) (q ∷ [])
given_tests h k ring memory a w (Some (Position p)) command =
    position_tests ring.shape (k.ring ring.id) memory a w (p ∷ []) ++ place_tests h k ring.id command
