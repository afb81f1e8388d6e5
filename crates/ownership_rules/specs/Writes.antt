-- The rules of a write of memory (`w`)
use Rattle.std.specs.Prelude.{ℕ, ◌+◌, ◌==◌, ◌&&◌, ◌||◌, Bool, false, not, List, [], ◌∷◌, Option, Some, None}
use Rattle.std.specs.List.{list_any}
use Rattle.trb.specs.Bits.{is_set}
use Rattle.segments.specs.Places.{links}
use Rattle.segments.specs.Givings.{is_other_than_declared, is_not_declared, is_not_whole, leads_wrong, interrupts}
use Rattle.commands.specs.declared.command.Command.{Command}
use Rattle.traces.specs.declared.header.Header.{Header}
use Rattle.traces.specs.Header.{driver_rings, shape_of}
use Rattle.ring_knowledge.specs.Known.{Known}
use Rattle.ring_knowledge.specs.Rings.{Given, Position, Crossing, given_by}
use Rattle.ring_knowledge.specs.Writes.{command_given}
use Rattle.ownership_rules.specs.Refusal.{Test}
use Rattle.ownership_rules.specs.declared.refusal.Refusal.TheVariants.{WriteToOwned, NotAsSubmitted, NotDeclared, NotWhole, LinkFault, BadCommand, Busy, NotInProfile, BadMove}
use Rattle.ownership_rules.specs.OpenLeases.{covers, is_leased, is_the_controllers, open_ranges}
use Rattle.ownership_rules.specs.Commands as commands
use Rattle.ownership_rules.specs.Moves as moves

-- a position, of which this holds
unfoldable pub on_position : (ℕ → ℕ → Bool) → Given → Bool
on_position test (Position r p) = test r p
on_position test (Crossing r q) = false

-- a crossing, of which this holds
unfoldable pub on_crossing : (ℕ → ℕ → Bool) → Given → Bool
on_crossing test (Position r p) = false
on_crossing test (Crossing r q) = test r q

unfoldable pub holds_of : (Command → Bool) → Option Command → Bool
holds_of test None = false
holds_of test (Some c) = test c

-- a control word loses its Chain bit, and nothing else
abbrev pub clears_chain : ℕ → ℕ → Bool
clears_chain old new = is_set old 4 && old == new + 16

module _ (h : Header) where
  -- the write gives some position, or some crossing, of which this holds
  unfoldable pub some_given : Known → ℕ → ℕ → (ℕ → ℕ → Bool) → Bool
  some_given k a w test = list_any (on_position test) (given_by h k a w)

  unfoldable pub some_crossed : Known → ℕ → ℕ → (ℕ → ℕ → Bool) → Bool
  some_crossed k a w test = list_any (on_crossing test) (given_by h k a w)

  -- the write gives a command, of which this holds
  unfoldable pub some_command : Known → ℕ → ℕ → (Command → Bool) → Bool
  some_command k a w test = holds_of test (command_given h k a w)

  -- the word at this address is the control word of a Link of a command or transfer ring
  unfoldable pub is_link_control : ℕ → Bool
  is_link_control a = list_any (λ r. list_any (λ link. a == link + 12) (links r.shape)) (driver_rings h)

  -- the write clears the Chain bit of a Link, and leaves all else of it (xHCI 6.4.4.1); no range under lease has the word
  unfoldable pub unchains : Known → ℕ → ℕ → Bool
  unchains k a w = is_link_control a && clears_chain (k.memory a) w && not (list_any (covers h a 4) (open_ranges h k))

  -- the write changes a word under lease, otherwise than to unchain a Link, or is to one that only the controller may write
  unfoldable pub changes_owned : Known → ℕ → ℕ → Bool
  changes_owned k a w = is_the_controllers h k a || (is_leased h k a && not (k.memory a == w) && not (unchains k a w))

  unfoldable pub write_tests : Known → ℕ → ℕ → List Test
  write_tests k a w =
      (WriteToOwned, changes_owned k a w)
      ∷ (NotAsSubmitted, some_given k a w (λ r p. is_other_than_declared (shape_of h r) (k.ring r) k.memory a w p))
      ∷ (NotDeclared, some_given k a w (λ r p. is_not_declared (k.ring r) p))
      ∷ (NotWhole, some_given k a w (λ r p. is_not_whole (shape_of h r) (k.ring r) p))
      ∷ (LinkFault, some_crossed k a w (λ r q. leads_wrong (shape_of h r) k.memory a w q))
      ∷ (BadCommand, some_command k a w (commands.is_bad_command h k))
      ∷ (Busy, some_command k a w (commands.is_busy h k) || some_given k a w (λ r p. moves.is_being_moved h k r || moves.awaits_binding h k r) || some_crossed k a w (λ r q. moves.awaits_binding h k r))
      ∷ (NotInProfile, some_command k a w (commands.adds_streams h k) || some_crossed k a w (λ r q. interrupts (shape_of h r) k.memory a w q))
      ∷ (BadMove, some_command k a w (λ c. moves.is_bad_binding h k c || moves.is_bad_move h k c)) ∷ []
