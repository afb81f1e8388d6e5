-- What follows of a driver that has kept the rules, and what the checks of rows rest on
use Rattle.std.specs.Prelude.{◌≡◌, ℕ, ◌+◌, ◌%◌, ◌^◌, ◌≤◌, Some, true, false, is_some}
use Rattle.std.specs.List.{All}
use Rattle.segments.specs.RingView.{declared}
use Rattle.segments.specs.Ceiling.{given_count}
use Rattle.contexts.specs.declared.size.ContextSize.{ContextSize}
use Rattle.contexts.specs.Contexts.{input_context_bytes}
use Rattle.commands.specs.declared.command.Command.{Command}
use Rattle.commands.specs.Command.{named_context}
use Rattle.traces.specs.declared.header.Header.{Header}
use Rattle.traces.specs.declared.ring.Ring.{Ring}
use Rattle.traces.specs.declared.register.Register.TheVariants.{Erstsz}
use Rattle.traces.specs.Header.{command_id, command_ring, event_ring, is_transfer_kind, ring_with, shape_of}
use Rattle.ring_knowledge.specs.Known.{Known}
use Rattle.ring_knowledge.specs.Rings.{unfinished}
use Rattle.ownership_rules.specs.Registers.{is_used}

-- the input context that a command names ends within the address space, and lies on words
abbrev pub FitsMemory : ContextSize → Command → Type 0
FitsMemory size c = (a : ℕ) → named_context c ≡ Some a → (a % 4 ≡ 0) × (a + input_context_bytes size ≤ 2 ^ 64)

-- that of each unfinished command does
abbrev pub ContextsFit : Header → Known → Type 0
ContextsFit h k = All (FitsMemory h.context_size) (unfinished h k)

-- the ring of each endpoint is a transfer ring of the header
abbrev pub EndpointRings : Header → Known → Type 0
EndpointRings h k = (s i r : ℕ) → k.ring_of s i ≡ Some r → (ring : Ring) × (ring_with h r ≡ Some ring) × (is_transfer_kind ring.shape.kind ≡ true)

-- a command ring that was started is there
abbrev pub StartedIsThere : Header → Known → Type 0
StartedIsThere h k = is_used h k ≡ true → is_some (command_ring h) ≡ true

-- what was given of the command ring was declared
abbrev pub CommandsDeclared : Header → Known → Type 0
CommandsDeclared h k = given_count (shape_of h (command_id h)) (k.ring (command_id h)) ≤ declared (k.ring (command_id h))

-- what the rules of registers and events keep of the set-up
pub record IsSetUp (h : Header) (k : Known) : Type 0 where
  -- no event is read before the start
  pub unread : k.started ≡ false → k.reads ≡ 0
  -- the start comes after the write of ERSTSZ, and that only where there is an event ring
  pub sized : k.started ≡ true → is_some (k.register Erstsz) ≡ true
  pub has_events : is_some (k.register Erstsz) ≡ true → is_some (event_ring h) ≡ true
  pub has_commands : StartedIsThere h k
  pub declared : CommandsDeclared h k
