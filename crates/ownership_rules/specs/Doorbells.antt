-- The rule of a doorbell (`db`): xHCI 4.7, 4.8.3, 5.6
use Rattle.std.specs.Prelude.{ℕ, ◌==◌, ◌||◌, if◌then◌else◌, Bool, not, List, [], ◌∷◌, nat_lt}
use Rattle.std.specs.List.{list_any}
use Rattle.commands.specs.declared.command.Command.{Command}
use Rattle.commands.specs.Changes.{changes, touches}
use Rattle.commands.specs.States.{is_running, is_stopped}
use Rattle.traces.specs.declared.header.Header.{Header}
use Rattle.traces.specs.Halts.{is_asked}
use Rattle.ring_knowledge.specs.Known.{Known}
use Rattle.ring_knowledge.specs.Rings.{unfinished}
use Rattle.ownership_rules.specs.Refusal.{Test}
use Rattle.ownership_rules.specs.declared.refusal.Refusal.TheVariants.{BadDoorbell}

module _ (h : Header) where
  -- the success of a command may change the endpoint of slot s at index i
  unfoldable pub touches_endpoint : Known → ℕ → ℕ → Command → Bool
  touches_endpoint k s i c = list_any (touches s i) (changes h.context_size k.memory 0 c)

  unfoldable pub is_touched : Known → ℕ → ℕ → Bool
  is_touched k s i = list_any (touches_endpoint k s i) (unfinished h k)

  -- the doorbell of an endpoint that may not be rung now
  unfoldable pub is_bad_bell : Known → ℕ → ℕ → Bool
  is_bad_bell k s i =
      i == 0 || nat_lt 31 i || not (is_running (k.endpoint_state s i) || is_stopped (k.endpoint_state s i)) || k.must_move s i || is_touched k s i

  -- before the start, while the controller halts, or where it may not be rung
  unfoldable pub is_bad_doorbell : Known → ℕ → ℕ → Bool
  is_bad_doorbell k s t = not k.started || is_asked k.halt || (if s == 0 then not (t == 0) else is_bad_bell k s t)

  unfoldable pub doorbell_tests : Known → ℕ → ℕ → List Test
  doorbell_tests k s t = (BadDoorbell, is_bad_doorbell k s t) ∷ []
