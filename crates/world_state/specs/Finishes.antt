-- A finish: the controller posts the completion of the command under way, with its effect: xHCI 4.6, 6.4.2.2
use Rattle.std.specs.Prelude.{ℕ, ◌+◌, ◌^◌, ◌==◌, ◌&&◌, ◌||◌, if◌then◌else◌, Bool, false, not, nat_lt, Option, Some, None, option_map}
use Rattle.trb.specs.declared.block.Block.{Block}
use Rattle.trb.specs.Block.{kind, pointer, code, slot}
use Rattle.trb.specs.Kind.{is_command_completion}
use Rattle.commands.specs.declared.command.Command.{Command}
use Rattle.commands.specs.Command.{command_of, may_answer_slot, named_context}
use Rattle.commands.specs.States.{can_succeed}
use Rattle.contexts.specs.Contexts.{input_context_bytes}
use Rattle.traces.specs.declared.header.Header.{Header}
use Rattle.traces.specs.declared.register.Register.TheVariants.{Config}
use Rattle.traces.specs.Register.{register_or_zero}
use Rattle.world_state.specs.World.{World, UnderWay}
use Rattle.world_state.specs.Posts as posts
use Rattle.world_state.specs.Bindings as bindings

module _ (h : Header) where
  -- its input context ends above 2^64
  unfoldable pub passes_end : Option ℕ → Bool
  passes_end None = false
  passes_end (Some c) = nat_lt (2 ^ 64) (c + input_context_bytes h.context_size)

  -- a block that is no command of the profile never succeeds
  unfoldable pub succeeded : World → ℕ → Option Command → Option World
  succeeded w n None = None
  succeeded w n (Some c) =
      if passes_end (named_context c) || not (can_succeed w.slot_state w.endpoint_state (register_or_zero w.register Config) n c) then None
      else bindings.effect h w n c

  unfoldable pub ended : World → Block → World
  ended w b = record (posts.posted h w b) { under_way = None }

-- of the rings that were declared some live: those alone are named by pointers
module _ (h live : Header) where
  -- with code 1 the effect; after a Stopped event no other code; other codes have no effect
  unfoldable pub ended_with : World → Block → UnderWay → Option World
  ended_with w b u =
      if code b == 1 then option_map (λ v. ended h v b) (succeeded live w (slot b) (command_of u.block))
      else if u.has_stopped then None else Some (ended h w b)

  unfoldable pub finished_as : World → Block → Option UnderWay → Option World
  finished_as w b None = None
  finished_as w b (Some u) =
      if pointer b == u.address && may_answer_slot (command_of u.block) (slot b) then ended_with w b u else None

  unfoldable pub finished : World → Block → Option World
  finished w b = if posts.can_post h w b && is_command_completion (kind b) && not (code b == 0) then finished_as w b w.under_way else None
