-- Steps, and the worlds that runs lead to
use Rattle.std.specs.Prelude.{ℕ, ◌+◌, ◌&&◌, ◌||◌, if◌then◌else◌, Bool, true, not, Option, Some, None, is_none, option_map}
use Rattle.std.specs.List.{list_any, range_with_len}
use Rattle.segments.specs.Places.{is_in}
use Rattle.contexts.specs.Contexts.{device_context, device_context_bytes}
use Rattle.traces.specs.declared.header.Header.{Header}
use Rattle.traces.specs.declared.step.Step.{Step}
use Rattle.traces.specs.declared.step.Step.TheVariants.{NextRow, Look, Report, Finish, Other, Scribble, Halt}
use Rattle.traces.specs.declared.register.Register.TheVariants.{Dcbaap}
use Rattle.traces.specs.Header.{event_ring}
use Rattle.traces.specs.Register.{register_or_zero}
use Rattle.traces.specs.Versions.{has_runs}
use Rattle.world_state.specs.World.{World, stored}
use Rattle.world_state.specs.Looks as looks
use Rattle.world_state.specs.Posts as posts
use Rattle.world_state.specs.Finishes as finishes

module _ (h : Header) where
  -- the word belongs to the device context that DCBAA names for a slot, and the controller may write that
  unfoldable pub is_scribbled : World → ℕ → ℕ → Bool
  is_scribbled w a s =
      w.scribbles s && is_in a (device_context w.memory (register_or_zero w.register Dcbaap) s) (device_context_bytes h.context_size)

  unfoldable pub scribbled : World → ℕ → ℕ → Option World
  scribbled w a x = if list_any (is_scribbled w a) (range_with_len 0 256) then Some (stored w a x) else None

  unfoldable pub counted : World → World
  counted w = record w { steps = w.steps + 1 }

  -- after the stop of a controller that runs but once only rows are possible
  unfoldable pub while_running : World → Option World → Option World
  while_running w v = if w.stopped then None else v

  -- where R/S is 0 the controller halts at any moment
  unfoldable pub halts : World → Option World
  halts w = if w.halting && not w.halted then Some (record w { halted = true }) else None

  -- and then looks at nothing and posts nothing; it may still save what it keeps in device contexts (xHCI 4.23.2)
  unfoldable pub until_halted : World → Option World → Option World
  until_halted w v = if w.halted then None else while_running w v

  -- an event is posted while no event ring is there, where rings of that kind come and go
  unfoldable pub noting_post : World → World
  noting_post w = record w { posted_nowhere = w.posted_nowhere || (is_none (event_ring h) && has_runs h.version) }

-- beside the rings that were declared and those of them that live
module _ (h live : Header) where
  -- what a step of the controller makes of the world; the next row is none
  unfoldable pub made : World → Step → Option World
  made w NextRow = None
  made w (Look r) = until_halted h w (looks.looked h live w r)
  made w (Report b) = until_halted h w (option_map (noting_post live) (posts.reported h w b))
  made w (Finish b) = until_halted h w (option_map (noting_post live) (finishes.finished h live w b))
  made w (Other b) = until_halted h w (option_map (noting_post live) (posts.other_posted h w b))
  made w (Scribble a x) = while_running h w (scribbled h w a x)
  made w Halt = while_running h w (halts h w)
