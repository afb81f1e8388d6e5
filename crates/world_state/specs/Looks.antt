-- A look: the controller fetches the 16 bytes at the pointer of an active ring, and waits, crosses a Link or takes the block: xHCI 4.9.2, 4.9.3, 4.11.5.1
use Rattle.std.specs.Prelude.{ℕ, ◌+◌, ◌-◌, ◌%◌, ◌^◌, ◌==◌, ◌&&◌, ◌||◌, if◌then◌else◌, Bool, false, not, ◌∷◌, Option, Some, None, is_some}
use Rattle.guest_memory.specs.Memory.{put}
use Rattle.trb.specs.declared.block.Block.{Block}
use Rattle.trb.specs.Bits.{is_set}
use Rattle.trb.specs.Block.{aligned, block_at, word, cycle, kind, pointer}
use Rattle.trb.specs.Kind.{is_link}
use Rattle.segments.specs.Places.{is_inside}
use Rattle.commands.specs.declared.command.Command.{Command}
use Rattle.commands.specs.declared.command.Command.TheVariants.{AddressDevice}
use Rattle.commands.specs.Command.{command_of}
use Rattle.traces.specs.declared.header.Header.{Header}
use Rattle.traces.specs.Header.{command_id, shape_of}
use Rattle.world_state.specs.World.{World, Took}
use Rattle.world_state.specs.Takes.{declared_next}

module _ (h : Header) where
  -- the block is taken, with what is declared at its position now, and the pointer moves on by 16
  unfoldable pub taken_on : World → ℕ → Block → World
  taken_on w r b = record w {
    events = put w.events r (Took (w.pointer_of r) b (declared_next (shape_of h r) w r) ∷ w.events r);
    pointer_of = put w.pointer_of r ((w.pointer_of r + 16) % 2 ^ 64);
  }

  -- an Address Device that is taken: from now on the controller may write the slot's device context
  unfoldable pub may_scribble : Option Command → World → ℕ → Bool
  may_scribble (Some (AddressDevice s bsr c)) w t = w.scribbles t || t == s
  may_scribble _ w t = w.scribbles t

  unfoldable pub command_begun : World → ℕ → Block → World
  command_begun w a b = record w {
    under_way = Some (record { address = a; block = b; has_stopped = false });
    scribbles = may_scribble (command_of b) w;
  }

  unfoldable pub taken : World → ℕ → Block → World
  taken w r b = if r == command_id h then command_begun (taken_on w r b) (w.pointer_of r) b else taken_on w r b

  -- the pointer follows a Link, and the cycle state flips with Toggle Cycle
  unfoldable pub crossed : World → ℕ → Block → World
  crossed w r b = record w {
    pointer_of = put w.pointer_of r (aligned (pointer b));
    cycle_state = if is_set (word b 3) 1 then put w.cycle_state r (1 - w.cycle_state r) else w.cycle_state;
  }

  -- the look is remembered where it lies outside the ring's segments
  unfoldable pub seen_by_look : World → ℕ → World
  seen_by_look w r = record w { looked_outside = w.looked_outside || not (is_inside (shape_of h r) (w.pointer_of r)) }

-- of the rings that were declared some live: a look at another one is outside
module _ (h live : Header) where
  unfoldable pub looked_at : World → ℕ → Block → Option World
  looked_at w r b =
      if not (cycle b == w.cycle_state r) then Some (seen_by_look live w r)
      else if is_link (kind b) then Some (crossed h (seen_by_look live w r) r b)
      else if r == command_id h && is_some w.under_way then None
      else Some (taken h (seen_by_look live w r) r b)

  unfoldable pub looked : World → ℕ → Option World
  looked w r = if w.is_active r then looked_at w r (block_at w.memory (w.pointer_of r)) else None
