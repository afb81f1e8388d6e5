-- What is harm, and when a world is safe
use Rattle.std.specs.Prelude.{◌≡◌, ℕ, ◌+◌, ◌-◌, ◌*◌, ◌/◌, ◌==◌, ◌&&◌, ◌||◌, Bool, false, not, List, [], ◌∷◌, nat_lt, nat_le, Option, Some, None, option_and_then, find, option_map}
use Rattle.std.specs.List.{list_any, range_with_len}
use Rattle.trb.specs.Block.{block_at, cycle}
use Rattle.segments.specs.ShapeValue.{Shape}
use Rattle.segments.specs.Places.{address_of}
use Rattle.commands.specs.Command.{command_of, named_context}
use Rattle.contexts.specs.Contexts.{input_context_bytes}
use Rattle.traces.specs.declared.header.Header.{Header}
use Rattle.traces.specs.Header.{event_size, shape_of, some_ring}
use Rattle.world_state.specs.declared.harm.Harm.{Harm}
use Rattle.world_state.specs.declared.harm.Harm.TheVariants.{TakenOutOfOrder, TakenOtherWords, WaitsInsideDescriptor, LooksOutside, PostsOverUnread, InputContextChanged}
use Rattle.segments.specs.Descriptors.{DeclaredBlock}
use Rattle.world_state.specs.World.{World, RingEvent, Took, Placed, UnderWay}
use Rattle.world_state.specs.Takes.{next_take, was_placed, is_as_declared}

-- a block that was declared, and begins a descriptor where it has to
unfoldable pub is_right_place : Bool → Option DeclaredBlock → Bool
is_right_place is_first None = false
is_right_place is_first (Some d) = not is_first || d.begins

-- a take's position wasn't declared when it was taken, lies elsewhere, or, after a binding or move, begins no descriptor
unfoldable pub is_out_of_order : Shape → List RingEvent → Bool
is_out_of_order shape [] = false
is_out_of_order shape (Placed a ∷ older) = is_out_of_order shape older
is_out_of_order shape (Took a b d ∷ older) =
    not (is_right_place (was_placed older) d) || not (address_of shape (next_take shape older) == a) || is_out_of_order shape older

-- a take's words aren't those declared at its position
unfoldable pub has_other_words : Shape → List RingEvent → Bool
has_other_words shape [] = false
has_other_words shape (Placed a ∷ older) = has_other_words shape older
has_other_words shape (Took a b d ∷ older) = not (is_as_declared shape d (next_take shape older) b) || has_other_words shape older

unfoldable pub is_end : Option DeclaredBlock → Bool
is_end None = false
is_end (Some d) = d.ends

-- the last take isn't the last block of its descriptor, and the pointer wasn't set since
unfoldable pub is_inside_descriptor : List RingEvent → Bool
is_inside_descriptor [] = false
is_inside_descriptor (Placed a ∷ older) = false
is_inside_descriptor (Took a b d ∷ older) = not (is_end d)

-- the ring is active, and the block at its pointer shows the other cycle
unfoldable pub waits : World → ℕ → Bool
waits w r = w.is_active r && not (cycle (block_at w.memory (w.pointer_of r)) == w.cycle_state r)

-- the word at this address was changed since a step
unfoldable pub is_changed_since : World → ℕ → ℕ → Bool
is_changed_since w step a = nat_lt step (w.changed a)

module _ (h : Header) where
  unfoldable pub is_context_changed : World → ℕ → Option ℕ → Bool
  is_context_changed w step None = false
  is_context_changed w step (Some c) = list_any (λ i. is_changed_since w step (c + 4 * i)) (range_with_len 0 (input_context_bytes h.context_size / 4))

  -- the input context of the command under way was changed since its control word was last written
  unfoldable pub has_changed_context : World → Option UnderWay → Bool
  has_changed_context w None = false
  has_changed_context w (Some u) = is_context_changed w (w.written (u.address + 12)) (option_and_then named_context (command_of u.block))

  -- the harms in the order of their numbers
  unfoldable pub harms : World → List (Harm × Bool)
  harms w =
      (TakenOutOfOrder, some_ring h (λ r. is_out_of_order (shape_of h r) (w.events r)))
      ∷ (TakenOtherWords, some_ring h (λ r. has_other_words (shape_of h r) (w.events r)))
      ∷ (WaitsInsideDescriptor, some_ring h (λ r. waits w r && is_inside_descriptor (w.events r)))
      ∷ (LooksOutside, w.looked_outside)
      ∷ (PostsOverUnread, w.posted_nowhere || (nat_lt 0 (event_size h) && nat_le (event_size h) (w.posted - w.reads)))
      ∷ (InputContextChanged, has_changed_context w w.under_way) ∷ []

  -- the least harm, if there is one
  unfoldable pub harm_of : World → Option Harm
  harm_of w = option_map (λ t. t.0) (find (λ t. t.1) (harms w))

  abbrev pub IsSafe : World → Type 0
  IsSafe w = harm_of w ≡ None
