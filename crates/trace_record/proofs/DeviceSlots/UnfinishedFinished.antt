-- The unfinished commands behind a completion: the first is finished
use Rattle.trace_record.proofs.BaseWords.{rules, ◌≡◌, ◌+◌, ◌<◌, ◌∙◌, ◌∷◌, ℕ, suc, zero, Bool, true, false, arith, ap, refl, filter, option_and_then, slice_get, filter_map, cons_option, range_with_len, Block, Shape, place_count, after, RingView, Reaches, changed, floor_number, due_positions, number-after, command_of, Header, shape_of, command_id, Known, next_command, command_at, unfinished_positions, unfinished, finished, completed}
use Rattle.trace_record.proofs.DeviceSlots.UnfinishedSame.{ring_here}

-- ---- numbers of a range, and those of the range one further

-- behind the end nothing passes
pub filter_longer : (test : ℕ → Bool) (a n : ℕ) → test (a + n) ≡ false → filter test (range_with_len a (suc n)) ≡ filter test (range_with_len a n)
filter_longer test a zero none = let here : test a ≡ false = ap test (omega arith) ∙ none in rw here refl
filter_longer test a (suc n) none = search (rules, filter, range_with_len, filter_longer test (a + 1) n (ap test (omega arith) ∙ none))

-- the first passes
pub filter_first : (test : ℕ → Bool) (a n : ℕ) → test a ≡ true → test (a + n) ≡ false → filter test (range_with_len a n) ≡ a ∷ filter test (range_with_len (a + 1) n)
filter_first test a n h1 h2 = search (rules, filter, range_with_len, filter_longer)

module _ (h : Header) (k : Known) (b : Block) where
  abbrev shape : Shape
  shape = shape_of h (command_id h)

  abbrev view : RingView
  view = k.ring (command_id h)

  -- what happens to other rings, slots and endpoints first
  abbrev done : Known
  done = finished h k b (command_at h k (next_command h k))

  module _ (apart : done.ring (command_id h) ≡ view) where
    completed_view : (completed h k b).ring (command_id h) ≡ changed shape view (Reaches (after shape (next_command h k)))
    unfolding completed
    completed_view = ring_here h done (command_id h) (Reaches (after shape (next_command h k))) ∙ ap (λ v. changed shape v (Reaches (after shape (next_command h k)))) apart

    floor_after : floor_number ((completed h k b).ring (command_id h)) ≡ floor_number view + 1
    unfolding next_command
    floor_after = ap floor_number completed_view ∙ number-after shape (floor_number view)

    pub commands_same : command_at h (completed h k b) ≡ command_at h k
    unfolding command_at
    commands_same = λ i p. option_and_then command_of (slice_get (completed_view i).queue p)

    positions_after : unfinished_positions h (completed h k b) ≡ filter view.given (range_with_len (floor_number view + 1) (place_count shape))
    unfolding unfinished_positions due_positions
    positions_after = search (rules, filter, completed, command_id, range_with_len, place_count, floor_after, floor_number, completed_view)

    -- nothing is given a lap ahead, and the next command is given
    module _ (next : view.given (next_command h k) ≡ true) (within : (p : ℕ) → view.given p ≡ true → p < floor_number view + place_count shape) where
      positions_before : unfinished_positions h k ≡ next_command h k ∷ filter view.given (range_with_len (floor_number view + 1) (place_count shape))
      unfolding unfinished_positions due_positions next_command
      positions_before = filter_first view.given (floor_number view) (place_count shape) next (search (rules, floor_number, place_count))

      -- the next command, where the block is one, was the first
      pub unfinished_completed : unfinished h k ≡ cons_option (command_at h k (next_command h k)) (unfinished h (completed h k b))
      unfolding unfinished
      unfinished_completed = search (rules, filter_map, command_at, positions_before, cons_option, next_command, commands_same, positions_after)
