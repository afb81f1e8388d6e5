-- The event ring, as the tests of an event and its count see it
use Rattle.event_rows.proofs.Words.{rules, ◌≡◌, ℕ, ◌+◌, ◌-◌, Bool, true, false, Option, refl, ap, ◌==◌, ◌||◌, not, nat_lt, Block, cycle, kind, is_event, Shape, cycle_of, place_count, Header, event_shape, event_size, EventState, Known, unfinished, same_blocks, unfinished_same, follows_beside, is_past_room, TraceRecord, FollowsTrace, FollowsEvents, FollowsPlace, binds_same, bound_same}

module _ (h : Header) (k : Known) (b : Block) where
  abbrev Misplaced : Shape → ℕ → ℕ → Bool
  Misplaced s reads dequeue = nat_lt (place_count s - 2) (reads - dequeue) || not (cycle b == cycle_of s reads) || not (is_event (kind b))

  abbrev IsNone : Bool → Bool
  IsNone started = not started || is_past_room h k || not (cycle b == cycle_of (event_shape h) k.reads) || not (is_event (kind b))

  -- before the start
  pub early : k.started ≡ false → IsNone k.started ≡ true
  early off = ap (λ s. IsNone s) off

  -- after it
  pub later : (e : EventState) → FollowsPlace h k e → k.started ≡ true → Misplaced e.shape e.counts.reads e.counts.dequeue ≡ IsNone k.started
  unfolding is_past_room event_size
  later e f on = search rules

module _ (h : Header) (k : Known) (t : TraceRecord) (m : ℕ → ℕ) (f : FollowsTrace h k t m) where
  abbrev counted : Known
  counted = record k { reads = k.reads + 1 }

  same : unfinished h counted ≡ unfinished h k
  same = unfinished_same h k counted (same_blocks _ _ refl)

  -- one event more was read
  pub follows_counted : (events_ : Option EventState) → FollowsEvents h counted events_ → FollowsTrace h counted (record t { events = events_ }) m
  follows_counted events_ follows = search (rules, follows_beside, same, bound_same, binds_same)
