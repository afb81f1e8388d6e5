-- Where all events are read, the controller can post an event that is possible
use Rattle.safety.proofs.LowerLaws.{rules, [], ◌≡◌, ◌++◌, ◌∙◌, List, All, reverse, sym, ap, subst, append-nil, reverse-reverse, Header, Row, IsRow, ContainsAll, GoesSoFar, LazyLaw, AllAreRead, lazy_run, lazy_steps, ◌+◌, ◌∷◌, length, arith, Block, World, Known, Agrees, Runs, all_read, ◌-◌, ◌<◌, ◌≤◌, ◌==◌, ◌&&◌, ◌||◌, ℕ, nat_lt, not, true, false, ne_eqb, lt-ltb, ltb-false, and_from, or_parts, not-false, not_from_false, cycle, kind, is_event, cycle_of, same_in_lap, shape_facts, has_room, Read, IsHeader, event_shape, event_size, can_post, is_past_room, is_impossible_by_kind, is_impossible, event_tests, lenient_tests, lenient, DriverKeeps, EventFacts, event_facts, event_ring_is, size_is, AllFail, tests_fail, scene_reached}

-- Behind all rows of a trace nothing is left to read: from the law of the lazy run behind each row

module _ (h : Header) where
  -- the rows, told from their history
  pub whole : (rows : List Row) → reverse (reverse rows) ++ [] ≡ rows
  whole rows = append-nil (reverse (reverse rows)) ∙ reverse-reverse rows

  steps_are : (rows : List Row) → reverse (lazy_steps h rows) ≡ lazy_run h (reverse rows) []
  unfolding lazy_steps
  steps_are rows = reverse-reverse (lazy_run h (reverse rows) [])

  contains : (rows : List Row) → GoesSoFar h (reverse rows) [] → ContainsAll h rows (reverse (lazy_steps h rows))
  contains rows goes = record {
    scene = goes.scene;
    run = ap (λ steps. scene_reached h rows steps) (steps_are rows) ∙ ap (λ l. scene_reached h l (lazy_run h (reverse rows) [])) (sym (whole rows)) ∙ goes.run;
    all = goes.left;
  }

  pub all_are_read : LazyLaw h → AllAreRead h
  all_are_read law rows is unmoved are kept timely = contains rows (law (reverse rows) [] is unmoved (subst (λ l. All IsRow l) (sym (whole rows)) are) kept timely)

-- A run whose events are all read: the world agrees with what is known now

module _ (h : Header) where
  by : (k : Known) (w : World) (unread : List Block) → w.posted ≡ w.reads → Agrees h (all_read h k unread) unread w → Agrees h k [] w
  by k w [] same g = g
  by k w (e ∷ rest) same g = absurd (let c : w.posted ≡ w.reads + length (e ∷ rest) = g.events.count in omega (arith, c, same))

  pub agrees_now : (k : Known) (w : World) → Runs h k w → w.posted ≡ w.reads → Agrees h k [] w
  agrees_now k w run same = by k w run.unread same run.agrees

room_left : (size posted dequeue : ℕ) → dequeue ≤ posted → posted + 2 ≤ dequeue + size → has_room size posted dequeue ≡ true
room_left size posted dequeue low high = search (rules, arith, not_from_false, ne_eqb, same_in_lap)

module _ (h : Header) where
  past_room : (k : Known) → is_past_room h k ≡ false → k.reads - k.dequeue ≤ event_size h - 2
  unfolding is_past_room
  past_room k room = ltb-false (event_size h - 2) (k.reads - k.dequeue) room

  cycle_read : (k : Known) (b : Block) → lenient h k (Read b) ≡ [] → (cycle b == cycle_of (event_shape h) k.reads) ≡ true
  unfolding lenient_tests event_tests is_impossible
  cycle_read k b clean =
      let fails : AllFail (event_tests h k b) = tests_fail h k (Read b) clean in
      let four = or_parts (not k.started || is_past_room h k || not (cycle b == cycle_of (event_shape h) k.reads) || not (is_event (kind b))) (is_impossible_by_kind h k (kind b) b) fails.0 in
      let three = or_parts (not k.started || is_past_room h k || not (cycle b == cycle_of (event_shape h) k.reads)) (not (is_event (kind b))) four.0 in
      not-false (cycle b == cycle_of (event_shape h) k.reads) (or_parts (not k.started || is_past_room h k) (not (cycle b == cycle_of (event_shape h) k.reads)) three.0).1

  pub is_event_read : (k : Known) (b : Block) → lenient h k (Read b) ≡ [] → is_event (kind b) ≡ true
  unfolding lenient_tests event_tests is_impossible
  is_event_read k b clean =
      let fails : AllFail (event_tests h k b) = tests_fail h k (Read b) clean in
      let four = or_parts (not k.started || is_past_room h k || not (cycle b == cycle_of (event_shape h) k.reads) || not (is_event (kind b))) (is_impossible_by_kind h k (kind b) b) fails.0 in
      not-false (is_event (kind b)) (or_parts (not k.started || is_past_room h k || not (cycle b == cycle_of (event_shape h) k.reads)) (not (is_event (kind b))) four.0).1

  pub may_post : IsHeader h → (k : Known) (w : World) (b : Block) → DriverKeeps h k → Agrees h k [] w → lenient h k (Read b) ≡ [] → can_post h w b ≡ true
  unfolding can_post
  may_post is k w b d g clean =
      let f : EventFacts h k b = event_facts h k b clean in
      let some : 0 < event_size h = d.sized (d.erstsz_written f.started) in
      let several = (shape_facts (event_shape h) (event_ring_is h is some).is).several in
      let low : w.dequeue ≤ w.posted = omega (arith, g.read, g.stands.dequeue, d.dequeued) in
      let high : w.posted + 2 ≤ w.dequeue + event_size h = omega (arith, g.read, g.stands.dequeue, d.dequeued, past_room k f.room, (size_is h), several) in
      let turn : (cycle b == cycle_of (event_shape h) w.posted) ≡ true = ap (λ n. cycle b == cycle_of (event_shape h) n) g.read ∙ cycle_read k b clean in
      and_from (nat_lt 0 (event_size h) && w.started && has_room (event_size h) w.posted w.dequeue) (cycle b == cycle_of (event_shape h) w.posted)
      (and_from (nat_lt 0 (event_size h) && w.started) (has_room (event_size h) w.posted w.dequeue)
      (and_from (nat_lt 0 (event_size h)) w.started (lt-ltb 0 (event_size h) some) (g.stands.started ∙ f.started)) (room_left (event_size h) w.posted w.dequeue low high)) turn
