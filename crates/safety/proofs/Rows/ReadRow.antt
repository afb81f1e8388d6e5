-- The driver reads an event: it is the oldest unread one, and the run goes on
use Rattle.safety.proofs.LowerLaws.{[], ◌≡◌, ◌+◌, ◌<◌, ◌∷◌, ◌∙◌, true, false, List, nat_lt, Some, All, arith, refl, ap, subst, eqb-true, ltb-true, rules, and_parts, All-head, All-tail, cond_some, Block, IsBlock, kind, same_words, Header, Read, World, counted, Known, learned, EventsStand, Agrees, ArePossible, Runs, all_read, unary_clauses, agrees_counted, four_of}
use Rattle.world_state.specs.World.{event_at}
use Rattle.safety.proofs.Posts.EventRead.{learned_read}
use Rattle.safety.proofs.Rows.SameDriver.{event_same}
use Rattle.world_state.specs.World as of_world
use Rattle.world_state.specs.DriverRows as driver

-- blocks with the same four words are the same
same_block : (a b : Block) → IsBlock a → IsBlock b → same_words a b ≡ true → a ≡ b
same_block a b is_a is_b same = search (rules, and_parts, eqb-true, four_of)

module _ (h : Header) where
  abbrev one_read : World → World
  one_read w = record w { reads = w.reads + 1 }

  agrees_read : (k : Known) (u : Block) (rest : List Block) (w : World) → w.reads < w.posted → Agrees h k (u ∷ rest) w → Agrees h k rest (counted h (one_read w))
  unfolding of_world.event_at
  agrees_read k u rest w unread g =
      let s = g.stands in
      let e = g.events in
      agrees_counted h k rest (one_read w)
      (record { started = s.started; stopped = s.stopped; halting = s.halting; halted = s.halted; told = s.told; registers = s.registers; queues = s.queues; lengths = s.lengths; dequeue = s.dequeue; quiet = s.quiet })
      (record {
        order = record { dequeued = omega (arith, e.order.dequeued); read = omega (arith, unread); room = e.order.room };
        count = omega (arith, e.count);
        places = λ i x at. subst (λ n. event_at h w n ≡ x) (let sum : w.reads + (i + 1) ≡ w.reads + 1 + i = omega arith in sum) (e.places (i + 1) x ((simp unary_clauses refl) ∙ at));
        started = e.started;
        ring = e.ring;
      })
      (search rules)
      g.read (λ a. omega (arith, g.stamps a))

  -- reading an event stops nothing
  pub read_on : (k : Known) (b : Block) → k.stopped ≡ false → (learned h k (Read b)).stopped ≡ false
  read_on k b on = ap (λ m. m.stopped) (learned_read h k b) ∙ (event_same h k (kind b) b).stopped ∙ on

  none_unread : (w : World) → w.reads < w.posted → EventsStand h w [] → ⊥
  none_unread w some e = absurd (let c : w.posted ≡ w.reads + 0 = e.count in omega arith)

  read_oldest : (now : Known) (e : Block) (w v : World) → IsBlock e →
      (w.reads < w.posted) × (same_words (event_at h w w.reads) e ≡ true) × ((let x : World = record w { reads = w.reads + 1 } in x) ≡ v) →
      (unread : List Block) → ArePossible h now unread → All IsBlock unread → now.stopped ≡ false → Agrees h (all_read h now unread) unread w →
      Runs h (learned h now (Read e)) (counted h v)
  read_oldest now e w v block x [] possible blocks on g = absurd (none_unread w x.0 g.events)
  read_oldest now e w v block x (u ∷ rest) possible blocks on g =
      let at : event_at h w w.reads ≡ u = subst (λ n. event_at h w n ≡ u) (let z : w.reads + 0 ≡ w.reads = omega arith in z) (g.events.places 0 u refl) in
      subst (λ b. Runs h (learned h now (Read b)) (counted h v)) (same_block u e (All-head IsBlock u rest blocks) block (subst (λ b. same_words b e ≡ true) at x.1))
      (subst (λ z. Runs h (learned h now (Read u)) (counted h z)) x.2
      (record {
        unread = rest;
        possible = possible.1;
        blocks = All-tail IsBlock u rest blocks;
        on = read_on now u on;
        agrees = agrees_read (all_read h (learned h now (Read u)) rest) u rest w x.0 g;
      }))

  -- the run goes on behind the row that reads an event
  pub read_runs : (now : Known) (e : Block) (w v : World) → IsBlock e → (run : Runs h now w) → driver.event_read h w e ≡ Some v → Runs h (learned h now (Read e)) (counted h v)
  unfolding driver.event_read
  read_runs now e w v block run at = read_oldest now e w v block (search (rules, cond_some, nat_lt, w.reads, same_words, event_at, and_parts, ltb-true, w.posted)) run.unread run.possible run.blocks run.on run.agrees
