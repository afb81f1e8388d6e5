-- Behind the completion of a command that had no effect: the command ring's floor moves on, and no command is under way
use Rattle.safety.proofs.LowerLaws.{◌≡◌, ◌≢◌, ◌+◌, ◌∙◌, ℕ, Bool, true, false, List, option_and_then, slice_get, arith, sym, ap, subst, rules, Block, Spot, number, floor_number, due_is, due_from, command_of, Header, IsHeader, shape_of, command_id, World, Known, command_at, next_command, IsDriverRing, DriverKeeps, Stands, EventsStand, state_of, RingMatches, Matches, command_is_ring, next_is, put_at, put_off, number_after, false≢true, is_named, not, is_value, BoundRing, FreeRing, inl, inr, Shape, RingView, Command, IsUnfinished}
use Rattle.safety.proofs.StepsLeave.FloorMoves.{floor_behind, floor_moves}
use Rattle.safety.proofs.Finishes.FinishKinds.{let_go, next_known}
use Rattle.world_state.specs.World as of_world

module _ (h : Header) (is : IsHeader h) (k : Known) (d : DriverKeeps h k) (on : is_named k ≡ true) where
  ring : IsDriverRing h (command_id h)
  ring = command_is_ring h k d on

  module _ (seen : ℕ → ℕ → Bool) (n : ℕ) where
    ring_same : (q : ℕ) → q ≢ command_id h → (next_known h k seen n).ring q ≡ k.ring q
    ring_same q other = put_off k.ring (command_id h) (floor_behind (shape_of h (command_id h)) (k.ring (command_id h)) (next_command h k)) q other

    ring_here : (next_known h k seen n).ring (command_id h) ≡ floor_behind (shape_of h (command_id h)) (k.ring (command_id h)) (next_command h k)
    ring_here = put_at k.ring (command_id h) (floor_behind (shape_of h (command_id h)) (k.ring (command_id h)) (next_command h k))

    queue_same : (q : ℕ) → (k.ring q).queue ≡ ((next_known h k seen n).ring q).queue
    queue_same q = search (rules, ring, next_known, ring_here, ring_same)

    lengths_same : (q : ℕ) → (k.ring q).lengths ≡ ((next_known h k seen n).ring q).lengths
    lengths_same q = search (rules, ring, next_known, ring_here, ring_same)

    pub stands_next : (u : World) → Stands h k u → Stands h (next_known h k seen n) (let_go u)
    stands_next u s = record {
      started = s.started;
      stopped = s.stopped;
      halting = s.halting;
      halted = s.halted;
      told = s.told;
      registers = s.registers;
      queues = λ q. s.queues q ∙ queue_same q;
      lengths = λ q. s.lengths q ∙ lengths_same q;
      dequeue = s.dequeue;
      quiet = s.quiet;
    }

    pub events_next : (u : World) (unread : List Block) → EventsStand h u unread → EventsStand h (let_go u) unread
    unfolding of_world.event_at
    events_next u unread v = record { order = v.order; count = v.count; places = v.places; started = v.started; ring = v.ring }

    next_number : next_command h (next_known h k seen n) ≡ next_command h k + 1
    next_number = next_is h (next_known h k seen n) ∙ ap (λ v. floor_number v) ring_here ∙ number_after (shape_of h (command_id h)) (next_command h k)

    command_kept : (p : ℕ) → command_at h (next_known h k seen n) p ≡ command_at h k p
    unfolding command_at
    command_kept p = ap (λ l. option_and_then command_of (slice_get l p)) (sym (queue_same (command_id h)))

    unfinished_before : (p : ℕ) (c : Command) → IsUnfinished h (next_known h k seen n) p c → IsUnfinished h k p c
    unfinished_before p c f =
        let shape : Shape = shape_of h (command_id h) in
        let given : (k.ring (command_id h)).given p ≡ true = ap (λ (v : RingView). v.given p) (sym ring_here) ∙ f.given in
        let due = due_is shape ((next_known h k seen n).ring (command_id h)).floor p f.due in
        let from : number ((next_known h k seen n).ring (command_id h)).floor ≡ next_command h k + 1 = ap (λ v. floor_number v) ring_here ∙ number_after shape (next_command h k) in
        record {
          due = due_from shape (k.ring (command_id h)).floor p (omega (arith, due, from, next_is h k)) ((d.rings (command_id h) ring).given_within p given);
          given = given;
          command = sym (command_kept p) ∙ f.command;
        }

    pub matches_next : (u : World) → Matches h k u → (t : Spot) → RingMatches (shape_of h (command_id h)) (k.ring (command_id h)) (state_of u (command_id h)) t →
        number t ≡ next_command h k + 1 → ((s i : ℕ) → seen s i ≡ false) → Matches h (next_known h k seen n) (let_go u)
    matches_next u y t r at none = record {
      slots = y.slots;
      endpoints = y.endpoints;
      ring_of = y.ring_of;
      isochronous = y.isochronous;
      rings = λ q other. elim (y.rings q other) [
        | inl bound ↦ inl (subst (λ v. BoundRing (shape_of h q) k.ring_of v (state_of u q) q) (sym (ring_same q other)) bound)
        | inr free ↦ inr (subst (λ v. FreeRing (shape_of h q) k.ring_of v (state_of u q) q) (sym (ring_same q other)) free)
      ];
      before = λ off. absurd (false≢true (sym off ∙ on));
      new = λ unused. y.new (ap (λ v. not (is_value 0 v.held)) (sym ring_here) ∙ unused);
      command = λ started. record {
        spot = t;
        ring = subst (λ v. RingMatches (shape_of h (command_id h)) v (state_of u (command_id h)) t) (sym ring_here)
            (floor_moves (shape_of h (command_id h)) (k.ring (command_id h)) (state_of u (command_id h)) t (next_command h k) (omega (arith, next_is h k)) (omega arith) r);
        under_way = (at ∙ sym next_number, none);
      };
      scribbles = y.scribbles;
      contexts = λ p c f. y.contexts p c (unfinished_before p c f);
      inside = y.inside;
      there = y.there;
    }
