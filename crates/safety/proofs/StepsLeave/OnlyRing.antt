-- A world in which one ring alone has changed: all else that is said of it stays
use Rattle.safety.proofs.Words.{◌≡◌, ◌≢◌, ◌+◌, ◌*◌, ◌∙◌, ℕ, true, false, List, length, Option, Some, None, arith, sym, ap, subst, inl, inr, rules, false≢true, Block, block_at, address_of, named_context, Header, shape_of, command_id, event_shape, World, Known, DriverKeeps, Stands, EventsStand, RingState, state_of, BoundRing, FreeRing, EndpointRing, CommandMatches, IsUnchanged, Matches, is_named, is_used, Rests, RingMatches, UnderWayMatches, cases_eq, next_take}
use Rattle.world_state.specs.World.{event_at}
use Rattle.safety.proofs.StepsLeave.Stored.{Late}

pub record OnlyRing (w v : World) (r : ℕ) (s : RingState) : Type 0 where
  pub here : state_of v r ≡ s
  pub others : (q : ℕ) → q ≢ r → state_of v q ≡ state_of w q
  pub steps : v.steps ≡ w.steps
  pub started : v.started ≡ w.started
  pub stopped : v.stopped ≡ w.stopped
  pub halting : v.halting ≡ w.halting
  pub halted : v.halted ≡ w.halted
  pub there : v.posted_nowhere ≡ w.posted_nowhere
  pub register : v.register ≡ w.register
  pub memory : v.memory ≡ w.memory
  pub changed : v.changed ≡ w.changed
  pub written : v.written ≡ w.written
  pub queue : v.queue ≡ w.queue
  pub lengths : v.lengths ≡ w.lengths
  pub slot_state : v.slot_state ≡ w.slot_state
  pub endpoint_state : v.endpoint_state ≡ w.endpoint_state
  pub ring_of : v.ring_of ≡ w.ring_of
  pub isochronous : v.isochronous ≡ w.isochronous
  pub posted : v.posted ≡ w.posted
  pub reads : v.reads ≡ w.reads
  pub dequeue : v.dequeue ≡ w.dequeue

module _ (h : Header) (k : Known) (w v : World) (r : ℕ) (s : RingState) (o : OnlyRing w v r s) where
  pub stands_only : Stands h k w → Stands h k v
  stands_only x = search rules

  pub events_only : (unread : List Block) → EventsStand h w unread → EventsStand h v unread
  unfolding event_at
  events_only unread x = search (rules, length, block_at, address_of, event_shape)

  pub late_only : Late w → Late v
  late_only late a = omega (arith, ap (λ f. f a) o.changed, o.steps, late a)

  pub read_only : w.posted ≡ k.reads → v.posted ≡ k.reads
  read_only read = o.posted ∙ read

  pub unchanged_only : (at : ℕ) (c : Option ℕ) → IsUnchanged h w at c → IsUnchanged h v at c
  unchanged_only at None same = tt
  unchanged_only at (Some c) same = λ i l. let kept = same i l in omega (arith, ap (λ f. f (c + 4 * i)) o.changed, ap (λ f. f (at + 12)) o.written)

  other_ring : (q : ℕ) → q ≢ r → EndpointRing h k w q → EndpointRing h k v q
  other_ring q other (inl bound) = inl (subst (λ x. BoundRing (shape_of h q) k.ring_of (k.ring q) x q) (sym (o.others q other)) bound)
  other_ring q other (inr free) = inr (subst (λ x. FreeRing (shape_of h q) k.ring_of (k.ring q) x q) (sym (o.others q other)) free)

  -- where an endpoint's ring has changed
  pub matches_transfer : DriverKeeps h k → Matches h k w → r ≢ command_id h → BoundRing (shape_of h r) k.ring_of (k.ring r) s r →
      v.under_way ≡ w.under_way → v.scribbles ≡ w.scribbles → v.looked_outside ≡ false → Matches h k v
  matches_transfer d m other bound under scribbles inside =
      let command = o.others (command_id h) (λ e. other (sym e)) in
      record {
        slots = λ q. ap (λ f. f q) o.slot_state ∙ m.slots q;
        endpoints = λ q i. ap (λ f. f q i) o.endpoint_state ∙ m.endpoints q i;
        ring_of = λ q i. ap (λ f. f q i) o.ring_of ∙ m.ring_of q i;
        isochronous = λ q i. ap (λ f. f q i) o.isochronous ∙ m.isochronous q i;
        rings = λ q not_command. elim (cases_eq q r) [
          | inl same ↦ subst (EndpointRing h k v) (sym same) (inl (subst (λ z. BoundRing (shape_of h r) k.ring_of (k.ring r) z r) (sym o.here) bound))
          | inr apart ↦ other_ring q apart (m.rings q not_command)
        ];
        before = λ off. let b = m.before off in record { rests = subst (Rests (shape_of h (command_id h))) (sym command) b.rests; none = under ∙ b.none };
        command = λ on. let c = m.command on in record {
          spot = c.spot;
          ring = subst (λ z. RingMatches (shape_of h (command_id h)) (k.ring (command_id h)) z c.spot) (sym command) c.ring;
          under_way = subst (UnderWayMatches h k c.spot) (sym under) c.under_way;
        };
        new = λ unused. ap (λ z. next_take (shape_of h (command_id h)) z.events) command ∙ m.new unused;
        scribbles = λ q may. m.scribbles q (ap (λ f. f q) (sym scribbles) ∙ may);
        contexts = λ p c u. unchanged_only (address_of (shape_of h (command_id h)) p) (named_context c) (m.contexts p c u);
        inside = inside;
        there = o.there ∙ m.there;
      }

  -- where the command ring has
  pub matches_command : Matches h k w → r ≡ command_id h → is_named k ≡ true → CommandMatches h k v → (is_used h k ≡ false → next_take (shape_of h (command_id h)) (v.events (command_id h)) ≡ 0) →
      ((q : ℕ) → v.scribbles q ≡ true → k.device q ≢ None) → v.looked_outside ≡ false → Matches h k v
  matches_command m command on now new scribbles inside =
      record {
        slots = λ q. ap (λ f. f q) o.slot_state ∙ m.slots q;
        endpoints = λ q i. ap (λ f. f q i) o.endpoint_state ∙ m.endpoints q i;
        ring_of = λ q i. ap (λ f. f q i) o.ring_of ∙ m.ring_of q i;
        isochronous = λ q i. ap (λ f. f q i) o.isochronous ∙ m.isochronous q i;
        rings = λ q not_command. other_ring q (λ e. not_command (e ∙ command)) (m.rings q not_command);
        before = λ off. absurd (false≢true (sym off ∙ on));
        command = λ _. now;
        new = new;
        scribbles = scribbles;
        contexts = λ p c u. unchanged_only (address_of (shape_of h (command_id h)) p) (named_context c) (m.contexts p c u);
        inside = inside;
        there = o.there ∙ m.there;
      }
