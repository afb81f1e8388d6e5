-- One ring about which more is known, and which has changed in the world: all else that is said of both stays
use Rattle.safety.proofs.Words.{◌≡◌, ◌≢◌, ◌+◌, ◌∙◌, ℕ, Option, Some, None, option_and_then, slice_get, sym, ap, subst, inl, inr, rules, cases_eq, Spot, address_of, RingView, floor_number, Command, command_of, named_context, Header, shape_of, command_id, World, UnderWay, Known, command_at, next_command, was_stop_seen, DriverKeeps, IsUnfinished, Stands, RingState, state_of, RingMatches, BoundRing, EndpointRing, UnderWayMatches, Matches, arith, Rests, is_value, not, is_named, Crcr, is_some, Register, next_take}
use Rattle.safety.proofs.StepsLeave.OnlyRing.{OnlyRing, unchanged_only}

pub record LearnsRing (k m : Known) (r : ℕ) (x : RingView) : Type 0 where
  pub here : m.ring r ≡ x
  pub others : (q : ℕ) → q ≢ r → m.ring q ≡ k.ring q
  pub queue : x.queue ≡ (k.ring r).queue
  pub lengths : x.lengths ≡ (k.ring r).lengths
  pub started : m.started ≡ k.started
  pub stopped : m.stopped ≡ k.stopped
  pub halt : m.halt ≡ k.halt
  pub register : m.register ≡ k.register
  pub memory : m.memory ≡ k.memory
  pub soiled : m.soiled ≡ k.soiled
  pub device : m.device ≡ k.device
  pub dequeue : m.dequeue ≡ k.dequeue
  pub was_bound : m.was_bound ≡ k.was_bound
  pub slot_state : m.slot_state ≡ k.slot_state
  pub endpoint_state : m.endpoint_state ≡ k.endpoint_state
  pub ring_of : m.ring_of ≡ k.ring_of
  pub isochronous : m.isochronous ≡ k.isochronous
  pub stop_seen : m.stop_seen ≡ k.stop_seen

-- ---- the command under way, where the command ring is known as before

module _ (h : Header) (k m : Known) (ring : m.ring (command_id h) ≡ k.ring (command_id h)) (stop_seen : m.stop_seen ≡ k.stop_seen) where
  pub next_same : next_command h m ≡ next_command h k
  unfolding next_command
  next_same = ap (λ v. floor_number v) ring

  pub command_same : (p : ℕ) → command_at h m p ≡ command_at h k p
  unfolding command_at
  command_same p = ap (λ v. option_and_then command_of (slice_get v.queue p)) ring

  seen_same : (c : Command) → was_stop_seen m c ≡ was_stop_seen k c
  unfolding was_stop_seen
  seen_same o = grind arith

  pub under_way_same : (t : Spot) (o : Option UnderWay) → UnderWayMatches h k t o → UnderWayMatches h m t o
  under_way_same t None under = (under.0 ∙ sym next_same, λ s i. ap (λ f. f s i) stop_seen ∙ under.1 s i)
  under_way_same t (Some u) under = (under.0 ∙ ap (λ n. n + 1) (sym next_same), search (rules, next_same, slice_get, command_same, seen_same))

  pub unfinished_same : (p : ℕ) (c : Command) → IsUnfinished h m p c → IsUnfinished h k p c
  unfinished_same p c u = search (rules, command_same)

-- ---- what is said of the world

module _ (h : Header) (k m : Known) (r : ℕ) (x : RingView) (l : LearnsRing k m r x) where
  pub stands_learns : (w : World) → Stands h k w → Stands h m w
  stands_learns w s = search rules

  module _ (u v : World) (s : RingState) (o : OnlyRing u v r s) where
    other_ring : (q : ℕ) → q ≢ r → EndpointRing h k u q → EndpointRing h m v q
    other_ring q other (inl bound) = search rules
    other_ring q other (inr free) = search rules

    -- an endpoint's ring, of which more is known
    pub matches_learns : DriverKeeps h k → Matches h k u → r ≢ command_id h → BoundRing (shape_of h r) k.ring_of x s r →
        v.under_way ≡ u.under_way → v.scribbles ≡ u.scribbles → v.looked_outside ≡ u.looked_outside → Matches h m v
    matches_learns d y other bound under scribbles inside =
        let crcr : is_named m ≡ is_named k = ap (λ (f : Register → Option ℕ). is_some (f Crcr)) l.register in
        let command_ring : m.ring (command_id h) ≡ k.ring (command_id h) = l.others (command_id h) (λ e. other (sym e)) in
        record {
          slots = λ q. ap (λ f. f q) o.slot_state ∙ y.slots q ∙ ap (λ f. f q) (sym l.slot_state);
          endpoints = λ q i. ap (λ f. f q i) o.endpoint_state ∙ y.endpoints q i ∙ ap (λ f. f q i) (sym l.endpoint_state);
          ring_of = λ q i. ap (λ f. f q i) o.ring_of ∙ y.ring_of q i ∙ ap (λ f. f q i) (sym l.ring_of);
          isochronous = λ q i. ap (λ f. f q i) o.isochronous ∙ y.isochronous q i ∙ ap (λ f. f q i) (sym l.isochronous);
          rings = λ q not_command. elim (cases_eq q r) [
            | inl same ↦ subst (λ p. EndpointRing h m v p) (sym same)
                (inl (subst (λ f. BoundRing (shape_of h r) f (m.ring r) (state_of v r) r) (sym l.ring_of)
                (subst (λ z. BoundRing (shape_of h r) k.ring_of z (state_of v r) r) (sym l.here)
                (subst (λ z. BoundRing (shape_of h r) k.ring_of x z r) (sym o.here) bound))))
            | inr apart ↦ other_ring q apart (y.rings q not_command)
          ];
          before = λ off. let b = y.before (sym crcr ∙ off) in record {
            rests = subst (λ z. Rests (shape_of h (command_id h)) z) (sym (o.others (command_id h) (λ e. other (sym e)))) b.rests;
            none = under ∙ b.none;
          };
          new = λ unused. ap (λ z. next_take (shape_of h (command_id h)) z.events) (o.others (command_id h) (λ e. other (sym e))) ∙ y.new (ap (λ z. not (is_value 0 z.held)) (sym command_ring) ∙ unused);
          command = λ on. let c = y.command (sym crcr ∙ on) in record {
            spot = c.spot;
            ring = subst (λ z. RingMatches (shape_of h (command_id h)) z (state_of v (command_id h)) c.spot) (sym command_ring)
                (subst (λ z. RingMatches (shape_of h (command_id h)) (k.ring (command_id h)) z c.spot) (sym (o.others (command_id h) (λ e. other (sym e)))) c.ring);
            under_way = subst (λ z. UnderWayMatches h m c.spot z) (sym under) (under_way_same h k m command_ring l.stop_seen c.spot u.under_way c.under_way);
          };
          scribbles = λ q may none. y.scribbles q (ap (λ f. f q) (sym scribbles) ∙ may) (ap (λ f. f q) (sym l.device) ∙ none);
          contexts = λ p c a. unchanged_only h k u v r s o (address_of (shape_of h (command_id h)) p) (named_context c) (y.contexts p c (unfinished_same h k m command_ring l.stop_seen p c a));
          inside = inside ∙ y.inside;
          there = o.there ∙ y.there;
        }
