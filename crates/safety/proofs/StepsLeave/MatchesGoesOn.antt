-- Where more is known of rings whose pointers stay, and the controller did nothing, what it did is still what is known of it
use Rattle.safety.proofs.LowerLaws.{◌≡◌, ◌≢◌, ◌∙◌, ℕ, None, Some, refl, sym, ap, subst, arith, address_of, number, Command, named_context, Header, shape_of, command_id, World, UnderWay, Known, IsUnfinished, state_of, RingMatches, UnderWayMatches, CommandMatches, IsUnchanged, Matches, ◌+◌, Option, option_and_then, slice_get, rules, Spot, command_of, command_at, next_command, was_stop_seen, TakenCommand, RingGoesOn, bound_on, matches_on, is_used, Rests, false, is_named, next_take}

-- Where the command ring's pointer stays and its next command is the same, so is what is said of the command under way
module _ (h : Header) (k m : Known) (floor : (m.ring (command_id h)).floor ≡ (k.ring (command_id h)).floor) (stop_seen : m.stop_seen ≡ k.stop_seen) where
  pub next_same : next_command h m ≡ next_command h k
  unfolding next_command
  next_same = ap (λ t. number t) floor

  seen_same : (c : Command) → was_stop_seen m c ≡ was_stop_seen k c
  unfolding was_stop_seen
  seen_same o = grind arith

  -- what is declared at the floor
  abbrev pub NextStays : Type 0
  NextStays = slice_get (m.ring (command_id h)).queue (next_command h k) ≡ slice_get (k.ring (command_id h)).queue (next_command h k)

  taken_on : (u : UnderWay) → NextStays → TakenCommand h k u → TakenCommand h m u
  unfolding command_at
  taken_on u stays t = search (rules, next_same, slice_get, option_and_then, command_of, seen_same)

  pub under_way_on : (t : Spot) (o : Option UnderWay) → ((u : UnderWay) → o ≡ Some u → NextStays) → UnderWayMatches h k t o → UnderWayMatches h m t o
  under_way_on t None stays under = (under.0 ∙ sym next_same, λ s i. ap (λ f. f s i) stop_seen ∙ under.1 s i)
  under_way_on t (Some u) stays under = (under.0 ∙ ap (λ n. n + 1) (sym next_same), taken_on u (stays u refl) under.1)

-- the states of endpoints and slots are the same, and each ring goes on
pub record KnownGoesOn (h : Header) (k m : Known) : Type 0 where
  pub named : is_named m ≡ is_named k
  pub unused : is_used h m ≡ false → is_used h k ≡ false
  pub slot_state : m.slot_state ≡ k.slot_state
  pub endpoint_state : m.endpoint_state ≡ k.endpoint_state
  pub ring_of : m.ring_of ≡ k.ring_of
  pub isochronous : m.isochronous ≡ k.isochronous
  pub was_bound : m.was_bound ≡ k.was_bound
  pub stop_seen : m.stop_seen ≡ k.stop_seen
  pub device : (s : ℕ) → k.device s ≢ None → m.device s ≢ None
  pub rings : (r : ℕ) → RingGoesOn (shape_of h r) (k.ring r) (m.ring r)

-- nothing that the controller does has changed
pub record SameController (w v : World) : Type 0 where
  pub slot_state : v.slot_state ≡ w.slot_state
  pub endpoint_state : v.endpoint_state ≡ w.endpoint_state
  pub ring_of : v.ring_of ≡ w.ring_of
  pub isochronous : v.isochronous ≡ w.isochronous
  pub scribbles : v.scribbles ≡ w.scribbles
  pub under_way : v.under_way ≡ w.under_way
  pub inside : v.looked_outside ≡ w.looked_outside
  pub there : v.posted_nowhere ≡ w.posted_nowhere
  pub states : (r : ℕ) → state_of v r ≡ state_of w r

pub same_controller : (w : World) → SameController w w
same_controller w = record { slot_state = refl; endpoint_state = refl; ring_of = refl; isochronous = refl; scribbles = refl; under_way = refl; inside = refl; there = refl; states = λ r. refl }

module _ (h : Header) (k m : Known) (w v : World) (g : KnownGoesOn h k m) (c : SameController w v) where
  command_matches : ((u : UnderWay) → w.under_way ≡ Some u → NextStays h k m (g.rings (command_id h)).floor g.stop_seen) → CommandMatches h k w → CommandMatches h m v
  command_matches next y = record {
    spot = y.spot;
    ring = subst (λ s. RingMatches (shape_of h (command_id h)) (m.ring (command_id h)) s y.spot) (sym (c.states (command_id h)))
        (matches_on (shape_of h (command_id h)) (k.ring (command_id h)) (m.ring (command_id h)) (g.rings (command_id h)) (state_of w (command_id h)) y.spot y.ring);
    under_way = subst (λ o. UnderWayMatches h m y.spot o) (sym c.under_way)
        (under_way_on h k m (g.rings (command_id h)).floor g.stop_seen y.spot w.under_way next y.under_way);
  }

  pub matches_go_on : ((u : UnderWay) → w.under_way ≡ Some u → NextStays h k m (g.rings (command_id h)).floor g.stop_seen) →
      ((p : ℕ) (d : Command) → IsUnfinished h m p d → IsUnchanged h v (address_of (shape_of h (command_id h)) p) (named_context d)) → Matches h k w → Matches h m v
  matches_go_on next contexts y = record {
    slots = λ s. ap (λ f. f s) c.slot_state ∙ y.slots s ∙ ap (λ f. f s) (sym g.slot_state);
    endpoints = λ s i. ap (λ f. f s i) c.endpoint_state ∙ y.endpoints s i ∙ ap (λ f. f s i) (sym g.endpoint_state);
    ring_of = λ s i. ap (λ f. f s i) c.ring_of ∙ y.ring_of s i ∙ ap (λ f. f s i) (sym g.ring_of);
    isochronous = λ s i. ap (λ f. f s i) c.isochronous ∙ y.isochronous s i ∙ ap (λ f. f s i) (sym g.isochronous);
    rings = λ r other. grind (arith, shape_of, state_of, bound_on, number);
    before = λ off. let b = y.before (sym g.named ∙ off) in record {
      rests = subst (Rests (shape_of h (command_id h))) (sym (c.states (command_id h))) b.rests;
      none = c.under_way ∙ b.none;
    };
    new = λ unused. ap (λ s. next_take (shape_of h (command_id h)) s.events) (c.states (command_id h)) ∙ y.new (g.unused unused);
    command = λ on. command_matches next (y.command (sym g.named ∙ on));
    scribbles = λ s may. g.device s (y.scribbles s (ap (λ f. f s) (sym c.scribbles) ∙ may));
    contexts = contexts;
    inside = c.inside ∙ y.inside;
    there = c.there ∙ y.there;
  }
