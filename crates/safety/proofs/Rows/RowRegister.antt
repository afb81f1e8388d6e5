-- A write of a register where all events are read: what is known agrees with the world
use Rattle.safety.proofs.LowerLaws.{◌≡◌, ◌+◌, ◌≤◌, if◌then◌else◌, ℕ, nat_lt, true, false, List, Some, slice_get, arith, ap, ltb-true, rules, list_any, range_with_len, some_of, and_parts, cond-true, cond-false, Block, Shape, Header, Register, command_id, event_shape, with_register, same_register, address_of, place_count, position_from, is_reached_within, is_event_place, World, counted, Known, Matches, Agrees, command_at, next_command, valued, no_place_stays, event_place_of, position_within, agrees_counted, is_named, is_used, is_value, not, sym, ◌∙◌, ◌≢◌, Crcr, is_some}
use Rattle.safety.proofs.StepsLeave.DriverGoesOn.{goes_same}
use Rattle.safety.proofs.StepsLeave.MatchesGoesOn.{SameController, matches_go_on}
use Rattle.world_state.specs.World as of_world
use Rattle.world_state.specs.DriverRows as driver

pub agrees_once_counted : (h : Header) (k : Known) (unread : List Block) (w : World) → Agrees h k unread w → Agrees h k unread (counted h w)
agrees_once_counted h k unread w g = agrees_counted h k unread w g.stands g.events g.matches g.read (λ a. omega (arith, g.stamps a))

-- the same rings are known
pub record SameRings (k m : Known) : Type 0 where
  pub rings : m.ring ≡ k.ring
  pub crcr : is_named m ≡ is_named k
  pub slot_state : m.slot_state ≡ k.slot_state
  pub endpoint_state : m.endpoint_state ≡ k.endpoint_state
  pub ring_of : m.ring_of ≡ k.ring_of
  pub isochronous : m.isochronous ≡ k.isochronous
  pub was_bound : m.was_bound ≡ k.was_bound
  pub stop_seen : m.stop_seen ≡ k.stop_seen
  pub device : m.device ≡ k.device

module _ (h : Header) (k m : Known) (w v : World) (s : SameRings k m) (c : SameController w v) where
  same_used : is_used h m ≡ false → is_used h k ≡ false
  same_used unused = ap (λ f. not (is_value 0 (f (command_id h)).held)) (sym s.rings) ∙ unused

  pub same_matches : v.changed ≡ w.changed → v.written ≡ w.written → Matches h k w → Matches h m v
  unfolding command_at
  same_matches changed written y =
      matches_go_on h k m w v (search (rules, goes_same, same_used)) c
      (λ u at. ap (λ f. slice_get (f (command_id h)).queue (next_command h k)) s.rings)
      (λ p d u. grind arith) y

module _ (h : Header) (k : Known) (unread : List Block) (w : World) (g : Agrees h k unread w) where
  -- a value that changes nothing else
  pub with_same : (r q : Register) (x : ℕ) → q ≢ Crcr → with_register w.register r x q ≡ with_register k.register r x q
  with_same r q x other = ap (λ o. if same_register q r then Some x else o) (g.stands.registers q other)

  -- of another register than CRCR
  other_named : (r : Register) (x : ℕ) → r ≢ Crcr → is_some (with_register k.register r x Crcr) ≡ is_named k
  other_named r x other = grind arith

  pub valued_agrees : (r : Register) (x : ℕ) → r ≢ Crcr → Agrees h (valued k r x) unread (driver.valued w r x)
  unfolding valued driver.valued of_world.event_at
  valued_agrees r x other = search (rules, with_same, same_matches, other_named)

-- ---- ERDP

-- the address is reached in the world as it is now
pub record ErdpReached (h : Header) (w : World) (a : ℕ) : Type 0 where
  pub more : ℕ
  pub reached : is_reached_within (event_shape h) w.dequeue more a ≡ true
  pub within : w.dequeue + more ≤ w.reads

pub event_place : (shape : Shape) (p more a : ℕ) → is_reached_within shape p more a ≡ true → is_event_place shape a ≡ true
event_place shape p more a reached =
    search (rules, and_parts, nat_lt, place_count, list_any, address_of, range_with_len, some_of, event_place_of, ltb-true)

module _ (h : Header) (k : Known) (unread : List Block) (w : World) (g : Agrees h k unread w) (a : ℕ) (may : ErdpReached h w a) where
  moved_known : Known
  moved_known = record k { dequeue = position_from (event_shape h) k.dequeue a }

  moved_world : World
  moved_world = record w { dequeue = position_from (event_shape h) w.dequeue a }

  moved_agrees : Agrees h moved_known unread moved_world
  unfolding moved_known moved_world of_world.event_at
  moved_agrees = search (rules, moved_known, moved_world, position_within, event_shape, w.dequeue, may.more, may.reached, g.events.order.room, same_matches)

  pub erdp_agrees : Agrees h (record k { dequeue = position_from (event_shape h) k.dequeue a }) unread (driver.with_dequeue h w a)
  unfolding moved_known moved_world driver.with_dequeue
  erdp_agrees = search (rules, cond-true, event_shape, event_place, moved_agrees)

-- an address that is no event place changes nothing
pub erdp_stays : (h : Header) (k : Known) (unread : List Block) (w : World) → Agrees h k unread w → (a : ℕ) → is_event_place (event_shape h) a ≡ false →
    Agrees h (record k { dequeue = position_from (event_shape h) k.dequeue a }) unread (driver.with_dequeue h w a)
unfolding driver.with_dequeue
erdp_stays h k unread w g a none = search (rules, event_shape, cond-false, no_place_stays)
