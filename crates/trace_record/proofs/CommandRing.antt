-- The record of the command ring, and how the ring stands
use Rattle.trace_record.proofs.UpperLaws.{◌≡◌, ◌∙◌, ℕ, List, Bool, true, false, Option, None, Some, refl, ap, sym, subst, arith, position, slice_get, Ring, Header, IsHeader, Known, is_command_kind, command_id, command_ring, shape_of, among_at, shape_there}
use Rattle.std.proofs.Common.{◌==◌, ◌&&◌, nat_le, nat_lt, not, unwrap_or, is_none, is_some}
use Rattle.trace_record.proofs.BaseWords.{[], Xfer, eqb, event_ring, is_event_kind, cases_Bool, false≢true, inl, inr, nat_tests, place_count, same_Some, range_with_len, shape_or}
use Rattle.std.specs.Option.{option_eq}
use Rattle.std.specs.List.{list_any}
use Rattle.segments.specs.ShapeValue.{Shape}
use Rattle.segments.specs.RingView.{RingView, due_positions, floor_number}
use Rattle.segments.specs.Ceiling.{ceiling, given_count, is_open}
use Rattle.ring_knowledge.specs.declared.ring_record.RingRecord.{RingRecord}
use Rattle.ring_knowledge.specs.RingRecords.{FollowsRing}
use Rattle.ownership_rules.specs.Events.{may_be_taken}
use Rattle.ownership_rules.specs.Registers.{has_gap, is_used, is_value}
use Rattle.trace_record.specs.Premises.{StartedIsThere}
use Rattle.trace_record.specs.RingFinder.RecordsOfRings.{FollowsRings}
use Rattle.trace_record.proofs.RingFinder.HeaderRings.{event_found, not_found}
use Rattle.trace_record.proofs.RingFinder.FoundRings.{no_command_ring, none_here}
use Rattle.trace_record.proofs.RingFinder.CommandRings.{command_id_is, command_number, found_at, no_ring}

-- ---- whether a ring is held at its beginning

open_value : (o : Option ℕ) → is_none o ≡ true → true ≡ not (is_value 0 o)
open_value None open_ = refl
open_value (Some x) open_ = absurd (false≢true open_)

held_value : (o : Option ℕ) (n : ℕ) → is_none o ≡ false → not (unwrap_or o n == 0) ≡ not (is_value 0 o)
held_value None n held = absurd (false≢true (sym held))
held_value (Some x) n held = refl

first_value : (o : Option ℕ) (n f : ℕ) → is_value 0 o ≡ true → false ≡ nat_lt f (unwrap_or o n)
first_value None n f first = absurd (false≢true first)
first_value (Some x) n f first = grind (arith, nat_tests, first)

module _ (shape : Shape) (v : RingView) where
  pub started_open : is_open v ≡ true → true ≡ not (is_value 0 v.held)
  unfolding is_open
  started_open open_ = open_value v.held open_

  pub started_held : is_open v ≡ false → not (ceiling shape v == 0) ≡ not (is_value 0 v.held)
  unfolding is_open ceiling
  started_held held = held_value v.held (given_count shape v) held

  none_taken : (f : ℕ) → is_value 0 v.held ≡ true → false ≡ nat_lt f (ceiling shape v)
  unfolding ceiling
  none_taken f first = first_value v.held (given_count shape v) f first

-- ---- the command ring

not_not : (b : Bool) → not b ≡ false → b ≡ true
not_not b h = grind arith

module _ (h : Header) (headed : IsHeader h) (k : Known) where
  -- without a command ring
  module _ (none : command_ring h ≡ None) where
    pub unused : StartedIsThere h k → false ≡ is_used h k
    unused there = elim (cases_Bool (is_used h k)) [
      | inl used ↦ absurd (false≢true (sym (ap (λ (o : Option Ring). is_some o) none) ∙ there used))
      | inr new ↦ sym new
    ]

    pub untaken : StartedIsThere h k → false ≡ may_be_taken h k
    unfolding may_be_taken
    untaken there = none_taken (shape_of h (command_id h)) (k.ring (command_id h)) _ (not_not _ (sym (unused there)))

    pub none_due : (v : RingView) → due_positions (shape_of h (command_id h)) v ≡ []
    unfolding shape_of due_positions
    none_due v = ap (λ (o : Option Ring). range_with_len (floor_number v) (place_count (shape_or Xfer o))) (no_ring h headed none)

    pub gapless : false ≡ has_gap h k
    unfolding has_gap
    gapless =
        sym (ap (list_any (λ p. (k.ring (command_id h)).given p && nat_le (given_count (shape_of h (command_id h)) (k.ring (command_id h))) p)) (none_due (k.ring (command_id h))))

  -- and with one, of which this is the record
  module _ (records : List RingRecord) (f : FollowsRings h k records) (n : ℕ) (r : RingRecord) (is : position (λ q. is_command_kind q.shape.kind) h.rings ≡ Some n) (there : slice_get records n ≡ Some r) where
    pub command_follows : FollowsRing (shape_of h (command_id h)) (k.ring (command_id h)) r
    command_follows =
        let c = command_number h headed n is in
        subst (λ i. FollowsRing (shape_of h i) (k.ring i) r) (sym (command_id_is h c.ring c.there))
        (subst (λ (s : Shape). FollowsRing s (k.ring c.ring.id) r) (sym (shape_there h headed c.ring (among_at h.rings n c.ring c.at))) (f.each n c.ring r c.at there c.driver))

    pub command_shape : (q : Ring) → slice_get h.rings n ≡ Some q → q.shape ≡ shape_of h (command_id h)
    command_shape q at =
        let c = command_number h headed n is in
        let same : c.ring ≡ q = same_Some c.ring q (sym c.at ∙ at) in
        sym (ap (λ (x : Ring). x.shape) same) ∙ sym (shape_there h headed c.ring (among_at h.rings n c.ring c.at)) ∙ ap (λ i. shape_of h i) (sym (command_id_is h c.ring c.there))

-- ---- whether there is one

pub commands_there : (h : Header) → IsHeader h → is_some (position (λ q. is_command_kind q.shape.kind) h.rings) ≡ is_some (command_ring h)
commands_there h headed = by (position (λ q. is_command_kind q.shape.kind) h.rings) refl
  where
    by : (o : Option ℕ) → position (λ q. is_command_kind q.shape.kind) h.rings ≡ o → is_some (position (λ q. is_command_kind q.shape.kind) h.rings) ≡ is_some (command_ring h)
    by None none = ap (λ (x : Option ℕ). is_some x) none ∙ sym (ap (λ (x : Option Ring). is_some x) (no_command_ring h none))
    by (Some n) is = ap (λ (x : Option ℕ). is_some x) is ∙ sym (ap (λ (x : Option Ring). is_some x) (command_number h headed n is).there)

pub no_event_ring : (h : Header) → position (λ q. is_event_kind q.shape.kind) h.rings ≡ None → event_ring h ≡ None
unfolding event_ring
no_event_ring h none = not_found (λ q. is_event_kind q.shape.kind) h.rings (none_here h (λ q. is_event_kind q.shape.kind) h.rings none refl)

pub events_there : (h : Header) → IsHeader h → is_some (position (λ q. is_event_kind q.shape.kind) h.rings) ≡ is_some (event_ring h)
events_there h headed = by (position (λ q. is_event_kind q.shape.kind) h.rings) refl
  where
    by : (o : Option ℕ) → position (λ q. is_event_kind q.shape.kind) h.rings ≡ o → is_some (position (λ q. is_event_kind q.shape.kind) h.rings) ≡ is_some (event_ring h)
    by None none = ap (λ (x : Option ℕ). is_some x) none ∙ sym (ap (λ (x : Option Ring). is_some x) (no_event_ring h none))
    by (Some n) is =
        let (ring, at, kind) = found_at (λ q. is_event_kind q.shape.kind) h.rings n is in
        ap (λ (x : Option ℕ). is_some x) is ∙ sym (ap (λ (x : Option Ring). is_some x) (event_found h headed ring (among_at h.rings n ring at) kind))

pub none_some : {X : Type 0} (o : Option X) → is_some o ≡ false → o ≡ None
none_some None none = refl
none_some (Some x) none = absurd (false≢true (sym none))

pub same_value : (o : Option ℕ) (v : ℕ) → option_eq eqb o (Some v) ≡ is_value v o
same_value None v = refl
same_value (Some x) v = refl
