-- Two knowledges of which an event says the same: what it reads and what it changes is alike, but that in one more may be given,
-- and rings may be held at greater numbers
use Rattle.safety.proofs.LowerLaws.{◌≡◌, ◌≤◌, ℕ, true, nat_lt, Option, unwrap_or, is_none, arith, sym, ap, subst, ltb-true, lt-ltb, leb-true, le-leb, eqb-true, eq-eqb, rules, cases_eq, false≢true, and_parts, and_from, or_cases, or_left, or_right, Spot, Shape, number, RingView, RingChange, Reaches, Holds, changed, floor_number, given_count, ceiling, is_way_given, is_open, is_data_below, is_stop_spot, stopped_number, GivesMore, step_more, given_count_grows, Header, shape_of, Known, on_ring, IsHeldMore, same_held}
use Rattle.safety.proofs.RingsKeep.DriverRows.{ring_here, ring_elsewhere}

pub record RingAlike (v w : RingView) : Type 0 where
  pub floor : w.floor ≡ v.floor
  pub held : IsHeldMore v.held w.held
  pub more : GivesMore v w

-- P are the slots whose device contexts are alike
pub record Alike (P : ℕ → Type 0) (k l : Known) : Type 0 where
  pub rings : (r : ℕ) → RingAlike (k.ring r) (l.ring r)
  pub was_bound : l.was_bound ≡ k.was_bound
  pub slot_state : l.slot_state ≡ k.slot_state
  pub endpoint_state : l.endpoint_state ≡ k.endpoint_state
  pub ring_of : l.ring_of ≡ k.ring_of
  pub isochronous : l.isochronous ≡ k.isochronous
  pub must_move : l.must_move ≡ k.must_move
  pub stop_seen : l.stop_seen ≡ k.stop_seen
  pub device : (s : ℕ) → P s → l.device s ≡ k.device s

-- ---- one ring

pub held_same : (o p : Option ℕ) → p ≡ o → IsHeldMore o p
held_same o p same = subst (λ x. IsHeldMore o x) (sym same) (same_held o)

held_ceiling : (a b : ℕ) (o p : Option ℕ) → a ≤ b → IsHeldMore o p → unwrap_or o a ≤ unwrap_or p b
held_ceiling a b o x less more = grind arith

module _ (shape : Shape) (v w : RingView) (a : RingAlike v w) where
  pub count_more : given_count shape v ≤ given_count shape w
  count_more = given_count_grows shape v w (let e : floor_number w ≡ floor_number v = ap number a.floor in omega arith) (step_more shape v w a.more)

  pub ceiling_more : ceiling shape v ≤ ceiling shape w
  unfolding ceiling
  ceiling_more = held_ceiling (given_count shape v) (given_count shape w) v.held w.held count_more a.held

  pub open_alike : is_open v ≡ true → is_open w ≡ true
  unfolding is_open
  open_alike = search (rules, is_none, false≢true)

  pub below_more : (t : Spot) → is_data_below (ceiling shape v) t ≡ true → is_data_below (ceiling shape w) t ≡ true
  unfolding is_data_below
  below_more o below = grind (arith, lt-ltb, ceiling, ltb-true, ceiling_more)

  pub stop_more : (t : Spot) → is_stop_spot shape v t ≡ true → is_stop_spot shape w t ≡ true
  unfolding is_stop_spot is_way_given
  stop_more t stops = grind (arith, or_cases, nat_lt, or_left, lt-ltb, ltb-true, count_more, and_parts, eqb-true, or_right, and_from, eq-eqb, le-leb, leb-true)

  pub stopped_more : (t : Spot) → stopped_number shape v t ≤ stopped_number shape w t
  unfolding stopped_number
  stopped_more o = grind (arith, count_more)

-- ---- what is known

module _ (h : Header) (P : ℕ → Type 0) (k l : Known) (a : Alike P k l) where
  on_ring_rings : (r : ℕ) (c d : RingChange) → RingAlike (changed (shape_of h r) (k.ring r) c) (changed (shape_of h r) (l.ring r) d) →
      (q : ℕ) → RingAlike ((on_ring h k r c).ring q) ((on_ring h l r d).ring q)
  on_ring_rings r c d here q = grind (arith, cases_eq, ring_here, ring_elsewhere, cases_eq q r)

  pub reached_alike : (r : ℕ) (t : Spot) → Alike P (on_ring h k r (Reaches t)) (on_ring h l r (Reaches t))
  unfolding on_ring
  reached_alike r t = search (rules, on_ring_rings)

  pub held_alike : (r m n : ℕ) → m ≤ n → Alike P (on_ring h k r (Holds m)) (on_ring h l r (Holds n))
  unfolding on_ring
  held_alike r m n more = search (rules, on_ring_rings)
