-- An endpoint that is placed on a ring: what is kept of endpoints is kept
use Rattle.safety.proofs.LowerLaws.{◌≡◌, ◌≢◌, ◌⊎◌, ◌∙◌, ℕ, Bool, true, false, Option, None, Some, refl, sym, ap, inl, inr, rules, cond-true, cond-false, none-some, same_Some, put_pair, Spot, number, target, Command, EndpointState, Off, Running, is_off, Places, Header, shape_of, ring_having, Known, on_ring, set_to, bound_to, moved_to, moved, pointed, in_state, changed_by, EndpointsKeep, arith, at_pair, EndpointsStand}
use Rattle.safety.proofs.RingsKeep.DriverRows.{ring_here, ring_elsewhere}
use Rattle.safety.proofs.StatesKeep.StatesOneEndpoint.{same_pair, one_stands}

-- the ring at a pointer, which no endpoint has
pub record IsFree (h : Header) (k : Known) (p : ℕ) : Type 0 where
  pub ring : ℕ
  pub named : ring_having h p ≡ Some ring
  pub free : (t j : ℕ) → k.ring_of t j ≢ Some ring

-- an endpoint that is off gets a free ring; any other one may stay what it is only where its ring is held
pub record MayPlace (h : Header) (k : Known) (s i p : ℕ) (state : EndpointState) : Type 0 where
  pub slot : s ≢ 0
  pub index : i ≢ 0
  pub on : state ≢ Off
  pub binds : is_off (k.endpoint_state s i) ≡ true → IsFree h k p
  pub starts : is_off (k.endpoint_state s i) ≡ true → state ≡ Running
  pub runs : (r : ℕ) → k.ring_of s i ≡ Some r → (k.ring r).held ≡ None → state ≡ Running

-- where the endpoint's ring points to, its state apart
pub record IsBound (k m : Known) (s i r : ℕ) : Type 0 where
  pub states : m.endpoint_state ≡ k.endpoint_state
  pub ring_of : m.ring_of ≡ put_pair k.ring_of s i (Some r)
  pub held : (m.ring r).held ≡ None → (k.ring r).held ≡ None
  pub others : (q : ℕ) → q ≢ r → (m.ring q).held ≡ (k.ring q).held

pub record IsMoved (k m : Known) (r : ℕ) : Type 0 where
  pub states : m.endpoint_state ≡ k.endpoint_state
  pub ring_of : m.ring_of ≡ k.ring_of
  pub held : (m.ring r).held ≡ None → (k.ring r).held ≡ None
  pub others : (q : ℕ) → q ≢ r → (m.ring q).held ≡ (k.ring q).held

pub is_off_of : (e : EndpointState) → e ≡ Off → is_off e ≡ true
is_off_of e off = ap is_off off

pub on_is : (e : EndpointState) → e ≢ Off → is_off e ≡ false
on_is o on = grind arith

module _ (h : Header) where
  set_rest : (k : Known) (r : ℕ) (t : Spot) → ((set_to h k r t).endpoint_state ≡ k.endpoint_state) × ((set_to h k r t).ring_of ≡ k.ring_of)
  unfolding set_to on_ring
  set_rest k r t = (refl, refl)

  target_is : (k : Known) (r : ℕ) (o : Option Spot) → IsMoved k (moved_to h k r o) r
  unfolding moved_to set_to
  target_is k r o = grind (arith, set_rest, none-some, ring_here, on_ring, number, ring_elsewhere)

  pub pointed_off : (k : Known) (s i p r : ℕ) (cycle : Bool) → is_off (k.endpoint_state s i) ≡ true → ring_having h p ≡ Some r → IsBound k (pointed h k s i p cycle) s i r
  unfolding pointed bound_to moved
  pointed_off k s i p r cycle off at = search (rules, cond-true, is_off, bound_to, ring_having, moved, target_is, target, shape_of)

  pub pointed_on : (k : Known) (s i p r : ℕ) (cycle : Bool) → is_off (k.endpoint_state s i) ≡ false → k.ring_of s i ≡ Some r → IsMoved k (pointed h k s i p cycle) r
  unfolding pointed moved
  pointed_on k s i p r cycle on at = search (rules, cond-false, is_off, bound_to, ring_having, moved, target_is, target, shape_of)

-- the endpoint's state is set then
pub record IsPlaced (m l : Known) (s i : ℕ) (state : EndpointState) : Type 0 where
  pub states : l.endpoint_state ≡ put_pair m.endpoint_state s i state
  pub ring_of : l.ring_of ≡ m.ring_of
  pub ring : l.ring ≡ m.ring

pub placed_is : (h : Header) (c : Command) (k : Known) (s i p : ℕ) (cycle : Bool) (state : EndpointState) → IsPlaced (pointed h k s i p cycle) (changed_by h c k (Places s i p cycle state)) s i state
unfolding changed_by in_state
placed_is h c k s i p cycle state = record { states = refl; ring_of = refl; ring = refl }

module _ (k m l : Known) (s i r : ℕ) (state : EndpointState) (e : EndpointsStand k) (placed : IsPlaced m l s i state) where
  state_at : (t j : ℕ) → m.endpoint_state ≡ k.endpoint_state → (t ≡ s → j ≡ i → ⊥) → l.endpoint_state t j ≡ k.endpoint_state t j
  state_at t j same other = search (rules, at_pair)

  state_here : (t j : ℕ) → t ≡ s → j ≡ i → l.endpoint_state t j ≡ state
  state_here t j a b = ap (λ f. f t j) placed.states ∙ at_pair (λ x. x ≡ state) m.endpoint_state s i state t j (λ x y. refl) (λ other. absurd (other a b))

  held_at : (q : ℕ) → (l.ring q).held ≡ (m.ring q).held
  held_at q = ap (λ f. (f q).held) placed.ring

  -- ---- on the ring that it had

  pub moved_stands : IsMoved k m r → k.ring_of s i ≡ Some r → state ≢ Off → ((k.ring r).held ≡ None → state ≡ Running) → EndpointsStand l
  moved_stands moved at on runs = search (rules, one_stands, state_here, state_at, held_at)

  -- ---- on a free ring

  module _ (bound : IsBound k m s i r) (never : (t j : ℕ) → k.ring_of t j ≢ Some r) (slot : s ≢ 0) (index : i ≢ 0) (on : state ≢ Off) (starts : state ≡ Running) where
    ring_other : (t j : ℕ) → (t ≡ s → j ≡ i → ⊥) → l.ring_of t j ≡ k.ring_of t j
    ring_other t j other = search (rules, at_pair)

    ring_here_is : (t j : ℕ) → t ≡ s → j ≡ i → l.ring_of t j ≡ Some r
    ring_here_is t j a b = ap (λ f. f t j) (placed.ring_of ∙ bound.ring_of) ∙ at_pair (λ x. x ≡ Some r) k.ring_of s i (Some r) t j (λ x y. refl) (λ other. absurd (other a b))

    -- another endpoint has another ring
    apart : (t j q : ℕ) → (t ≡ s → j ≡ i → ⊥) → l.ring_of t j ≡ Some q → q ≢ r
    apart t j q other at same = never t j (sym (ring_other t j other) ∙ at ∙ ap (λ n. Some n) same)

    not_first : (t j : ℕ) → (t ≡ 0) ⊎ (j ≡ 0) → t ≡ s → j ≡ i → ⊥
    not_first t j zero a b = elim zero [ inl first ↦ slot (sym a ∙ first) | inr second ↦ index (sym b ∙ second) ]

    pub bound_stands : EndpointsStand l
    bound_stands = record {
      no_endpoint = λ t j zero. ring_other t j (not_first t j zero) ∙ e.no_endpoint t j zero;
      off = λ t j none.
          elim (same_pair t j s i) [
            | inl here ↦ absurd (none-some r (sym none ∙ ring_here_is t j here.0 here.1))
            | inr other ↦ state_at t j bound.states other ∙ e.off t j (sym (ring_other t j other) ∙ none)
          ];
      on = λ t j q at off.
          elim (same_pair t j s i) [
            | inl here ↦ on (sym (state_here t j here.0 here.1) ∙ off)
            | inr other ↦ e.on t j q (sym (ring_other t j other) ∙ at) (sym (state_at t j bound.states other) ∙ off)
          ];
      one_endpoint = λ t j u n q a b.
          elim (same_pair t j s i) [
            | inl here ↦ elim (same_pair u n s i) [
              | inl also ↦ (here.0 ∙ sym also.0, here.1 ∙ sym also.1)
              | inr other ↦ absurd (apart u n q other b (same_Some q r (sym a ∙ ring_here_is t j here.0 here.1)))
            ]
            | inr first ↦ elim (same_pair u n s i) [
              | inl here ↦ absurd (apart t j q first a (same_Some q r (sym b ∙ ring_here_is u n here.0 here.1)))
              | inr second ↦ e.one_endpoint t j u n q (sym (ring_other t j first) ∙ a) (sym (ring_other u n second) ∙ b)
            ]
          ];
      open_runs = (grind (arith, same_pair, state_here, state_at, ring_other, held_at));
    }

pub some_ring : (o : Option ℕ) → (o ≡ None) ⊎ ((r : ℕ) × (o ≡ Some r))
some_ring None = inl refl
some_ring (Some r) = inr (r, refl)

-- an endpoint is placed where it may
pub place_stands : (h : Header) (c : Command) (k : Known) (s i p : ℕ) (cycle : Bool) (state : EndpointState) → EndpointsKeep h k → EndpointsStand k → MayPlace h k s i p state →
    EndpointsStand (changed_by h c k (Places s i p cycle state))
place_stands h c k s i p cycle state keeps e may =
    let l : Known = changed_by h c k (Places s i p cycle state) in
    let m : Known = pointed h k s i p cycle in
    let placed : IsPlaced m l s i state = placed_is h c k s i p cycle state in
    elim (some_ring (k.ring_of s i)) [
      | inl none ↦
          let off : is_off (k.endpoint_state s i) ≡ true = is_off_of (k.endpoint_state s i) (e.off s i none) in
          let new = may.binds off in
          bound_stands k m l s i new.ring state e placed (pointed_off h k s i p new.ring cycle off new.named) new.free may.slot may.index may.on (may.starts off)
      | inr has ↦ moved_stands k m l s i has.0 state e placed (pointed_on h k s i p has.0 cycle (on_is (k.endpoint_state s i) (e.on s i has.0 has.1)) has.1) has.1 may.on (may.runs has.0 has.1)
    ]
