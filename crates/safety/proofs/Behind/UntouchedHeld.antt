-- The success of a command that doesn't touch an endpoint leaves its state, its ring, whether that must be moved, and where it is held
use Rattle.safety.proofs.MiddleLaws.{typed, [], ◌≡◌, ◌≢◌, ◌==◌, ◌&&◌, ◌∷◌, ◌∙◌, ℕ, Bool, false, List, Some, refl, sym, ap, inl, inr, eq-eqb, list_any, cases_Bool, false≢true, and_from, or_parts, ceiling, Command, EndpointState, Change, Places, Stops, is_off, Header, IsHeader, shape_of, Known, pointed, disabled, in_state, held_at_ceiling, changed_by, changed_by_all, EndpointsKeep, rules, ring_elsewhere, change_keeps, EndpointsStand, MayPlace, pointed_off, pointed_on, is_off_of, some_ring, EndpointStays, untouched_stays, Fits, FitAll, change_stands}
use Rattle.commands.specs.Changes.{touches}

-- the endpoint of slot s at index i is in its state, and its ring is held as before
pub record EndpointHolds (k l : Known) (s i : ℕ) : Type 0 where
  pub state : l.endpoint_state s i ≡ k.endpoint_state s i
  pub ring_of : l.ring_of s i ≡ k.ring_of s i
  pub must_move : l.must_move s i ≡ k.must_move s i
  pub held : (r : ℕ) → k.ring_of s i ≡ Some r → (l.ring r).held ≡ (k.ring r).held

pub same_holds : (k : Known) (s i : ℕ) → EndpointHolds k k s i
same_holds k s i = record { state = refl; ring_of = refl; must_move = refl; held = λ r at. refl }

pub both_hold : (k l m : Known) (s i : ℕ) → EndpointHolds k l s i → EndpointHolds l m s i → EndpointHolds k m s i
both_hold k l m s i a b = record { state = b.state ∙ a.state; ring_of = b.ring_of ∙ a.ring_of; must_move = b.must_move ∙ a.must_move; held = λ r at. b.held r (a.ring_of ∙ at) ∙ a.held r at }

module _ (h : Header) (s i : ℕ) where
  module _ (k : Known) (keeps : EndpointsKeep h k) (e : EndpointsStand k) (r : ℕ) (at : k.ring_of s i ≡ Some r) where
    -- another endpoint has another ring
    others_ring : (t j q : ℕ) → (s == t && i == j) ≡ false → k.ring_of t j ≡ Some q → r ≢ q
    others_ring t j q apart there same = search (rules, e.one_endpoint, false≢true, and_from, eq-eqb)

    pointed_held : (t j p : ℕ) (cycle : Bool) (state : EndpointState) → MayPlace h k t j p state → (s == t && i == j) ≡ false → ((pointed h k t j p cycle).ring r).held ≡ (k.ring r).held
    pointed_held t j p cycle state may apart =
        elim (cases_Bool (is_off (k.endpoint_state t j))) [
          | inl off ↦
              let new = may.binds off in
              (pointed_off h k t j p new.ring cycle off new.named).others r (λ same. new.free s i (at ∙ ap (λ n. Some n) same))
          | inr on ↦
              elim (some_ring (k.ring_of t j)) [
                | inl none ↦ absurd (false≢true (sym on ∙ is_off_of (k.endpoint_state t j) (e.off t j none)))
                | inr has ↦
                    (pointed_on h k t j p has.0 cycle on has.1).others r (others_ring t j has.0 apart has.1)
              ]
        ]

    untouched_held : (c : Command) (change : Change) → Fits h k change → touches s i change ≡ false → ((changed_by h c k change).ring r).held ≡ (k.ring r).held
    unfolding changed_by disabled typed in_state held_at_ceiling
    untouched_held c (Places t j p cycle state) fits apart = search (rules, pointed_held)
    untouched_held c (Stops t j) fits apart = search (rules, in_state, ring_elsewhere, ceiling, shape_of, others_ring)
    untouched_held c _ fits apart = refl

  untouched_holds : (c : Command) (k : Known) (change : Change) → EndpointsKeep h k → EndpointsStand k → Fits h k change → touches s i change ≡ false → EndpointHolds k (changed_by h c k change) s i
  untouched_holds c k change keeps e fits apart =
      let stays : EndpointStays k (changed_by h c k change) s i = untouched_stays h s i c k change apart in
      record { state = stays.state; ring_of = stays.ring_of; must_move = stays.must_move; held = λ r at. untouched_held k keeps e r at c change fits apart }

  -- one change after the other
  pub changes_hold : IsHeader h → (c : Command) (k : Known) (all : List Change) → EndpointsKeep h k → EndpointsStand k → FitAll h c k all → list_any (touches s i) all ≡ false →
      EndpointHolds k (changed_by_all h c k all) s i
  unfolding changed_by_all
  changes_hold is c k [] keeps e fit apart = same_holds k s i
  changes_hold is c k (change ∷ rest) keeps e fit apart =
      let l : Known = changed_by h c k change in
      let parts = or_parts (touches s i change) (list_any (touches s i) rest) apart in
      both_hold k l (changed_by_all h c l rest) s i (untouched_holds c k change keeps e fit.0 parts.0)
      (changes_hold is c l rest (change_keeps h is c k change keeps) (change_stands h c k change keeps e fit.0) fit.1 parts.1)
