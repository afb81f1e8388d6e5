-- A change that doesn't touch an endpoint leaves its state, which ring it has, and whether that must be moved
use Rattle.safety.proofs.Words.{typed, ◌≡◌, ◌==◌, ◌&&◌, ◌∙◌, ℕ, Bool, false, Option, None, Some, refl, cond_both, cond-false, put_pair, Command, EndpointState, Off, Stopped, Change, Disables, Places, Stops, Resets, is_off, Header, ring_having, Known, on_ring, set_to, bound_to, moved_to, moved, pointed, disabled, in_state, held_at_ceiling, changed_by, arith}
use Rattle.commands.specs.Changes.{touches}

pub record EndpointStays (k l : Known) (s i : ℕ) : Type 0 where
  pub state : l.endpoint_state s i ≡ k.endpoint_state s i
  pub ring_of : l.ring_of s i ≡ k.ring_of s i
  pub must_move : l.must_move s i ≡ k.must_move s i

module _ (h : Header) (s i : ℕ) where
  stays : (k : Known) → EndpointStays k k s i
  stays k = record { state = refl; ring_of = refl; must_move = refl }

  moved_stays : (k : Known) (o : Option ℕ) (p : ℕ) (cycle : Bool) → EndpointStays k (moved h k o p cycle) s i
  unfolding moved moved_to set_to on_ring
  moved_stays k None p cycle = stays k
  moved_stays k (Some r) p cycle = grind arith

  placed_stays : (k : Known) (t j : ℕ) (o : Option ℕ) (p : ℕ) (cycle : Bool) → (s == t && i == j) ≡ false → EndpointStays k (bound_to h k t j o p cycle) s i
  unfolding bound_to
  placed_stays k t j None p cycle apart = stays k
  placed_stays k t j (Some r) p cycle apart =
      let moves : EndpointStays k (moved h k (Some r) p cycle) s i = moved_stays k (Some r) p cycle in
      record { state = moves.state; ring_of = cond-false (s == t && i == j) (Some r) (k.ring_of s i) apart; must_move = moves.must_move }

  pointed_stays : (k : Known) (t j p : ℕ) (cycle : Bool) → (s == t && i == j) ≡ false → EndpointStays k (pointed h k t j p cycle) s i
  unfolding pointed
  pointed_stays k t j p cycle apart =
      cond_both (is_off (k.endpoint_state t j)) (bound_to h k t j (ring_having h p) p cycle) (moved h k (k.ring_of t j) p cycle) (λ l. EndpointStays k l s i)
      (λ off. placed_stays k t j (ring_having h p) p cycle apart) (λ on. moved_stays k (k.ring_of t j) p cycle)

  in_state_stays : (k : Known) (t j : ℕ) (e : EndpointState) → (s == t && i == j) ≡ false → EndpointStays k (in_state h k t j e) s i
  unfolding in_state
  in_state_stays k t j e apart = record { state = cond-false (s == t && i == j) e (k.endpoint_state s i) apart; ring_of = refl; must_move = refl }

  both_stay : (k l m : Known) → EndpointStays k l s i → EndpointStays l m s i → EndpointStays k m s i
  both_stay k l m a b = record { state = b.state ∙ a.state; ring_of = b.ring_of ∙ a.ring_of; must_move = b.must_move ∙ a.must_move }

  must_stays : (k l : Known) (t j : ℕ) (must : Bool) → (s == t && i == j) ≡ false → EndpointStays k l s i →
      EndpointStays k (let m : Known = record l { must_move = put_pair k.must_move t j must } in m) s i
  must_stays k l t j must apart a = record { state = a.state; ring_of = a.ring_of; must_move = cond-false (s == t && i == j) must (k.must_move s i) apart }

  pub untouched_stays : (c : Command) (k : Known) (change : Change) → touches s i change ≡ false → EndpointStays k (changed_by h c k change) s i
  unfolding changed_by disabled typed held_at_ceiling on_ring
  untouched_stays c k (Disables t which) apart = record { state = cond-false (s == t && which i) Off (k.endpoint_state s i) apart; ring_of = cond-false (s == t && which i) None (k.ring_of s i) apart; must_move = refl }
  untouched_stays c k (Places t j p cycle e) apart =
      let l : Known = pointed h k t j p cycle in
      must_stays k (in_state h l t j e) t j false apart (both_stay k l (in_state h l t j e) (pointed_stays k t j p cycle apart) (in_state_stays l t j e apart))
  untouched_stays c k (Stops t j) apart = both_stay k (in_state h k t j Stopped) (held_at_ceiling h (in_state h k t j Stopped) (k.ring_of t j)) (in_state_stays k t j Stopped apart) (grind arith)
  untouched_stays c k (Resets t j) apart = in_state_stays k t j Stopped apart
  untouched_stays c k _ apart = record { state = refl; ring_of = refl; must_move = refl }
