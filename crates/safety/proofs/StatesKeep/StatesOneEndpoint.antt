-- Only one endpoint and its ring change: what is kept of states is kept
use Rattle.safety.proofs.LowerLaws.{arith, ◌≡◌, ◌≢◌, ◌⊎◌, ◌∙◌, ℕ, true, None, Some, sym, ap, subst, inl, inr, rules, same_Some, none-some, Off, Running, Header, Known, EndpointsStand, StopsNext, SeenStand}

-- that of slot s with index i, which has ring r
pub record OneEndpoint (k l : Known) (s i r : ℕ) : Type 0 where
  pub ring_of : l.ring_of ≡ k.ring_of
  pub bound : k.ring_of s i ≡ Some r
  pub on : l.endpoint_state s i ≢ Off
  pub others : (t j : ℕ) → (t ≡ s → j ≡ i → ⊥) → l.endpoint_state t j ≡ k.endpoint_state t j
  pub held : (q : ℕ) → q ≢ r → (l.ring q).held ≡ (k.ring q).held
  pub runs : (l.ring r).held ≡ None → l.endpoint_state s i ≡ Running

-- and no Stopped event but its own
pub record OneSeen (h : Header) (k l : Known) (s i r : ℕ) : Type 0 where
  pub others : (t j : ℕ) → (t ≡ s → j ≡ i → ⊥) → l.stop_seen t j ≡ k.stop_seen t j
  pub here : l.stop_seen s i ≡ true → StopsNext h k s i × (l.endpoint_state s i ≡ Running) × ((l.ring r).held ≢ None)

pub same_pair : (t j s i : ℕ) → ((t ≡ s) × (j ≡ i)) ⊎ (t ≡ s → j ≡ i → ⊥)
same_pair t j s i = search rules

module _ (k l : Known) (s i r : ℕ) (e : EndpointsStand k) (one : OneEndpoint k l s i r) where
  was : (t j q : ℕ) → l.ring_of t j ≡ Some q → k.ring_of t j ≡ Some q
  was t j q at = ap (λ f. f t j) (sym one.ring_of) ∙ at

  -- another endpoint has another ring
  other_ring : (t j q : ℕ) → (t ≡ s → j ≡ i → ⊥) → l.ring_of t j ≡ Some q → q ≢ r
  other_ring t j q other at same = search (rules, e.one_endpoint, was)

  pub one_stands : EndpointsStand l
  one_stands = search (rules, same_pair, none-some, was, same_Some, other_ring)

  pub one_seen : (h : Header) → SeenStand h k → OneSeen h k l s i r → ((t j : ℕ) → StopsNext h k t j → StopsNext h l t j) → SeenStand h l
  one_seen h seen own stops = record {
    command = λ t j is.
        elim (same_pair t j s i) [
          | inl here ↦
              let own_seen = own.here (ap (λ n. l.stop_seen s n) (sym here.1) ∙ ap (λ n. l.stop_seen n j) (sym here.0) ∙ is) in
              stops t j (subst (λ n. StopsNext h k n j) (sym here.0) (subst (λ n. StopsNext h k s n) (sym here.1) own_seen.0))
          | inr other ↦ stops t j (seen.command t j (sym (own.others t j other) ∙ is))
        ];
    runs = λ t j is.
        elim (same_pair t j s i) [
          | inl here ↦
              let own_seen = own.here (ap (λ n. l.stop_seen s n) (sym here.1) ∙ ap (λ n. l.stop_seen n j) (sym here.0) ∙ is) in
              ap (λ n. l.endpoint_state n j) here.0 ∙ ap (λ n. l.endpoint_state s n) here.1 ∙ own_seen.1
          | inr other ↦ one.others t j other ∙ seen.runs t j (sym (own.others t j other) ∙ is)
        ];
    held = (grind (arith, same_pair, same_Some, other_ring));
  }
