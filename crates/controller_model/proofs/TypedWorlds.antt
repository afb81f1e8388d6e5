-- Endpoints get their types one after another
use Rattle.controller_model.proofs.Words.{rules, ◌≡◌, ◌<◌, ◌==◌, ◌&&◌, ◌||◌, ◌∙◌, if◌then◌else◌, ℕ, Bool, false, sym, ap, arith, ne_eqb, cases_eq, Header, World, Kept, typed, Follows, FollowsEndpoints}

module _ (w : World) (s : ℕ) (isochronous : ℕ → Bool) where
  pub typed_none : typed w s (λ i. false) isochronous ≡ w
  unfolding typed
  typed_none = search rules

  pub typed_same : (p q : ℕ → Bool) → ((i : ℕ) → p i ≡ q i) → typed w s p isochronous ≡ typed w s q isochronous
  typed_same p q same = ap (λ (t : ℕ → Bool). typed w s t isochronous) (λ k i. same i k)

  either : (b x y t u : Bool) → (if b && y then t else if b && x then t else u) ≡ (if b && (x || y) then t else u)
  either b x y t u = grind arith

  pub typed_twice : (p q : ℕ → Bool) → typed (typed w s p isochronous) s q isochronous ≡ typed w s (λ i. p i || q i) isochronous
  unfolding typed
  typed_twice p q = search (rules, either)

  -- the type of one endpoint
  one_type : (k t j : ℕ) → (if t == s && j == k then isochronous k else w.isochronous t j) ≡ (if t == s && j == k then isochronous j else w.isochronous t j)
  one_type k t j = search (rules, cases_eq, ne_eqb)

  pub typed_one : (k : ℕ) → typed w s (λ i. i == k) (λ i. isochronous k) ≡ typed w s (λ i. i == k) isochronous
  unfolding typed
  typed_one k = search (rules, one_type)

-- only the endpoints below 32 matter
pub typed_below : (h : Header) (words : ℕ → ℕ) (k : Kept) (w : World) (s : ℕ) (isochronous p q : ℕ → Bool) → ((i : ℕ) → i < 32 → p i ≡ q i) →
    Follows h words k (typed w s p isochronous) → Follows h words k (typed w s q isochronous)
unfolding typed
typed_below h words k w s isochronous p q same f =
    let endpoints : FollowsEndpoints k.endpoints.items w.endpoint_state w.ring_of (typed w s q isochronous).isochronous = record {
      each = λ t j x below at.
          let old = f.endpoints.each t j x below at in
          (old.0, old.1, ap (λ b. if t == s && b then isochronous j else w.isochronous t j) (sym (same j below)) ∙ old.2);
      no_more = f.endpoints.no_more;
      low = f.endpoints.low;
    } in
    assumption (endpoints)
