-- A word of one ring gives nothing of another
use Rattle.safety.proofs.Words.{◌≡◌, ◌≢◌, ◌==◌, ◌∙◌, ℕ, true, arith, sym, ap, inl, inr, eqb-true, or_cases, is_inside, RingView, Writes, changed, gives, gives_crossing, gives_is, gives_crossing_is, GivesMore, address_inside, link_address_inside, Header, IsHeader, shape_of, IsDriverRing, rules}
use Rattle.safety.proofs.HeaderRings.Headers.{found_in, together, clash_apart, shape_is, header_parts, ring_shape}

module _ (h : Header) (is : IsHeader h) (r c : ℕ) (d : IsDriverRing h r) (g : IsDriverRing h c) (other : r ≢ c) where
  pub not_in_both : (x : ℕ) → is_inside (shape_of h r) x ≡ true → is_inside (shape_of h c) x ≡ true → ⊥
  not_in_both x here there =
      let mine = found_in (λ q. q.id == r) h.rings d.ring d.found in
      let yours = found_in (λ q. q.id == c) h.rings g.ring g.found in
      let one : is_inside d.ring.shape x ≡ true = ap (λ s. is_inside s x) (sym (shape_is h r d.ring d.found)) ∙ here in
      let two : is_inside g.ring.shape x ≡ true = ap (λ s. is_inside s x) (sym (shape_is h c g.ring g.found)) ∙ there in
      search (rules, together, header_parts, eqb-true, clash_apart)

  pub written_elsewhere : (v : RingView) (a w : ℕ) → is_inside (shape_of h c) a ≡ true → GivesMore (changed (shape_of h r) v (Writes a w)) v
  written_elsewhere v a w inside = record {
    given = λ p now.
        elim (or_cases (v.given p) (gives (shape_of h r) v.floor p a w) now) [
          | inl was ↦ was
          | inr new ↦
              absurd (not_in_both a
              (ap (λ y. is_inside (shape_of h r) y) (gives_is (shape_of h r) v.floor p a w new).at ∙ address_inside (shape_of h r) (ring_shape h is r d).is p 12 (omega arith)) inside)
        ];
    crossed = λ q now.
        elim (or_cases (v.crossed q) (gives_crossing (shape_of h r) v.floor q a w) now) [
          | inl was ↦ was
          | inr new ↦
              let writes = gives_crossing_is (shape_of h r) v.floor q a w new in
              absurd (not_in_both a
              (ap (λ y. is_inside (shape_of h r) y) writes.at ∙ link_address_inside (shape_of h r) (ring_shape h is r d).is q 12 writes.due.crossing (omega arith)) inside)
        ];
  }
