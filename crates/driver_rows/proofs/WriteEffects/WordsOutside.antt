-- By the write of a word outside a ring nothing is known of the ring that wasn't
use Rattle.driver_rows.proofs.Words.{rules, ◌≡◌, ℕ, false, ap, sym, ◌∙◌, arith, false≢true, Shape, IsShape, is_inside, RingView, Writes, changed, gives, gives_is, gives_crossing_is, address_inside, link_address_inside, false_unless, or_false}

module _ (shape : Shape) (allowed : IsShape shape) (a : ℕ) (outside : is_inside shape a ≡ false) (v : RingView) (w : ℕ) where
  no_gives : (p : ℕ) → gives shape v.floor p a w ≡ false
  no_gives p = false_unless (gives shape v.floor p a w) (λ e.
      false≢true (sym outside ∙ ap (λ y. is_inside shape y) (gives_is shape v.floor p a w e).at ∙ address_inside shape allowed p 12 (omega arith)))

  pub nothing_changed : changed shape v (Writes a w) ≡ v
  nothing_changed = search (rules, no_gives, or_false, false_unless, gives_crossing_is, link_address_inside)
