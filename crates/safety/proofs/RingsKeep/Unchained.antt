-- A Link that loses its Chain bit leads on as before, with the Cycle bit that it has: what the rules keep of each ring stays
use Rattle.safety.proofs.Words.{◌≡◌, ◌≢◌, ◌+◌, ◌/◌, ◌%◌, ◌<◌, ◌||◌, ◌∙◌, ℕ, Bool, true, false, [], ◌∷◌, refl, sym, ap, subst, inl, inr, arith, rules, cases_eq, false≢true, put, put_here, put_elsewhere, block_at, Shape, IsShape, address_of, is_crossing, link_address, is_inside, RingView, Writes, changed, gives, gives_crossing, gives_is, gives_crossing_is, crossing_due_is, crossed_link, crosses, link_address_is, address_inside, link_address_inside, RingKeeps, fun_ext, slice_index, length, links, is_wrong_link, add-zero, place_not_link, links_apart, place_below, SameBlock, block_same, address_of-place, place_of}
use Rattle.safety.proofs.RingsKeep.KeptWords.{KeepsCycles}

-- the word is of none of the ring's data places, and of its Links only a control word
pub record IsNoOther (shape : Shape) (a : ℕ) : Type 0 where
  pub blocks : (p b : ℕ) → b < 16 → address_of shape p + b ≢ a
  pub links : (q b : ℕ) → is_crossing shape q ≡ true → b < 16 → link_address shape q + b ≡ a → b ≡ 12

-- the word is another ring's
pub outside_is_none : (shape : Shape) → IsShape shape → (a : ℕ) → is_inside shape a ≡ false → IsNoOther shape a
outside_is_none shape is a outside = record {
  blocks = λ p b low here. false≢true (sym outside ∙ ap (λ x. is_inside shape x) (sym here) ∙ address_inside shape is p b low);
  links = λ q b crossing low here. absurd (false≢true (sym outside ∙ ap (λ x. is_inside shape x) (sym here) ∙ link_address_inside shape is q b crossing low));
}

-- it is the control word of one of its Links
pub control_is_none : (shape : Shape) → IsShape shape → (a j : ℕ) → j < length (links shape) → a ≡ slice_index (links shape) j + 12 → IsNoOther shape a
control_is_none shape is a j inside at = record {
  blocks = λ p b low here.
      let place = address_of-place shape p in
      place_not_link shape is (place_of shape p) j (place_below shape is p) inside (omega (arith, at, here, place)) (omega (arith, at, here, place));
  links = λ q b crossing low here.
      let over = crossed_link shape q crossing in
      let there = link_address_is shape q over.0 over.1 in
      let same : over.0 ≡ j = links_apart shape is over.0 j (crosses shape q over.0 over.1).link inside (omega (arith, at, here, there)) (omega (arith, at, here, there)) in
      let one : slice_index (links shape) over.0 ≡ slice_index (links shape) j = ap (λ i. slice_index (links shape) i) same in
      omega (arith, at, here, there, one);
}

-- a word without its Chain bit
pub record Cleared (old new : ℕ) : Type 0 where
  pub bit : old / 16 % 2 ≡ 1
  pub less : old ≡ new + 16

module _ (old new : ℕ) (cleared : Cleared old new) where
  pub cycle_stays : new % 2 ≡ old % 2
  cycle_stays = omega (arith, cleared.bit, cleared.less)

  toggle_stays : new / 2 % 2 ≡ old / 2 % 2
  toggle_stays = omega (arith, cleared.bit, cleared.less)

  type_stays : new / 1024 % 64 ≡ old / 1024 % 64
  type_stays = omega (arith, cleared.bit, cleared.less)

  leads_same : (shape : Shape) (i x y z : ℕ) → is_wrong_link shape i (record { w = x ∷ y ∷ z ∷ new ∷ [] }) ≡ is_wrong_link shape i (record { w = x ∷ y ∷ z ∷ old ∷ [] })
  unfolding is_wrong_link
  leads_same shape i x y z = search (rules, toggle_stays, type_stays)

module _ (shape : Shape) (memory : ℕ → ℕ) (v : RingView) (k : RingKeeps shape memory v) (a w : ℕ) (other : IsNoOther shape a) (cleared : Cleared (memory a) w) where
  abbrev now : ℕ → ℕ
  now = put memory a w

  pub cleared_keeps_cycles : KeepsCycles shape v a w
  cleared_keeps_cycles =
      record {
        blocks = λ p due given below at. absurd (other.blocks p 12 (omega arith) (sym at));
        links = λ q due given at.
            let link = crossed_link shape q (crossing_due_is shape v.floor q due).crossing in
            cycle_stays (memory a) w cleared ∙ ap (λ x. memory x % 2) at ∙ (k.kept_link q link.0 due given link.1).1;
      }

  block_stays : (p : ℕ) → SameBlock memory now (address_of shape p)
  block_stays p b low = put_elsewhere memory a w (address_of shape p + b) (other.blocks p b low)

  -- a word of a Link, but for the control word
  link_word_stays : (q b : ℕ) → is_crossing shape q ≡ true → b < 12 → now (link_address shape q + b) ≡ memory (link_address shape q + b)
  link_word_stays q b crossing low =
      put_elsewhere memory a w (link_address shape q + b) (λ here. let is = other.links q b crossing (omega arith) here in omega arith)

  bit_stays : (x : ℕ) → now x % 2 ≡ memory x % 2
  bit_stays x = elim (cases_eq x a) [
    | inl here ↦ ap (λ y. now y % 2) here ∙ ap (λ y. y % 2) (put_here memory a w) ∙ cycle_stays (memory a) w cleared ∙ ap (λ y. memory y % 2) (sym here)
    | inr there ↦ ap (λ y. y % 2) (put_elsewhere memory a w x there)
  ]

  link_stays : (q i : ℕ) → is_crossing shape q ≡ true → is_wrong_link shape i (block_at now (link_address shape q)) ≡ is_wrong_link shape i (block_at memory (link_address shape q))
  link_stays q i crossing =
      let at : ℕ = link_address shape q in
      let first : now at ≡ memory at = ap now (sym (add-zero at)) ∙ link_word_stays q 0 crossing (omega arith) ∙ ap memory (add-zero at) in
      let second = link_word_stays q 4 crossing (omega arith) in
      let third = link_word_stays q 8 crossing (omega arith) in
      elim (cases_eq (at + 12) a) [
        | inl here ↦
            let last : now (at + 12) ≡ w = ap now here ∙ put_here memory a w in
            let was : memory (at + 12) ≡ memory a = ap memory here in
            rw (first, second, third, last, was) (leads_same (memory a) w cleared shape i (memory at) (memory (at + 4)) (memory (at + 8)))
        | inr there ↦
            let last = put_elsewhere memory a w (at + 12) there in
            rw (first, second, third, last) refl
      ]

  or_given : (g f : Bool) → (g ≡ false → f ≡ true → ⊥) → (g || f) ≡ g
  or_given true f none = refl
  or_given false true none = absurd (none refl refl)
  or_given false false none = refl

  given_same : (p : ℕ) → (v.given p || gives shape v.floor p a w) ≡ v.given p
  given_same p = or_given (v.given p) (gives shape v.floor p a w) (λ fresh gives_it. other.blocks p 12 (omega arith) (sym (gives_is shape v.floor p a w gives_it).at))

  crossed_same : (q : ℕ) → (v.crossed q || gives_crossing shape v.floor q a w) ≡ v.crossed q
  crossed_same q =
      or_given (v.crossed q) (gives_crossing shape v.floor q a w) (λ fresh gives_it.
      let g = gives_crossing_is shape v.floor q a w gives_it in
      k.not_yet_link q g.is_due fresh (ap (λ x. memory x % 2) (sym g.at) ∙ sym (cycle_stays (memory a) w cleared) ∙ g.cycle))

  view_same : changed shape v (Writes a w) ≡ v
  view_same =
      ap {B = RingView} (λ g. record v { given = g; crossed = λ q. v.crossed q || gives_crossing shape v.floor q a w }) (fun_ext given_same)
      ∙ ap {B = RingView} (λ c. record v { crossed = c }) (fun_ext crossed_same)

  keeps_now : RingKeeps shape now v
  keeps_now = record {
    is_spot = k.is_spot;
    room = k.room;
    passed = k.passed;
    passed_links = k.passed_links;
    given_within = k.given_within;
    given_declared = k.given_declared;
    crossed_is_crossing = k.crossed_is_crossing;
    crossed_within = k.crossed_within;
    kept = λ p d low given free at. block_same memory now (address_of shape p) (block_stays p) ∙ k.kept p d low given free at;
    not_yet = λ p due given is. k.not_yet p due given (sym (bit_stays (address_of shape p + 12)) ∙ is);
    kept_link = λ q i due given at.
        let was = k.kept_link q i due given at in
        (link_stays q i (crossing_due_is shape v.floor q due).crossing ∙ was.0, bit_stays (link_address shape q + 12) ∙ was.1);
    not_yet_link = λ q due given is. k.not_yet_link q due given (sym (bit_stays (link_address shape q + 12)) ∙ is);
    whole = k.whole;
    lengths = k.lengths;
    descriptors = k.descriptors;
    blocks = k.blocks;
    held = k.held;
    free_given = k.free_given;
    free_shows = λ p low below free. bit_stays (address_of shape p + 12) ∙ k.free_shows p low below free;
    open_restored = k.open_restored;
  }

  pub cleared_keeps : RingKeeps shape now (changed shape v (Writes a w))
  cleared_keeps = subst (λ u. RingKeeps shape now u) (sym view_same) keeps_now
