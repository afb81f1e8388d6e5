-- A write keeps the rules of a ring: it changes no leased block or Link, and what it gives stands as it must
use Rattle.segments.proofs.LowerLaws.{rules, ◌&&◌, ◌==◌, not, nat_lt, lt-ltb, eq-eqb, eqb-true, and_from, false_from_ne_true, ceiling, flips_passed, unrestored, ◌≡◌, ◌≢◌, ◌+◌, ◌-◌, ◌%◌, ◌<◌, ◌≤◌, ◌⊎◌, ◌||◌, ◌∙◌, ℕ, Bool, true, false, Some, slice_get, unwrap_or, arith, refl, sym, ap, inl, inr, leb-false, cases_eq, or_cases, or_parts, or_left, false≢true, not-false, All-contains, put, Block, block_at, with_cycle, Shape, address_of, cycle_of, link_crossed, link_address, overlap, RingView, Writes, changed, declared, floor_number, is_due, is_crossing_due, gives, gives_crossing, positions_given, crossings_given, leased_positions, leased_crossings, given_count, descriptor_length, is_declared_as, is_other_than_declared, is_not_declared, is_not_whole, is_wrong_link, link_of, leads_wrong, RingKeeps, MayWrite, MayHold, gives_is, gives_from, gives_crossing_is, gives_crossing_from, due_from, leased_position, leased_crossing, position_given, crossing_given, unrestored_position, none_passes_at, given_count_grows, ceiling_held, GivesMore, step_more, whole_more, put_here, put_elsewhere, SameBlock, same_apart, block_same, same_words_is, rank, Link, place_count, is_crossing, cases_option}

-- what is given then was given, or is given now
was_or_now : (x y : Bool) → (x || y) ≡ true → (x ≡ true) ⊎ ((x ≡ false) × (y ≡ true))
was_or_now x y h3 = search rules

module _ (shape : Shape) (memory : ℕ → ℕ) (v : RingView) (a w : ℕ) where
  abbrev after_write : RingView
  after_write = changed shape v (Writes a w)

  pub writes_more : GivesMore v (changed shape v (Writes a w))
  writes_more = record { given = λ p g. or_left (v.given p) (gives shape v.floor p a w) g; crossed = λ q g. or_left (v.crossed q) (gives_crossing shape v.floor q a w) g }

  -- with each write more is given
  pub given_count-writes : given_count shape v ≤ given_count shape (changed shape v (Writes a w))
  given_count-writes = given_count_grows shape v after_write (omega arith) (λ p h. step_more shape v after_write writes_more p h)

  -- what was given by this write is given by rule
  declared_as : (p : ℕ) (d : Block) → is_other_than_declared shape v memory a w p ≡ false → slice_get v.queue p ≡ Some d →
      block_at (put memory a w) (address_of shape p) ≡ with_cycle d (cycle_of shape p)
  unfolding is_other_than_declared is_declared_as
  declared_as p d same at = search (rules, same_words_is, put, address_of, cycle_of, is_declared_as, block_at, not-false, slice_get)

  leads_on : (q i : ℕ) → leads_wrong shape memory a w q ≡ false → link_crossed shape q ≡ Some i → is_wrong_link shape i (block_at (put memory a w) (link_address shape q)) ≡ false
  unfolding leads_wrong link_of
  leads_on q i right at = ap (λ o. is_wrong_link shape (unwrap_or o 0) (block_at (put memory a w) (link_address shape q))) (sym at) ∙ right

  is_below : (p : ℕ) → is_not_declared v p ≡ false → p < declared v
  unfolding is_not_declared
  is_below p h = leb-false (declared v) p h

  length_stays : (p : ℕ) → descriptor_length after_write p ≡ descriptor_length v p
  unfolding descriptor_length
  length_stays p = refl

  module _ (k : RingKeeps shape memory v) (may : MayWrite shape memory v a w) where
    block_kept : (p : ℕ) → floor_number v ≤ p → v.given p ≡ true → v.free p ≡ false → SameBlock memory (put memory a w) (address_of shape p)
    block_kept p low g kept =
        search (rules, same_apart, All-contains (λ p. overlap a 4 (address_of shape p) 16 ≡ false) (leased_positions shape v) p may.blocks, leased_position, due_from, k.given_within p g)

    link_kept : (q : ℕ) → is_crossing_due shape v.floor q ≡ true → v.crossed q ≡ true → SameBlock memory (put memory a w) (link_address shape q)
    link_kept q due g = search (rules, same_apart, link_address, All-contains, overlap, leased_crossings, leased_crossing, may.links)

    kept_by : (p : ℕ) (d : Block) → floor_number v ≤ p → (v.given p || gives shape v.floor p a w) ≡ true → v.free p ≡ false → slice_get v.queue p ≡ Some d →
        block_at (put memory a w) (address_of shape p) ≡ with_cycle d (cycle_of shape p)
    kept_by p d low g kept at = elim (was_or_now (v.given p) (gives shape v.floor p a w) g) [
      | inl was ↦ block_same memory (put memory a w) (address_of shape p) (block_kept p low was kept) ∙ k.kept p d low was kept at
      | inr now ↦ declared_as p d (All-contains (λ p. is_other_than_declared shape v memory a w p ≡ false) _ p may.as_declared (position_given shape v a w p now.0 now.1)) at
    ]

    not_yet_by : (p : ℕ) → is_due shape v.floor p ≡ true → (v.given p || gives shape v.floor p a w) ≡ false → put memory a w (address_of shape p + 12) % 2 ≢ cycle_of shape p
    not_yet_by p due g = search (rules, or_parts, gives, cases_eq, address_of, cycle_of, put_here, put, false≢true, gives_from, put_elsewhere)

    kept_link_by : (q i : ℕ) → is_crossing_due shape v.floor q ≡ true → (v.crossed q || gives_crossing shape v.floor q a w) ≡ true → link_crossed shape q ≡ Some i →
        (is_wrong_link shape i (block_at (put memory a w) (link_address shape q)) ≡ false) × (put memory a w (link_address shape q + 12) % 2 ≡ cycle_of shape (q - 1))
    kept_link_by q i due g at = elim (was_or_now (v.crossed q) (gives_crossing shape v.floor q a w) g) [
      | inl was ↦ search (rules, k.kept_link q i due was at, block_same memory (put memory a w) (link_address shape q) (link_kept q due was), link_kept q due was 12 (omega arith))
      | inr now ↦
          search (rules, gives_crossing_is shape v.floor q a w now.1, leads_on q i, All-contains (λ q. leads_wrong shape memory a w q ≡ false) (crossings_given shape v a w) q may.leads (crossing_given shape v a w q now.0 now.1), put_here memory a w)
    ]

    not_yet_link_by : (q : ℕ) → is_crossing_due shape v.floor q ≡ true → (v.crossed q || gives_crossing shape v.floor q a w) ≡ false → put memory a w (link_address shape q + 12) % 2 ≢ cycle_of shape (q - 1)
    not_yet_link_by q due g =
        search (rules, or_parts (v.crossed q) (gives_crossing shape v.floor q a w) g, cases_eq (link_address shape q + 12) a, put_here memory a w, put_elsewhere memory a w (link_address shape q + 12), false≢true, gives_crossing_from shape v.floor q w due, k.not_yet_link q due)

    -- the ceiling stays where something is free: the ring is held then
    ceiling_stays : (p : ℕ) → v.free p ≡ true → ceiling shape after_write ≡ ceiling shape v
    ceiling_stays p free = elim (cases_option v.held) [
      | inl none ↦ absurd (false≢true (sym (k.open_restored none p) ∙ free))
      | inr some ↦ ceiling_held shape after_write some.0 some.1 ∙ sym (ceiling_held shape v some.0 some.1)
    ]

    -- a write that would flip the Cycle bit of a free block below the ceiling is none
    same_bit : (p : ℕ) → is_due shape v.floor p ≡ true → p < ceiling shape v → v.free p ≡ true → address_of shape p + 12 ≡ a → w % 2 ≡ cycle_of shape p
    unfolding flips_passed
    same_bit p due below free here = search (rules, nat_lt, none_passes_at, unrestored_position, and_from, lt-ltb, eq-eqb, eqb-true, not-false, false_from_ne_true, false≢true, λ (p : ℕ). nat_lt p (ceiling shape v) && a == address_of shape p + 12 && not (w % 2 == cycle_of shape p), none_passes_at (λ (p : ℕ). nat_lt p (ceiling shape v) && a == address_of shape p + 12 && not (w % 2 == cycle_of shape p)) (unrestored shape v) p may.flips (unrestored_position shape v p due free))

    free_shows_by : (p : ℕ) → floor_number v ≤ p → p < ceiling shape after_write → v.free p ≡ true → put memory a w (address_of shape p + 12) % 2 ≡ cycle_of shape p
    free_shows_by p low high free =
        search (rules, ceiling_stays p free, cases_eq (address_of shape p + 12) a, put_here memory a w, same_bit p (due_from shape v.floor p low (k.given_within p (k.free_given p free))), put_elsewhere memory a w (address_of shape p + 12), k.free_shows p low)

    pub writes_keeps : RingKeeps shape (put memory a w) (changed shape v (Writes a w))
    writes_keeps =
        let passed : (p : ℕ) → p < floor_number v → after_write.given p ≡ true = λ p h. writes_more.given p (k.passed p h) in
        let links : (q : ℕ) → is_crossing shape q ≡ true → rank (Link q) < rank v.floor → after_write.crossed q ≡ true = λ q crossing h.
        writes_more.crossed q (k.passed_links q crossing h) in
        let within : (p : ℕ) → after_write.given p ≡ true → p < floor_number v + place_count shape = search (rules, or_cases, gives, gives_is) in
        let declared_by : (p : ℕ) → after_write.given p ≡ true → p < declared v = λ p g.
        search (rules, was_or_now (v.given p) (gives shape v.floor p a w) g, k.given_declared p, is_below p, All-contains (λ p. is_not_declared v p ≡ false) (positions_given shape v a w) p may.declared, position_given shape v a w p) in
        let crossing_by : (q : ℕ) → after_write.crossed q ≡ true → is_crossing shape q ≡ true = search (rules, or_cases, gives_crossing, gives_crossing_is) in
        let within_by : (q : ℕ) → after_write.crossed q ≡ true → (q < floor_number v + place_count shape) ⊎ ((q ≡ place_count shape) × (floor_number v ≡ 0)) = λ q g.
        search (rules, or_cases (v.crossed q) (gives_crossing shape v.floor q a w) g, k.crossed_within q, gives_crossing_is shape v.floor q a w) in
        let whole_by : (p : ℕ) → after_write.given p ≡ true → is_not_whole shape after_write p ≡ false = λ p g. whole_more shape v after_write p writes_more (length_stays p)
        (search (rules, was_or_now (v.given p) (gives shape v.floor p a w) g, k.whole p, All-contains (λ p. is_not_whole shape v p ≡ false) (positions_given shape v a w) p may.whole, position_given shape v a w p)) in
        let held_by : (m : ℕ) → v.held ≡ Some m → MayHold shape after_write m = λ m at. record { from = (k.held m at).from; to = omega (arith, (k.held m at).to, given_count-writes) } in
        let given_by : (p : ℕ) → v.free p ≡ true → after_write.given p ≡ true = λ p free. writes_more.given p (k.free_given p free) in
        search (rules, k, passed, links, within, declared_by, crossing_by, within_by, kept_by, not_yet_by, kept_link_by, not_yet_link_by, whole_by, held_by, given_by, free_shows_by)
