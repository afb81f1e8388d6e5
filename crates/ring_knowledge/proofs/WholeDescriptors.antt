-- Whether the further blocks of a descriptor are given, on a ring that a record follows
use Rattle.ring_knowledge.proofs.LowerLaws.{rules, false≢true, in_range_all, all_in_range, ◌≡◌, ◌+◌, ◌-◌, ◌<◌, ◌≤◌, ◌∙◌, ◌&&◌, ◌||◌, ℕ, List, Bool, true, false, Some, None, ap, sym, arith, slice_index, not, is_some, list_all, range_with_len, Shape, place_count, link_crossed, is_crossing, RingView, floor_number, is_step_given, is_way_given, is_not_whole, descriptor_length, link_of, is_crossing-from, RingRecord, is_noted, FollowsMarks, least_crossing, false_from_ne_true, link_of-crossed, place_of}

module _ (shape : Shape) (v : RingView) (r : RingRecord) (follows : FollowsMarks shape v r) where
  -- a position that isn't given
  pub step_not_given : (q : ℕ) → is_noted (floor_number v) (place_count shape) r.given.items (place_of shape q) q ≡ false → false ≡ is_step_given shape v q
  unfolding is_step_given
  step_not_given q none = sym (ap (λ b. b && is_way_given shape v q) (follows.given q ∙ none))

  -- one that is, with no Link on the way to it
  pub step_without_link : (q : ℕ) → is_noted (floor_number v) (place_count shape) r.given.items (place_of shape q) q ≡ true → link_crossed shape q ≡ None → true ≡ is_step_given shape v q
  unfolding is_step_given is_way_given
  step_without_link q given none = sym (ap (λ b. b && (not (is_crossing shape q) || v.crossed q)) (follows.given q ∙ given) ∙ ap (λ o. not (is_some o) || v.crossed q) none)

  -- and with the Link of a segment
  pub step_with_link : (q j : ℕ) → is_noted (floor_number v) (place_count shape) r.given.items (place_of shape q) q ≡ true → link_crossed shape q ≡ Some j →
      is_noted (least_crossing v) (place_count shape) r.crossed.items j q ≡ is_step_given shape v q
  unfolding is_step_given is_way_given
  step_with_link q j given over = search (rules, not, is_crossing, is_crossing-from, is_noted, least_crossing, place_count, link_of, link_of-crossed)

  abbrev length_of : ℕ → ℕ
  length_of p = slice_index r.lengths.items (p - r.forgotten)

  is_not_whole-is : (p : ℕ) → r.forgotten ≤ p → is_not_whole shape v p ≡ not (list_all (λ q. is_step_given shape v q) (range_with_len (p + 1) (length_of p - 1)))
  unfolding is_not_whole descriptor_length
  is_not_whole-is p kept = ap (λ n. not (list_all (λ q. is_step_given shape v q) (range_with_len (p + 1) (n - 1)))) (follows.begins p kept)

  -- all further steps of the descriptor are given
  pub whole : (p : ℕ) → r.forgotten ≤ p → ((o : ℕ) → 1 ≤ o → o < length_of p → is_step_given shape v (p + o) ≡ true) → true ≡ not (is_not_whole shape v p)
  whole p kept h =
      sym (ap not (is_not_whole-is p kept ∙ ap not (all_in_range (λ q. is_step_given shape v q) (p + 1) (length_of p - 1)
      (λ q low high. let at : p + (q - p) ≡ q = omega arith in rw at at (h (q - p) (omega arith) (omega arith))))))

  -- one of them isn't
  pub not_whole : (p o : ℕ) → r.forgotten ≤ p → 1 ≤ o → o < length_of p → is_step_given shape v (p + o) ≡ false → false ≡ not (is_not_whole shape v p)
  not_whole p o kept low high fails =
      sym (ap not (is_not_whole-is p kept ∙ ap not (false_from_ne_true (list_all (λ q. is_step_given shape v q) (range_with_len (p + 1) (length_of p - 1)))
      (λ all. false≢true (sym fails ∙ in_range_all (λ q. is_step_given shape v q) (p + 1) (length_of p - 1) all (p + o) (omega arith) (omega arith))))))

-- one note, of equal numbers
pub same_note : (least least' count count' i i' q : ℕ) (marks marks' : List Bool) → least ≡ least' → count ≡ count' → marks ≡ marks' → i ≡ i' →
    is_noted least count marks i q ≡ is_noted least' count' marks' i' q
same_note least least' count count' i i' q marks marks' e f g h = cc
