-- One ring behind a look: a Link that is followed, a block that is taken
use Rattle.safety.proofs.Words.{[], ◌≡◌, ◌+◌, ◌-◌, ◌<◌, ◌≤◌, if◌then◌else◌, ◌∷◌, ◌++◌, ◌∙◌, ℕ, suc, zero, Bool, true, false, not, List, length, drop, map, Option, None, Some, option_and_then, arith, refl, sym, ap, length-append, eqb-true, eq-eqb, rules, way_without, range_with_len, false≢true, cond-true, cond-false, or_parts, or_from, or_right, not_from_true, not-false, and_from, map-range_with_len_more, Evt, Take, take_at, take_of, data_at, data_value, is_event_data, kind-with_cycle, cycle_of_bit, Block, is_set, aligned, block_at, kind, pointer, same_words, with_cycle, word, is_link, Data, Link, Shape, address_of, cycle_of, is_crossing, link_target, toggles, number, after, IsShape, DeclaredBlock, declared_at, is_border, RingView, floor_number, ceiling, is_way_given, is_wrong_link, same, cycle_of-crossed, link_target-crossed, next_is_spot, next_later, spot_address-after, spot_cycle-after, rank_least, RingEvent, Took, takes_of, next_take, was_placed, is_as_declared, is_right_place, is_out_of_order, has_other_words, Newest, RingState, RingMatches, Unreported, is_step_given}
use Rattle.safety.proofs.NoHarm.AtSpots.{Takeable, Crossable}
use Rattle.safety.proofs.NoHarm.NoWait.{declared_some, end_is}

-- ---- a Link that leads on

same_is : (a b : Bool) → same a b ≡ true → a ≡ b
same_is true true h = refl
same_is true false h = absurd (false≢true h)
same_is false true h = absurd (false≢true h)
same_is false false h = refl

pub record LeadsOn (shape : Shape) (i : ℕ) (b : Block) : Type 0 where
  pub target : aligned (pointer b) ≡ link_target shape i
  pub is_link : is_link (kind b) ≡ true
  pub toggles_is : is_set (word b 3) 1 ≡ toggles shape i

pub leads_on : (shape : Shape) (i : ℕ) (b : Block) → is_wrong_link shape i b ≡ false → LeadsOn shape i b
unfolding is_wrong_link
leads_on shape i b right = search (rules, or_parts, eqb-true, not-false, same_is)

pub way_crossed : (shape : Shape) (v : RingView) (q : ℕ) → v.crossed q ≡ true → is_way_given shape v q ≡ true
unfolding is_way_given
way_crossed shape v q given = or_right (not (is_crossing shape q)) (v.crossed q) given

same_number : (p q : ℕ) → Data p ≡ Data q → p ≡ q
same_number p q e = cc

module _ (shape : Shape) (is : IsShape shape) (memory : ℕ → ℕ) (v : RingView) (s : RingState) (q : ℕ) where
  -- the pointer has followed the Link on the way to position q
  pub crossed_matches : RingMatches shape v s (Link q) → (c : Crossable shape memory v q) (p n : ℕ) → p ≡ link_target shape c.link →
      n ≡ (if toggles shape c.link then 1 - s.cycle else s.cycle) → RingMatches shape v (record s { pointer = p; cycle = n }) (Data q)
  crossed_matches m c p n leads turned = search (rules, cycle_of-crossed, link_target-crossed, same_number, way_crossed)

  pub crossed_unreported : Unreported shape v s (Link q) → (p n : ℕ) → Unreported shape v (record s { pointer = p; cycle = n }) (Data q)
  crossed_unreported u p n = record { takes = u.takes; most = u.most }

-- ---- a block that is taken

pub number_after : (shape : Shape) (p : ℕ) → number (after shape p) ≡ p + 1
number_after shape p = search (rules, cond-true, cond-false)

way_after : (shape : Shape) (v : RingView) (p q : ℕ) → after shape p ≡ Data q → is_way_given shape v q ≡ true
way_after shape v p q e = search (rules, is_crossing, cond-true, same_number, cond-false, is_way_given, way_without)

placed_begins : (shape : Shape) (v : RingView) (n : ℕ) (events : List RingEvent) → Newest shape v n events → was_placed events ≡ true → is_border v.lengths 0 n ≡ true
unfolding was_placed
placed_begins shape v n o newest placed = grind (arith, false≢true)

next_behind : (shape : Shape) (a : ℕ) (b : Block) (d : Option DeclaredBlock) (older : List RingEvent) → next_take shape (Took a b d ∷ older) ≡ next_take shape older + 1
unfolding next_take
next_behind shape a b d older = refl

right_place : (first : Bool) (d : DeclaredBlock) → (first ≡ true → d.begins ≡ true) → is_right_place first (Some d) ≡ true
unfolding is_right_place
right_place true d begins = begins refl
right_place false d begins = refl

order_kept : (shape : Shape) (a : ℕ) (b : Block) (d : Option DeclaredBlock) (older : List RingEvent) → is_right_place (was_placed older) d ≡ true →
    address_of shape (next_take shape older) ≡ a → is_out_of_order shape older ≡ false → is_out_of_order shape (Took a b d ∷ older) ≡ false
unfolding is_out_of_order
order_kept shape a b d older right here rest = search (rules, or_from, not_from_true, eq-eqb)

pub words_itself : (b : Block) → same_words b b ≡ true
words_itself b = search (rules, and_from, eq-eqb)

words_kept : (shape : Shape) (a : ℕ) (b : Block) (d : DeclaredBlock) (older : List RingEvent) → b ≡ with_cycle d.block (cycle_of shape (next_take shape older)) →
    has_other_words shape older ≡ false → has_other_words shape (Took a b (Some d) ∷ older) ≡ false
unfolding has_other_words is_as_declared
words_kept shape a b d older is rest = search (rules, or_from, not_from_true, same_words, with_cycle, d.block, cycle_of, next_take, words_itself)

drop_more : {X : Type 0} (n : ℕ) (xs : List X) (y : X) → n ≤ length xs → drop n (xs ++ y ∷ []) ≡ drop n xs ++ y ∷ []
drop_more zero xs y h = refl
drop_more (suc n) [] y h = absurd (omega arith)
drop_more (suc n) (x ∷ xs) y h = drop_more n xs y (omega arith)

takes_more : (a : ℕ) (b : Block) (d : Option DeclaredBlock) (older : List RingEvent) → takes_of (Took a b d ∷ older) ≡ takes_of older ++ take_of a b ∷ []
unfolding takes_of
takes_more a b d older = refl

-- what an event may tell of a block is what it may tell of the block that is declared
value_taken : (d : Block) (c : ℕ) → c < 2 → data_value (with_cycle d c) ≡ data_value d
value_taken d c bit = ap (λ n. if is_event_data n then Some (pointer d) else None) (kind-with_cycle d c bit)

take_is : (shape : Shape) (memory : ℕ → ℕ) (v : RingView) (q a : ℕ) (b : Block) → Takeable shape memory v q → a ≡ address_of shape q → b ≡ block_at memory (address_of shape q) → take_of a b ≡ take_at shape v.queue q
unfolding take_of data_at
take_is shape memory v q a b t here found = λ j. let take : Take = record { address = here j; value = (ap data_value (found ∙ t.stands) ∙ value_taken t.block (cycle_of shape q) (cycle_of_bit shape q) ∙ sym (ap (λ o. option_and_then data_value o) t.queued)) j } in take

module _ (shape : Shape) (is : IsShape shape) (other : shape.kind ≡ Evt → ⊥) (memory : ℕ → ℕ) (v : RingView) (s : RingState) (q : ℕ) where
  -- the block of position q was taken
  pub taken_matches : (m : RingMatches shape v s (Data q)) (t : Takeable shape memory v q) (p : ℕ) (b : Block) → p ≡ address_of shape q + 16 →
      b ≡ block_at memory (address_of shape q) → q + 1 ≤ ceiling shape v → (is_border v.lengths 0 (q + 1) ≡ false → is_step_given shape v (q + 1) ≡ true) →
      RingMatches shape v (record s { pointer = p; events = Took s.pointer b (declared_at v.queue v.lengths q) ∷ s.events }) (after shape q)
  taken_matches m t p b behind found high inside = search (rules, declared_some, number_after, next_is_spot, spot_address-after, spot_cycle-after, next_later, way_after, next_behind, end_is, order_kept, right_place, placed_begins, words_kept)

  pub taken_unreported : RingMatches shape v s (Data q) → Unreported shape v s (Data q) → Takeable shape memory v q → (p : ℕ) (b : Block) (d : Option DeclaredBlock) → b ≡ block_at memory (address_of shape q) →
      Unreported shape v (record s { pointer = p; events = Took s.pointer b d ∷ s.events }) (after shape q)
  taken_unreported m u t p b d found =
      let at : number (after shape q) ≡ q + 1 = number_after shape q in
      let low : floor_number v ≤ q = omega (arith, m.reached, rank_least v.floor) in
      let more : number (after shape q) - floor_number v ≡ q - floor_number v + 1 = omega arith in
      let grown : length (takes_of (Took s.pointer b d ∷ s.events)) ≡ length (takes_of s.events) + 1 = ap length (takes_more s.pointer b d s.events) ∙ length-append (takes_of s.events) (take_of s.pointer b ∷ []) in
      record {
        takes = ap (λ l. drop s.reported l) (takes_more s.pointer b d s.events) ∙ drop_more s.reported (takes_of s.events) (take_of s.pointer b) u.most
            ∙ ap (λ l. l ++ take_of s.pointer b ∷ []) u.takes
            ∙ ap (λ a. map (take_at shape v.queue) (range_with_len (floor_number v) (q - floor_number v)) ++ a ∷ []) (take_is shape memory v q s.pointer b t m.pointer found)
            ∙ sym (map-range_with_len_more (take_at shape v.queue) (floor_number v) (q - floor_number v) q (omega arith))
            ∙ ap (λ n. map (take_at shape v.queue) (range_with_len (floor_number v) n)) (sym more);
        most = omega (arith, u.most);
      }
