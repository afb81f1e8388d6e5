-- The block that an event names by a value, and what it names where more is known of the ring
use Rattle.safety.proofs.Words.{rank, rank_most, named_spot-Some, ◌==◌, Take, names, ◌≡◌, ◌+◌, ◌-◌, ◌<◌, ◌≤◌, ◌∙◌, ℕ, suc, zero, Bool, true, false, find, Some, arith, refl, sym, ap, inl, inr, cases_Bool, cases_lt, cond-true, cond-false, none-some, same_Some, option_map, range_with_len, Block, pointer, has_event_data, has_value, Spot, Data, number, is_spot, Shape, RingView, declared, floor_number, named, named_data, data_at, RingKeeps, IsAhead, named_ahead, Header, shape_of, Known, spot_named, find_first, named_by}

-- ---- the first number of a range that passes

pub record IsFirst (test : ℕ → Bool) (a n q : ℕ) : Type 0 where
  pub from : a ≤ q
  pub within : q < a + n
  pub passes : test q ≡ true
  pub first : (p : ℕ) → a ≤ p → p < q → test p ≡ false

first_found : (test : ℕ → Bool) (a n q : ℕ) → find test (range_with_len a n) ≡ Some q → IsFirst test a n q
first_found test a zero q at = absurd (none-some q at)
first_found test a (suc n) q at = grind (arith, cases_Bool (test a), cond-true, cond-false, same_Some, cases_lt, first_found test (a + 1) n q)

-- ---- an event, by its value or its address

-- a position holds this value, and is the first one from the floor on that does
abbrev pub is_valued : RingView → ℕ → ℕ → Bool
is_valued v value q = has_value value (data_at v.queue q)

abbrev pub IsValued : RingView → ℕ → ℕ → Type 0
IsValued v value p = IsFirst (is_valued v value) (floor_number v) (declared v - floor_number v) p

pub names_value : (b : Block) (take : Take) → has_event_data b ≡ true → names b take ≡ has_value (pointer b) take.value
unfolding names
names_value b take tells = cond-true (has_event_data b) _ _ tells

pub names_address : (b : Block) (take : Take) → has_event_data b ≡ false → names b take ≡ (take.address == pointer b)
unfolding names
names_address b take tells = cond-false (has_event_data b) _ _ tells

module _ (shape : Shape) (v : RingView) (b : Block) where
  pub named_value : (t : Spot) → has_event_data b ≡ true → named_by shape v b ≡ Some t → (p : ℕ) × (t ≡ Data p) × IsValued v (pointer b) p
  unfolding named_data
  named_value t tells at = grind (arith, none-some, same_Some, first_found)

  pub by_value : (p : ℕ) → has_event_data b ≡ true → IsValued v (pointer b) p → named_by shape v b ≡ Some (Data p)
  unfolding named_data
  by_value p tells f = cond-true (has_event_data b) _ _ tells ∙ ap (λ o. option_map Data o) (find_first (is_valued v (pointer b)) (floor_number v) (declared v - floor_number v) p f.from f.within f.passes f.first)

  pub by_address : has_event_data b ≡ false → named_by shape v b ≡ named shape v (pointer b)
  by_address tells = cond-false (has_event_data b) _ _ tells

module _ (h : Header) (k : Known) (b : Block) (r : ℕ) (t : Spot) where
  pub spot_ahead : RingKeeps (shape_of h r) k.memory (k.ring r) → spot_named h k b r ≡ Some t → IsAhead (shape_of h r) (k.ring r) t
  unfolding spot_named
  spot_ahead keeps at = elim (cases_Bool (has_event_data b)) [
    | inl tells ↦
        let f = named_value (shape_of h r) (k.ring r) b t tells at in
        record { is_spot = ap (λ u. is_spot (shape_of h r) u) f.1; from = omega (arith, f.2.from, ap number f.1) }
    | inr tells ↦ named_ahead (shape_of h r) k.memory (k.ring r) keeps (pointer b) t (sym (by_address (shape_of h r) (k.ring r) b tells) ∙ at)
  ]

  pub spot_reached : RingKeeps (shape_of h r) k.memory (k.ring r) → spot_named h k b r ≡ Some t → rank (k.ring r).floor ≤ rank t
  unfolding spot_named named
  spot_reached keeps at = elim (cases_Bool (has_event_data b)) [
    | inl tells ↦ let f = named_value (shape_of h r) (k.ring r) b t tells at in omega (arith, f.2.from, ap rank f.1, rank_most (k.ring r).floor)
    | inr tells ↦ (named_spot-Some (shape_of h r) (k.ring r).floor (declared (k.ring r)) (pointer b) t keeps.is_spot (sym (by_address (shape_of h r) (k.ring r) b tells) ∙ at)).from
  ]

  -- it names the same block where the floor is the same, no less is declared, and the values up to that block are the same
  pub names_still : (l : Known) → (l.ring r).floor ≡ (k.ring r).floor → declared (k.ring r) ≤ declared (l.ring r) →
      (has_event_data b ≡ true → (q : ℕ) → floor_number (k.ring r) ≤ q → q ≤ number t → data_at (l.ring r).queue q ≡ data_at (k.ring r).queue q) →
      (named (shape_of h r) (k.ring r) (pointer b) ≡ Some t → named (shape_of h r) (l.ring r) (pointer b) ≡ Some t) → spot_named h k b r ≡ Some t → spot_named h l b r ≡ Some t
  unfolding spot_named
  names_still l floor more same by_name at = elim (cases_Bool (has_event_data b)) [
    | inl tells ↦
        let f = named_value (shape_of h r) (k.ring r) b t tells at in
        grind (arith, by_value, same tells)
    | inr tells ↦ by_address (shape_of h r) (l.ring r) b tells ∙ by_name (sym (by_address (shape_of h r) (k.ring r) b tells) ∙ at)
  ]

-- with the same floor and the same queue it names the same
pub spot_same : (h : Header) (k l : Known) (b : Block) (r : ℕ) → (l.ring r).floor ≡ (k.ring r).floor → (l.ring r).queue ≡ (k.ring r).queue → spot_named h l b r ≡ spot_named h k b r
unfolding spot_named named named_data
spot_same h k l b r floor queue = rw (floor, queue) refl
