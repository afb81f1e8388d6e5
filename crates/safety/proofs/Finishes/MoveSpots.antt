-- The spot to which a ring may be moved is the one that its pointer and cycle state name
use Rattle.safety.proofs.LowerLaws.{[], ◌≡◌, ◌+◌, ◌-◌, ◌<◌, ◌≤◌, ◌&&◌, if◌then◌else◌, ◌∷◌, ◌∙◌, ℕ, suc, zero, Bool, true, false, List, Some, find, arith, sym, ap, subst, inl, inr, eqb-true, rules, way_without, range_with_len, flat_map, cases_Bool, cases_lt, cases_eq, and_parts, cond-true, cond-false, false≢true, All-get_or, Any-from_list_any, Spot, Data, Link, Shape, IsSpot, is_spot, rank, number, spot_address, spot_cycle, IsShape, RingView, declared, floor_number, is_way_given, is_border, is_target, spots_between, target, is_reached, may_move_to, is_move, RingKeeps, rank_least, rank_most, same_spot, found_is, move_reached, way_crossed}
use Rattle.segments.proofs.MoveTargets.{between}

-- among the spots of a range of numbers one that passes is found, if there is one
found_between : (test : Spot → Bool) (a n : ℕ) (u : Spot) → a ≤ number u → number u < a + n → test u ≡ true →
    (t : Spot) × (find test (flat_map (λ q. Link q ∷ Data q ∷ []) (range_with_len a n)) ≡ Some t)
found_between test a zero u low high passes = absurd (omega arith)
found_between test a (suc n) u low high passes =
    let rest : List Spot = flat_map (λ q. Link q ∷ Data q ∷ []) (range_with_len (a + 1) n) in
    elim (cases_Bool (test (Link a))) [
      | inl link ↦ (Link a, cond-true (test (Link a)) (Some (Link a)) (find test (Data a ∷ rest)) link)
      | inr no_link ↦
          elim (cases_Bool (test (Data a))) [
            | inl data_at ↦
                (Data a, cond-false (test (Link a)) (Some (Link a)) (find test (Data a ∷ rest)) no_link ∙ cond-true (test (Data a)) (Some (Data a)) (find test rest) data_at)
            | inr no_data ↦
                let later = found_between test (a + 1) n u (above u low passes no_link no_data) (omega arith) passes in (
                  later.0,
                  cond-false (test (Link a)) (Some (Link a)) (find test (Data a ∷ rest)) no_link
                      ∙ cond-false (test (Data a)) (Some (Data a)) (find test rest) no_data ∙ later.1,
                )
          ]
    ]
  where
    above : (u : Spot) → a ≤ number u → test u ≡ true → test (Link a) ≡ false → test (Data a) ≡ false → a + 1 ≤ number u
    above (Link q) low passes link data_at =
        elim (cases_eq a q) [ inl same ↦ absurd (false≢true (sym link ∙ ap (λ n. test (Link n)) same ∙ passes)) | inr other ↦ omega arith ]
    above (Data q) low passes link data_at =
        elim (cases_eq a q) [ inl same ↦ absurd (false≢true (sym data_at ∙ ap (λ n. test (Data n)) same ∙ passes)) | inr other ↦ omega arith ]

-- the spot to which a ring may be moved
pub record MoveSpot (shape : Shape) (v : RingView) (address : ℕ) (cycle : Bool) (least most : ℕ) : Type 0 where
  pub spot : Spot
  pub named : target shape v address cycle ≡ Some spot
  pub is_spot : IsSpot shape spot
  pub at : spot_address shape spot ≡ address
  pub cycle_is : spot_cycle shape spot ≡ (if cycle then 1 else 0)
  pub from : least ≤ number spot
  pub to : number spot ≤ most
  pub border : is_border v.lengths 0 (number spot) ≡ true
  pub way : (q : ℕ) → spot ≡ Data q → is_way_given shape v q ≡ true

-- a pointer and a cycle state stand at a spot
record IsTarget (shape : Shape) (address : ℕ) (cycle : Bool) (t : Spot) : Type 0 where
  pub spot : IsSpot shape t
  pub at : spot_address shape t ≡ address
  pub cycle_is : spot_cycle shape t ≡ (if cycle then 1 else 0)

-- the way to a block up to which all is given is given
way_reached : (shape : Shape) (v : RingView) (t : Spot) → IsSpot shape t → floor_number v ≤ number t → is_reached shape v t ≡ true → (q : ℕ) → t ≡ Data q → is_way_given shape v q ≡ true
way_reached shape v t is later reached q e = search (rules, is_spot, rank, way_crossed, move_reached, way_without)

module _ (shape : Shape) (is : IsShape shape) (memory : ℕ → ℕ) (v : RingView) (k : RingKeeps shape memory v) where
  -- the spot that passes is the one that is found
  module _ (address : ℕ) (cycle : Bool) (u : Spot) (here : IsTarget shape address cycle u) (from : floor_number v ≤ number u) (to : number u ≤ declared v) where
    found_spot : (t : Spot) → target shape v address cycle ≡ Some t → t ≡ u
    unfolding target is_target
    found_spot t at =
        let also = found_is (is_target shape address cycle) (λ x. (floor_number v ≤ number x) × (number x ≤ declared v)) (spots_between (floor_number v) (declared v)) t at
        (between (floor_number v) (declared v)) in
        let there : IsTarget shape address cycle t = search (rules, and_parts, is_spot, spot_address, spot_cycle, eqb-true) in
        search (rules, cases_lt, same_spot, rank_least, rank_most)

    named_spot : is_target shape address cycle u ≡ true → target shape v address cycle ≡ Some u
    unfolding target spots_between
    named_spot passes =
        let found = found_between (is_target shape address cycle) (floor_number v) (declared v + 1 - floor_number v) u from (omega arith) passes in
        found.1 ∙ ap (λ x. Some x) (found_spot found.0 found.1)

  -- where a move passes its test, its spot is the one that is named
  pub move_spot : (address : ℕ) (cycle : Bool) (least most : ℕ) → floor_number v ≤ least → most ≤ declared v → is_move shape v address cycle least most ≡ true →
      MoveSpot shape v address cycle least most
  unfolding is_move may_move_to is_target
  move_spot address cycle least most low high moves =
      let any = Any-from_list_any (λ u. is_target shape address cycle u && may_move_to shape v u) (spots_between least most) moves in
      let u : Spot = any.1 in
      let passes = and_parts (is_target shape address cycle u) (may_move_to shape v u) any.4 in
      let may = and_parts (is_border v.lengths 0 (number u)) (is_reached shape v u) passes.1 in
      let bounds : (least ≤ number u) × (number u ≤ most) =
      subst (λ (x : Spot). (least ≤ number x) × (number x ≤ most)) any.3
      (All-get_or (λ x. (least ≤ number x) × (number x ≤ most)) (spots_between least most) any.0 u any.2 (between least most)) in
      let here : IsTarget shape address cycle u = search (rules, and_parts, is_spot, spot_address, spot_cycle, eqb-true) in
      record {
        spot = u;
        named = named_spot address cycle u here (omega arith) (omega arith) passes.0;
        is_spot = here.spot;
        at = here.at;
        cycle_is = here.cycle_is;
        from = bounds.0;
        to = bounds.1;
        border = may.0;
        way = way_reached shape v u here.spot (omega arith) may.1;
      }
