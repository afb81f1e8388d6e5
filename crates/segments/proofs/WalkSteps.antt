-- One step of the walk: at each spot up to the first that isn't given a block stands that leads to the next spot, and there none
use Rattle.segments.proofs.UpperLaws.{IsRestored, ◌≡◌, ◌≢◌, ◌+◌, ◌*◌, ◌^◌, ◌%◌, ◌<◌, ◌≤◌, ◌∙◌, ℕ, true, false, [], Some, slice_get, arith, refl, sym, ap, inl, inr, cases_lt, get_or, eq-eqb, ne_eqb, eqb-true, option_map, cases_Bool, cases_eq, cond-true, cond-false, or_parts, and_parts, not, not-true, ◌&&◌, not-false, false≢true, false_from_ne_true, slice_get-get_or, mod-eq_of_lt, Block, Evt, is_set, aligned, block_at, word, cycle, kind, pointer, with_cycle, is_link, kind-with_cycle, Spot, Data, Link, Shape, address_of, cycle_of, is_crossing, link_address, link_target, toggles, IsSpot, rank, number, after, next, spot_address, spot_cycle, IsShape, RingView, floor_number, given_count, is_wrong_link, RingKeeps, block_under, is_shown, behind, laid, standing, rules, link_ends, address_ends, cycle_of_bit, crosses, crossed_link, link_address_is, link_target-crossed, cycle_of-crossed, rank_most, next_is_spot, spot_address-after, spot_cycle-after, due_from, crossing_due_from, given_below, given_count_stops, step_is, step_from, given_count_near, floor_given, kept_cycle, crossed_due}

-- what stands at a spot that is read
abbrev pub ReadAs : Shape → (ℕ → ℕ) → RingView → Spot → Type 0
ReadAs shape memory v (Data p) =
    (p < given_count shape v) × (is_link (kind (block_under memory (standing shape (Data p)))) ≡ false) × (laid shape v p ≡ Some (block_under memory (standing shape (Data p))))
ReadAs shape memory v (Link q) = (v.crossed q ≡ true) × (is_link (kind (block_under memory (standing shape (Link q)))) ≡ true)

pub record IsRead (shape : Shape) (memory : ℕ → ℕ) (v : RingView) (s : Spot) : Type 0 where
  pub shown : is_shown memory (standing shape s) ≡ true
  pub on : behind (standing shape s) (block_under memory (standing shape s)) ≡ standing shape (next shape s)
  pub stands : ReadAs shape memory v s

-- the spot at which the controller waits
pub record Waits (shape : Shape) (memory : ℕ → ℕ) (v : RingView) (t : Spot) : Type 0 where
  pub is_spot : IsSpot shape t
  pub at : number t ≡ given_count shape v
  pub from : rank v.floor ≤ rank t
  pub hidden : is_shown memory (standing shape t) ≡ false
  pub before : (s : Spot) → IsSpot shape s → floor_number v ≤ number s → rank s < rank t → IsRead shape memory v s

module _ (shape : Shape) (is : IsShape shape) (other : shape.kind ≡ Evt → ⊥) (memory : ℕ → ℕ) (v : RingView) (k : RingKeeps shape memory v) (restored : IsRestored v) where
  spot_ends : (t : Spot) → IsSpot shape t → spot_address shape t < 2 ^ 64
  spot_ends (Data p) spot = omega (arith, address_ends shape is p)
  spot_ends (Link q) spot =
      let found = crossed_link shape q spot in
      omega (arith, link_ends shape is found.0 (crosses shape q found.0 found.1).link, link_address_is shape q found.0 found.1)

  -- a block that is given
  data_read : (p : ℕ) → floor_number v ≤ p → p < given_count shape v → IsRead shape memory v (Data p)
  data_read p low high =
      let given = (step_is shape v p (given_below shape v p high)).0 in
      let none : Block = record { w = [] } in
      let d : Block = get_or v.queue p none in
      let declared : slice_get v.queue p ≡ Some d = slice_get-get_or v.queue p none (k.given_declared p given) in
      let stands : block_at memory (address_of shape p) ≡ with_cycle d (cycle_of shape p) = k.kept p d low given (restored p) declared in
      let no_link : is_link (kind (block_at memory (address_of shape p))) ≡ false =
      ap (λ b. is_link (kind b)) stands ∙ ap (λ n. is_link n) (kind-with_cycle d (cycle_of shape p) (cycle_of_bit shape p)) ∙ k.blocks p d declared in
      let near : address_of shape p + 16 ≡ spot_address shape (after shape p) = sym (spot_address-after shape is other p) in
      let low_end : spot_address shape (after shape p) < 2 ^ 64 = spot_ends (after shape p) (next_is_spot shape (Data p)) in
      record {
        shown = search (rules, eq-eqb, cycle, block_at, address_of, cycle_of, kept_cycle);
        on = search (rules, cond-false, is_link, kind, block_at, address_of, mod-eq_of_lt, spot_cycle-after);
        stands = (high, no_link, ap (λ o. option_map (λ b. with_cycle b (cycle_of shape p)) o) declared ∙ ap (λ b. Some b) (sym stands));
      }

  -- a Link that is given
  leads : (q i : ℕ) (b : Block) → is_wrong_link shape i b ≡ false →
      (aligned (pointer b) ≡ link_target shape i) × (is_link (kind b) ≡ true) × (is_set (word b 3) 1 ≡ toggles shape i)
  unfolding is_wrong_link
  leads q i b right = search (rules, or_parts, eqb-true, not-false)

  link_read : (q : ℕ) → floor_number v ≤ q → is_crossing shape q ≡ true → v.crossed q ≡ true → IsRead shape memory v (Link q)
  link_read q low crossing given =
      grind (
        arith,
        crossed_link,
        crossed_due,
        leads,
        eq-eqb,
        cond-true,
        link_target-crossed,
        cycle_of-crossed,
        crossed_link shape q crossing,
        k.kept_link q (crossed_link shape q crossing).0 (crossed_due shape is memory v k q low given) given (crossed_link shape q crossing).1,
        block_at memory (link_address shape q),
        leads q (crossed_link shape q crossing).0 (block_at memory (link_address shape q)) (k.kept_link q (crossed_link shape q crossing).0 (crossed_due shape is memory v k q low given) given (crossed_link shape q crossing).1).0,
      )

  hides : (s : Spot) → memory (spot_address shape s + 12) % 2 ≢ spot_cycle shape s → is_shown memory (standing shape s) ≡ false
  hides s not_yet = search (rules, ne_eqb, cycle, block_under, standing, spot_cycle, spot_address)

  -- the first position that isn't given, with the way to it
  waits_at_data : rank v.floor ≤ 2 * given_count shape v + 1 → (is_crossing shape (given_count shape v) ≡ true → v.crossed (given_count shape v) ≡ true) → Waits shape memory v (Data (given_count shape v))
  waits_at_data from way =
      let n : ℕ = given_count shape v in
      let near = given_count_near shape is memory v k in
      let missing = false_from_ne_true (v.given n) (λ g. false≢true (sym (given_count_stops shape v near) ∙ step_from shape v n g way)) in
      let due = due_from shape v.floor n (floor_given shape is memory v k) near in
      record { is_spot = refl; at = refl; from = from; hidden = hides (Data n) (k.not_yet n due missing); before = before n refl way }
    where
      before : (n : ℕ) → n ≡ given_count shape v → (is_crossing shape n ≡ true → v.crossed n ≡ true) → (s : Spot) → IsSpot shape s → floor_number v ≤ number s →
          rank s < 2 * n + 1 → IsRead shape memory v s
      before n at way (Data p) spot low below = data_read p low (omega arith)
      before n at way (Link q) spot low below = link_read q low spot (search (rules, cases_eq q n, way, step_is shape v q, given_below shape v q))

  -- or the Link to it, which isn't given
  waits_at_link : rank v.floor ≤ 2 * given_count shape v → is_crossing shape (given_count shape v) ≡ true → v.crossed (given_count shape v) ≡ false → Waits shape memory v (Link (given_count shape v))
  waits_at_link from crossing missing =
      let n : ℕ = given_count shape v in
      let due = crossing_due_from shape v.floor n (record { crossing = crossing; from = floor_given shape is memory v k; within = inl (given_count_near shape is memory v k) }) in
      record { is_spot = crossing; at = refl; from = from; hidden = hides (Link n) (k.not_yet_link n due missing); before = before n refl }
    where
      before : (n : ℕ) → n ≡ given_count shape v → (s : Spot) → IsSpot shape s → floor_number v ≤ number s → rank s < 2 * n → IsRead shape memory v s
      before n at (Data p) spot low below = data_read p low (omega arith)
      before n at (Link q) spot low below = link_read q low spot ((step_is shape v q (given_below shape v q (omega arith))).1 spot)

  pub waits : (t : Spot) × Waits shape memory v t
  waits =
      let from : rank v.floor ≤ 2 * given_count shape v + 1 = omega (arith, rank_most v.floor, floor_given shape is memory v k) in
      elim (cases_lt (2 * given_count shape v) (rank v.floor)) [
        | inl passed ↦ (Data (given_count shape v), waits_at_data from (λ crossing. k.passed_links (given_count shape v) crossing passed))
        | inr ahead ↦ elim (cases_Bool (is_crossing shape (given_count shape v) && not (v.crossed (given_count shape v)))) [
          | inl missing ↦
              let parts = and_parts (is_crossing shape (given_count shape v)) (not (v.crossed (given_count shape v))) missing in
              (Link (given_count shape v), waits_at_link ahead parts.0 (not-true (v.crossed (given_count shape v)) parts.1))
          | inr there ↦ (Data (given_count shape v), waits_at_data from (λ crossing. search (rules, cases_Bool (v.crossed (given_count shape v)))))
        ]
      ]
