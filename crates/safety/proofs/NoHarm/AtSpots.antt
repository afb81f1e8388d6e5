-- What a controller finds at its pointer's spot on a ring of a rule-keeping driver: a block or a Link that was given, or the other cycle
use Rattle.safety.proofs.Words.{[], ◌≡◌, ◌≢◌, ◌+◌, ◌-◌, ◌%◌, ◌<◌, ◌≤◌, ◌∙◌, ℕ, true, false, Some, slice_get, arith, refl, sym, ap, inl, inr, get_or, cases_lt, false≢true, and_from, slice_get-get_or, Block, block_at, cycle, kind, with_cycle, is_link, cycle-with_cycle, Spot, Data, Link, Shape, place_count, address_of, cycle_of, link_crossed, link_address, IsSpot, rank, number, IsShape, RingView, declared, floor_number, is_crossing_due, given_count, is_way_given, is_step_given, is_wrong_link, RingKeeps, cycle_of_bit, crossed_link, rank_least, rank_most, due_from, crossing_due_from, given_count_stops, given_count_near}

-- where the pointer of a controller may stand
pub record MayStand (shape : Shape) (v : RingView) (t : Spot) : Type 0 where
  pub is_spot : IsSpot shape t
  pub reached : rank v.floor ≤ rank t
  pub below : number t ≤ given_count shape v
  pub way : (q : ℕ) → t ≡ Data q → is_way_given shape v q ≡ true

-- the block of position p is given, and stands in memory as declared
pub record Takeable (shape : Shape) (memory : ℕ → ℕ) (v : RingView) (q : ℕ) : Type 0 where
  pub given : v.given q ≡ true
  pub declared : q < declared v
  pub block : Block
  pub queued : slice_get v.queue q ≡ Some block
  pub stands : block_at memory (address_of shape q) ≡ with_cycle block (cycle_of shape q)
  pub cycle_is : cycle (block_at memory (address_of shape q)) ≡ cycle_of shape q
  pub no_link : is_link (kind block) ≡ false
  pub below : q + 1 ≤ given_count shape v

-- the Link on the way to position q is given, and leads on
pub record Crossable (shape : Shape) (memory : ℕ → ℕ) (v : RingView) (q : ℕ) : Type 0 where
  pub given : v.crossed q ≡ true
  pub link : ℕ
  pub crosses : link_crossed shape q ≡ Some link
  pub leads : is_wrong_link shape link (block_at memory (link_address shape q)) ≡ false
  pub cycle_is : cycle (block_at memory (link_address shape q)) ≡ cycle_of shape (q - 1)

cycle_at : (memory : ℕ → ℕ) (a : ℕ) → cycle (block_at memory a) ≡ memory (a + 12) % 2
cycle_at memory a = omega arith

module _ (shape : Shape) (is : IsShape shape) (memory : ℕ → ℕ) (v : RingView) (k : RingKeeps shape memory v) where
  near : (t : Spot) → MayStand shape v t → (floor_number v ≤ number t) × (number t < floor_number v + place_count shape)
  near t at = grind (arith, given_count_near, rank_least, rank_most, given_count_near shape is memory v k, rank_least v.floor, rank_most t)

  pub takeable : (q : ℕ) → MayStand shape v (Data q) → v.given q ≡ true → v.free q ≡ false → Takeable shape memory v q
  unfolding is_step_given
  takeable q at given kept =
      let n = near (Data q) at in
      let none : Block = record { w = [] } in
      let in_queue : q < declared v = k.given_declared q given in
      let d : Block = get_or v.queue q none in
      let queued : slice_get v.queue q ≡ Some d = slice_get-get_or v.queue q none in_queue in
      let stands = k.kept q d n.0 given kept queued in
      record {
        given = given;
        declared = in_queue;
        block = d;
        queued = queued;
        stands = stands;
        cycle_is = ap (λ b. cycle b) stands ∙ cycle-with_cycle d (cycle_of shape q) (cycle_of_bit shape q);
        no_link = k.blocks q d queued;
        below = elim (cases_lt q (given_count shape v)) [
          | inl below ↦ omega arith
          | inr top ↦
              absurd (false≢true (sym (given_count_stops shape v (given_count_near shape is memory v k)) ∙ ap (λ n. is_step_given shape v n) (omega (arith, at.below))
              ∙ (and_from (v.given q) (is_way_given shape v q) given (at.way q refl))))
        ];
      }

  pub waits_at_block : (q : ℕ) → MayStand shape v (Data q) → v.given q ≡ false → cycle (block_at memory (address_of shape q)) ≢ cycle_of shape q
  waits_at_block q at missing same = grind (arith, near, due_from, cycle_at, near (Data q) at)

  crossing_near : (q : ℕ) → MayStand shape v (Link q) → is_crossing_due shape v.floor q ≡ true
  crossing_near q at = grind (arith, near, crossing_due_from, near (Link q) at)

  pub crossable : (q : ℕ) → MayStand shape v (Link q) → v.crossed q ≡ true → Crossable shape memory v q
  crossable q at given = grind (arith, crossed_link, crossing_near, cycle_at, crossed_link shape q at.is_spot, k.kept_link q (crossed_link shape q at.is_spot).0 (crossing_near q at) given (crossed_link shape q at.is_spot).1)

  pub waits_at_link : (q : ℕ) → MayStand shape v (Link q) → v.crossed q ≡ false → cycle (block_at memory (link_address shape q)) ≢ cycle_of shape (q - 1)
  waits_at_link q at missing same = k.not_yet_link q (crossing_near q at) missing (sym (cycle_at memory (link_address shape q)) ∙ same)
