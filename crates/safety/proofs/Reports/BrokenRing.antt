-- A take with which an endpoint halts or goes to Error: what the event names, and the ring behind it
use Rattle.safety.proofs.LowerLaws.{not, ◌&&◌, zero, suc, Block, Take, take_at, names, names_last, has_event_data, named_by, and_parts, not-true, cases_lt, inl, inr, ◌≡◌, ◌+◌, ◌-◌, ◌<◌, ◌≤◌, ◌∙◌, ℕ, true, false, length, map, Some, arith, refl, sym, ap, range_with_len, false≢true, Spot, Data, Shape, number, after, IsShape, RingView, floor_number, RingKeeps, RingState, RingMatches, Unreported, held_from, number_after}
use Rattle.safety.proofs.NoHarm.NoWait.{ceiling_held}
use Rattle.safety.proofs.Reports.ReportedRing.{floor_unreported, open_takes, low, count, names_position, floor_before}

-- what names the last of the takes from a position on, and by a value no other
last_is : (b : Block) (f : ℕ → Take) (a n : ℕ) → names_last b (map f (range_with_len a (suc n))) ≡ true →
    (names b (f (a + n)) ≡ true) × (has_event_data b ≡ true → (p : ℕ) → a ≤ p → p < a + n → names b (f p) ≡ false)
unfolding names_last
last_is b f a zero at = (ap (λ q. names b (f q)) (omega arith) ∙ at, λ tells p from below. absurd (omega arith))
last_is b f a (suc n) at =
    let both = and_parts (not (has_event_data b && names b (f a))) (names_last b (map f (range_with_len (a + 1) (suc n)))) at in
    grind (arith, not-true, cases_lt, both, last_is b f (a + 1) n both.1)

-- held behind position p
abbrev pub broken_at : Shape → RingView → ℕ → RingView
broken_at shape v p = record v { floor = after shape p; held = Some (p + 1) }

module _ (shape : Shape) (is : IsShape shape) (memory : ℕ → ℕ) (v : RingView) (k : RingKeeps shape memory v) (s : RingState) (t : Spot) (m : RingMatches shape v s t) (u : Unreported shape v s t) where
  -- the last take, unreported yet
  pub record LastTake (b : Block) : Type 0 where
    pub position : ℕ
    pub from : floor_number v ≤ position
    pub last : number t ≡ position + 1
    pub named_is : named_by shape v b ≡ Some (Data position)

  pub last_take : (b : Block) → names_last b (open_takes s) ≡ true → LastTake b
  unfolding names_last
  last_take b at =
      let before = low shape is memory v k s t m u in
      let named_last : names_last b (map (take_at shape v.queue) (range_with_len (floor_number v) (number t - floor_number v))) ≡ true = ap (names_last b) (sym u.takes) ∙ at in
      let many = λ (n : ℕ) (long : number t - floor_number v ≡ n). ap (λ x. names_last b (map (take_at shape v.queue) (range_with_len (floor_number v) x))) (sym long) ∙ named_last in
      elim (cases_lt (floor_number v) (number t)) [
        | inl some ↦
            let n : ℕ = number t - floor_number v - 1 in
            let l = last_is b (take_at shape v.queue) (floor_number v) n (many (suc n) (omega arith)) in
            record {
              position = floor_number v + n;
              from = omega arith;
              last = omega arith;
              named_is = names_position shape is memory v k s t m u b (floor_number v + n) (omega arith) (omega arith) l.0 l.1;
            }
        | inr none ↦ absurd (false≢true (many 0 (omega arith)))
      ]

  pub broken_matches : (b : Block) (c : ℕ) (l : LastTake b) → RingMatches shape (broken_at shape v l.position) (record s { active = false; reported = c }) t
  broken_matches b c l =
      held_from shape v s t (after shape l.position) (Some (l.position + 1)) false c m (floor_before shape is memory v k s t m u l.position (omega (arith, l.last)))
      (omega (arith, l.last, ceiling_held shape (broken_at shape v l.position) (l.position + 1) refl)) (λ on. absurd (false≢true on))

  pub broken_unreported : (b : Block) (l : LastTake b) → Unreported shape (broken_at shape v l.position) (record s { active = false; reported = s.reported + length (open_takes s) }) t
  broken_unreported b l =
      let all = count shape is memory v k s t m u in
      let next = number_after shape l.position in
      floor_unreported shape is memory v k s t m u (after shape l.position) (Some (l.position + 1)) false (length (open_takes s)) (omega (arith, l.last, l.from)) (omega (arith, l.last))
