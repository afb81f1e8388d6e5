-- Inside a descriptor the controller never waits: all of a descriptor whose first block is given is given
use Rattle.safety.proofs.Words.{◌≡◌, ◌+◌, ◌≤◌, ℕ, true, false, List, Some, None, slice_get, arith, refl, inl, inr, false≢true, not-true, Block, block_at, cycle, Spot, Data, Link, Shape, number, spot_address, spot_cycle, IsShape, DeclaredBlock, is_border, declared_at, length_from, RingView, ceiling, given_count, is_step_given, descriptor_length, RingKeeps, cases_option, given_below, step_is, whole_is, given_count_declared, RingEvent, is_end, is_inside_descriptor, Newest}
use Rattle.safety.proofs.NoHarm.Descriptors.{Surrounds, surrounded}
use Rattle.safety.proofs.NoHarm.AtSpots.{MayStand, takeable, crossable}

-- the ceiling of an open ring, and of one that is held
pub ceiling_open : (shape : Shape) (v : RingView) → v.held ≡ None → ceiling shape v ≡ given_count shape v
unfolding ceiling
ceiling_open shape v none = rw none refl

pub ceiling_held : (shape : Shape) (v : RingView) (m : ℕ) → v.held ≡ Some m → ceiling shape v ≡ m
unfolding ceiling
ceiling_held shape v m held = rw held refl

length_is : (v : RingView) (p : ℕ) → descriptor_length v p ≡ length_from v.lengths 0 p
unfolding descriptor_length
length_is v p = refl

pub declared_some : (queue : List Block) (lengths : List ℕ) (p : ℕ) (d : Block) → slice_get queue p ≡ Some d →
    declared_at queue lengths p ≡ Some (record { block = d; begins = is_border lengths 0 p; ends = is_border lengths 0 (p + 1) })
unfolding declared_at
declared_some queue lengths p d at = rw at refl

pub end_is : (d : DeclaredBlock) → is_end (Some d) ≡ d.ends
unfolding is_end
end_is d = refl

-- where the last take doesn't end its descriptor, the next step is given
pub inside_given : (shape : Shape) (v : RingView) (n : ℕ) (events : List RingEvent) → Newest shape v n events → is_inside_descriptor events ≡ true → is_step_given shape v n ≡ true
unfolding is_inside_descriptor
inside_given shape v n o newest inside = grind (arith, not-true, is_end, false≢true)

module _ (shape : Shape) (is : IsShape shape) (memory : ℕ → ℕ) (v : RingView) (k : RingKeeps shape memory v) where
  pub ceiling_given : ceiling shape v ≤ given_count shape v
  ceiling_given =
      elim (cases_option v.held) [
        | inl none ↦ omega (arith, ceiling_open shape v none)
        | inr held ↦ omega (arith, ceiling_held shape v held.0 held.1, (k.held held.0 held.1).to)
      ]

  -- behind the first block of a descriptor that isn't at its end, the next step is given
  pub step_inside : (n : ℕ) → n ≤ given_count shape v → is_border v.lengths 0 n ≡ false → is_step_given shape v n ≡ true
  step_inside n below none =
      let within = given_count_declared shape is memory v k in
      let s : Surrounds v.lengths 0 n = surrounded v.lengths 0 n k.lengths (omega arith) (omega (arith, k.descriptors)) none in
      let first = (step_is shape v s.begin (given_below shape v s.begin (omega (arith, s.before)))).0 in
      whole_is shape v s.begin (k.whole s.begin first) n s.before (omega (arith, s.behind, length_is v s.begin))

  -- where the next step is given, the controller finds its own cycle
  pub cycle_inside : (t : Spot) → MayStand shape v t → is_step_given shape v (number t) ≡ true → v.free (number t) ≡ false → cycle (block_at memory (spot_address shape t)) ≡ spot_cycle shape t
  cycle_inside (Data q) at given kept = (takeable shape is memory v k q at (step_is shape v q given).0 kept).cycle_is
  cycle_inside (Link q) at given kept = (crossable shape is memory v k q at ((step_is shape v q given).1 at.is_spot)).cycle_is
