-- When an event may be posted
use Rattle.segments.proofs.Positions.{cycle_of-unmoved}
use Rattle.traces.specs.Header.{no_shape}
use Rattle.std.proofs.Math.Nat.{div-zero}
use Rattle.controller_model.proofs.Words.{arith, rules, ap, sym, refl, true, ◌-◌, ◌%◌, ◌∙◌, Evt, shape_or, ◌≡◌, ◌≤◌, ◌==◌, ◌&&◌, ℕ, Bool, false, None, nat_lt, lt-ltb, Block, cycle, Shape, place_count, cycle_of, has_room, Header, event_ring, event_shape, event_size, World, can_post}

pub no_ring : (h : Header) (w : World) (b : Block) → None ≡ event_ring h → can_post h w b ≡ false
unfolding can_post event_size event_shape
no_ring h w b none = grind (arith, nat_lt)

-- without an event ring the Cycle bit is that of a first lap
pub no_ring_cycle : (h : Header) (p : ℕ) → None ≡ event_ring h → true ≡ (cycle_of (event_shape h) p == 1)
unfolding event_shape
no_ring_cycle h p none = sym (ap (λ o. cycle_of (shape_or Evt o) p == 1) (sym none) ∙ ap (λ c. c == 1) (cycle_of-unmoved (no_shape Evt) refl p ∙ ap (λ n. 1 - n % 2) (div-zero p)))

pub can_post_is : (h : Header) (w : World) (b : Block) (shape : Shape) (p d : ℕ) (started turn room : Bool) → shape ≡ event_shape h → 2 ≤ place_count shape →
    w.started ≡ started → w.posted ≡ p → w.dequeue ≡ d → room ≡ has_room (place_count shape) p d → turn ≡ (cycle b == cycle_of shape p) →
    (started && room && turn) ≡ can_post h w b
unfolding can_post event_size
can_post_is h w b shape p d started turn room same some run at deq roomy agrees = search (rules, nat_lt, lt-ltb)
