use Rattle.controller_model.proofs.Words.{◌∷◌, ℕ, [], ap, length, length-append, arith, All-push, HeaderValue, opening, RingState, FollowsRing, ring_held}
use Rattle.controller_model.proofs.opening.rings.Goals as goal

pub loop-id-preserved : goal.loop-id-preserved
loop-id-preserved c =
    let P : RingState → Type 0 = λ x. (h : HeaderValue) (r : ℕ) → FollowsRing h r (ring_held opening r) x in
    record {
      many = omega (arith, ap length c.in_ok-push.ensures.items, length-append c.loop-id.rings.items (c.ring.result ∷ []), c.loop-id.invariant.many);
      each = rw (← c.in_ok-push.ensures.items) at (All-push P c.loop-id.rings.items c.ring.result c.loop-id.invariant.each c.ring.ensures);
    }
