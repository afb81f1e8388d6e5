-- What single changes of the world do to what it has of each ring
use Rattle.controller_model.proofs.LowerLaws.{arith, rules, ◌≡◌, ◌≢◌, ◌∷◌, ◌++◌, ◌-◌, if◌then◌else◌, ℕ, [], Bool, true, List, Some, length, false, put, aligned, pointer, word, is_set, shape_of, declared_next, crossed, taken_on, taken_held, Block, Header, World, declared, activated, inactive, with_reported, ring_held, put_same, put_other}

pub declared_here : (h : Header) (w : World) (r : ℕ) (bs : List Block) →
    ring_held (declared h w r bs) r ≡ record (ring_held w r) { queue = w.queue r ++ bs; lengths = w.lengths r ++ length bs ∷ [] }
unfolding declared
declared_here h w r bs = grind (arith, put_same)

pub declared_other : (h : Header) (w : World) (r : ℕ) (bs : List Block) (q : ℕ) → q ≢ r → ring_held (declared h w r bs) q ≡ ring_held w q
unfolding declared
declared_other h w r bs q apart = grind (arith, put_other)

pub activated_here : (h : Header) (w : World) (r : ℕ) → ring_held (activated h w r) r ≡ record (ring_held w r) { is_active = true }
unfolding activated
activated_here h w r = (λ i. record (ring_held w r) { is_active = put_same w.is_active r true i })

pub activated_other : (h : Header) (w : World) (r q : ℕ) → q ≢ r → ring_held (activated h w r) q ≡ ring_held w q
unfolding activated
activated_other h w r q apart = (λ i. record (ring_held w q) { is_active = put_other w.is_active r q true apart i })

pub inactive_here : (w : World) (r : ℕ) → ring_held (inactive w (Some r)) r ≡ record (ring_held w r) { is_active = false }
unfolding inactive
inactive_here w r = (λ i. record (ring_held w r) { is_active = put_same w.is_active r false i })

pub inactive_other : (w : World) (r q : ℕ) → q ≢ r → ring_held (inactive w (Some r)) q ≡ ring_held w q
unfolding inactive
inactive_other w r q apart = (λ i. record (ring_held w q) { is_active = put_other w.is_active r q false apart i })

pub reported_here : (h : Header) (w : World) (r n : ℕ) → ring_held (with_reported h w r n) r ≡ record (ring_held w r) { reported = n }
unfolding with_reported
reported_here h w r n = (λ i. record (ring_held w r) { reported = put_same w.reported r n i })

pub reported_other : (h : Header) (w : World) (r n q : ℕ) → q ≢ r → ring_held (with_reported h w r n) q ≡ ring_held w q
unfolding with_reported
reported_other h w r n q apart = (λ i. record (ring_held w q) { reported = put_other w.reported r q n apart i })

at_place : {A : Type 0} (t : Bool) (f g : ℕ → A) (n : ℕ) → (if t then f else g) n ≡ (if t then f n else g n)
at_place t f g n = grind arith

pub crossed_here : (h : Header) (w : World) (r : ℕ) (b : Block) → ring_held (crossed h w r b) r ≡ record (ring_held w r) {
  pointer = aligned (pointer b);
  cycle = if is_set (word b 3) 1 then 1 - w.cycle_state r else w.cycle_state r;
}
unfolding crossed
crossed_here h w r b = (λ i. record (ring_held w r) { pointer = put_same w.pointer_of r (aligned (pointer b)) i; cycle = turned i })
  where
    turned : (if is_set (word b 3) 1 then put w.cycle_state r (1 - w.cycle_state r) else w.cycle_state) r ≡ (if is_set (word b 3) 1 then 1 - w.cycle_state r else w.cycle_state r)
    turned = grind (arith, at_place, put_same)

pub crossed_other : (h : Header) (w : World) (r : ℕ) (b : Block) (q : ℕ) → q ≢ r → ring_held (crossed h w r b) q ≡ ring_held w q
unfolding crossed
crossed_other h w r b q apart = search (rules, put_other, at_place)

pub taken_here : (h : Header) (w : World) (r : ℕ) (b : Block) → ring_held (taken_on h w r b) r ≡ taken_held (shape_of h r) (ring_held w r) b
unfolding taken_on declared_next
taken_here h w r b = grind (arith, put_same)

pub taken_other : (h : Header) (w : World) (r : ℕ) (b : Block) (q : ℕ) → q ≢ r → ring_held (taken_on h w r b) q ≡ ring_held w q
unfolding taken_on declared_next
taken_other h w r b q apart = grind (arith, put_other)
