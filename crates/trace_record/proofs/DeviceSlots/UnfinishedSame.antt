-- Where the command ring is as it was but for what holds it, the same commands are unfinished
use Rattle.trace_record.proofs.LowerLaws.{rules, ◌≡◌, ◌==◌, ◌<◌, ◌≢◌, ℕ, not, true, List, ap, refl, filter, option_and_then, slice_get, eq-eqb, ne_eqb, filter_map, cond-true, cond-false, Block, RingView, RingChange, Opens, changed, declared, due_positions, slice_get-append, command_of, Header, Register, Usbcmd, Sub, Reg, Bell, shape_of, command_id, run_bit, reset_bit, Known, on_ring, command_at, unfinished_positions, unfinished, run_or_stop, runs_again, runs_once, valued, register_written, endpoint_rung, rung, learned, mapped_same}

-- what is declared, given and passed of a ring
pub record SameBlocks (v w : RingView) : Type 0 where
  pub queue : w.queue ≡ v.queue
  pub given : w.given ≡ v.given
  pub floor : w.floor ≡ v.floor

pub same_blocks : (v w : RingView) → w ≡ v → SameBlocks v w
same_blocks v w same = record { queue = ap (λ (x : RingView). x.queue) same; given = ap (λ (x : RingView). x.given) same; floor = ap (λ (x : RingView). x.floor) same }

pub ring_here : (h : Header) (k : Known) (r : ℕ) (change : RingChange) → (on_ring h k r change).ring r ≡ changed (shape_of h r) (k.ring r) change
unfolding on_ring
ring_here h k r change = cond-true (r == r) (changed (shape_of h r) (k.ring r) change) (k.ring r) (eq-eqb r r refl)

pub ring_elsewhere : (h : Header) (k : Known) (r q : ℕ) (change : RingChange) → q ≢ r → (on_ring h k r change).ring q ≡ k.ring q
unfolding on_ring
ring_elsewhere h k r q change other = cond-false (q == r) (changed (shape_of h r) (k.ring r) change) (k.ring q) (ne_eqb q r other)

module _ (h : Header) where
  pub unfinished_same : (k l : Known) → SameBlocks (k.ring (command_id h)) (l.ring (command_id h)) → unfinished h l ≡ unfinished h k
  unfolding unfinished unfinished_positions command_at due_positions
  unfinished_same k l same = search (rules, filter_map, option_and_then, command_of, slice_get, filter, due_positions, shape_of, command_id)

  module _ (k : Known) where
    -- ---- a declaration

    -- what is given was declared before
    pub unfinished_declared : (r : ℕ) (blocks : List Block) → ((p : ℕ) → (k.ring (command_id h)).given p ≡ true → p < declared (k.ring (command_id h))) →
        unfinished h (learned h k (Sub r blocks)) ≡ unfinished h k
    unfolding learned unfinished unfinished_positions command_at due_positions
    unfinished_declared r blocks within = search (rules, command_id, filter_map, option_and_then, command_of, slice_get, filter, due_positions, mapped_same, slice_get-append, on_ring, changed, shape_of, ring_here, unfinished_same, same_blocks, ring_elsewhere)

    -- ---- a register write

    once_rings : (v : ℕ) → (runs_once k v).ring ≡ k.ring
    unfolding runs_once
    once_rings v = search (rules, not, run_bit, reset_bit)

    again_rings : (v : ℕ) → (runs_again k v).ring ≡ k.ring
    unfolding runs_again
    again_rings v = search (rules, not, run_bit, reset_bit)

    run_rings : (v : ℕ) → (run_or_stop h k v).ring ≡ k.ring
    unfolding run_or_stop
    run_rings v = search (rules, once_rings, again_rings)

  register_rings : (k : Known) (r : Register) (v : ℕ) → (learned h k (Reg r v)).ring ≡ k.ring
  unfolding learned register_written valued
  register_rings k r v = search (rules, run_rings, valued, Usbcmd)

  pub unfinished_register : (k : Known) (r : Register) (v : ℕ) → unfinished h (learned h k (Reg r v)) ≡ unfinished h k
  unfinished_register k r v = unfinished_same k (learned h k (Reg r v)) (same_blocks _ _ (ap (λ (f : ℕ → RingView). f (command_id h)) (register_rings k r v)))

  -- ---- a doorbell

  opened_blocks : (k : Known) (r q : ℕ) → SameBlocks (k.ring q) ((on_ring h k r Opens).ring q)
  opened_blocks k r q = search (rules, on_ring, ring_here, same_blocks, ring_elsewhere)

  pub unfinished_rung : (k : Known) (s t : ℕ) → unfinished h (learned h k (Bell s t)) ≡ unfinished h k
  unfolding learned rung endpoint_rung
  unfinished_rung k s t = search (rules, unfinished_same, rung, on_ring, command_id, endpoint_rung, opened_blocks, same_blocks)
