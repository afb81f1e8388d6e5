-- What a written register does
use Rattle.controller_model.proofs.LowerLaws.{beq, run_bit, reset_bit, runs_again, true, false, arith, rules, ◌&&◌, ◌||◌, ◌≡◌, ◌≢◌, ◌%◌, ◌==◌, if◌then◌else◌, Bool, not, ℕ, Option, eq-eqb, ne_eqb, cond-true, cond-false, Register, Usbcmd, Crcr, Erdp, with_register, base_address, ring_cycle_state, Header, register_row, valued, World, Registers, FollowsRegisters, ring_held, noted, pointed, put_same, put_other}

pub registers_noted : (k : Registers) (values : Register → Option ℕ) (r : Register) (v : ℕ) → FollowsRegisters k values → FollowsRegisters (noted k r v) (with_register values r v)
registers_noted k values r v f = grind arith

pub pointed_here : (w : World) (r crcr : ℕ) → ring_held (pointed w r crcr) r ≡ record (ring_held w r) { pointer = base_address crcr; cycle = ring_cycle_state crcr }
pointed_here w r crcr = grind (arith, put_same)

pub pointed_other : (w : World) (r crcr q : ℕ) → q ≢ r → ring_held (pointed w r crcr) q ≡ ring_held w q
pointed_other w r crcr q apart = grind (arith, put_other)

-- the lowest bit by a test
pub lowest_bit : (n : ℕ) → n % 2 ≡ (if n % 2 == 1 then 1 else 0)
lowest_bit n = search (rules, cond-true, eq-eqb, cond-false, ne_eqb)

pub stops_unless_runs : (a b : Bool) → (not a || b) ≡ not (a && not b)
stops_unless_runs a b = grind arith

-- the other registers are kept, and do no more
pub other_register : (h : Header) (w : World) (r : Register) (v : ℕ) → r ≢ Usbcmd → r ≢ Crcr → r ≢ Erdp → register_row h w r v ≡ valued w r v
unfolding register_row
other_register h w r v a b c = grind arith

-- R/S 0 in a run
pub told_to_halt : (h : Header) (w : World) (v : ℕ) → reset_bit v ≡ false → run_bit v ≡ false → w.started ≡ true → runs_again h w v ≡ record w { halting = true }
unfolding runs_again
told_to_halt h w v no_reset no_run runs = grind arith

pub is_one_of : (a b c : Bool) → beq a (b || not c) ≡ (if a then b || not c else c && not b)
is_one_of a b c = grind arith
