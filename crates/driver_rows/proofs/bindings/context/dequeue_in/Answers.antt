use Rattle.driver_rows.proofs.Words.{◌≡◌, ◌+◌, ◌*◌, ◌/◌, ◌%◌, ◌^◌, ◌==◌, ℕ, arith, Dequeue}
use Rattle.driver_rows.proofs.bindings.context.dequeue_in.Goals as goal

-- the lowest bit of two words is that of the first
parity : (low high : ℕ) → (low + 2 ^ 32 * high) % 2 ≡ low / 2 ^ 0 % 2
parity low high = omega arith

abbrev said : ℕ → ℕ → Dequeue
said words bit = record { pointer = words / 16 * 16; cycle = bit == 1 }

pub returns : goal.returns
returns g c = grind (arith, parity)
