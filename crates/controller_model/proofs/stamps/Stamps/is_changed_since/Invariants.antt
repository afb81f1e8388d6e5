use Rattle.controller_model.proofs.Words.{◌≡◌, ℕ, ◌+◌, ◌*◌, ◌<◌, nat_lt, false, changed_at}
use Rattle.controller_model.proofs.stamps.Stamps.is_changed_since.Given as goal

-- no word so far was changed after the step
abbrev pub invariant-loop-i : goal.invariant-loop-i
invariant-loop-i l = (n : ℕ) → n < l.i → nat_lt l.step (changed_at l.self (l.address + 4 * n)) ≡ false
