-- What gives bytes one read after another and may fail: how its failures are counted
use Rattle.std.specs.Prelude.{ℕ, ◌+◌, ◌-◌, ◌^◌, min, Result, Ok, Err}

-- one failure more; at the greatest number of 64 bits the count stays
abbrev pub one_failure_more : ℕ → ℕ
one_failure_more failures = min (failures + 1) (2 ^ 64 - 1)

-- the failures behind a read: one more exactly where it failed
abbrev pub failures_behind : {T E : Type 0} → ℕ → Result T E → ℕ
failures_behind failures (Ok count) = failures
failures_behind failures (Err fault) = one_failure_more failures
