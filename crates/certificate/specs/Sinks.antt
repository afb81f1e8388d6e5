-- What takes bytes one write after another and may fail: how its failures are counted, and what stands there behind several writes
use Rattle.std.specs.Prelude.{◌≡◌, ℕ, ◌+◌, ◌-◌, ◌<◌, ◌^◌, List, length, take, min, Option, Result, Ok, Err}
use Rattle.std.specs.Io.KnownBytes.{Appends}
use Rattle.certificate.specs.declared.fault.EncodeFault.{EncodeFault}
use Rattle.certificate.specs.declared.fault.EncodeFault.TheVariants.{Device}

-- one failure more; at the greatest number of 64 bits the count stays
abbrev pub one_failure_more : ℕ → ℕ
one_failure_more failures = min (failures + 1) (2 ^ 64 - 1)

-- the failures behind a call: one more exactly where it failed
abbrev pub failures_behind : {T E : Type 0} → ℕ → Result T E → ℕ
failures_behind failures (Ok taken) = failures
failures_behind failures (Err fault) = one_failure_more failures

-- how many of the bytes were taken before the device failed
abbrev pub done_of : EncodeFault → ℕ
done_of (Device done) = done

-- the device failed within bytes that stand behind `before` others: exactly the first of them were taken, and with the others before as
-- many as are told
abbrev pub IsCutBehind : Option (List ℕ) → Option (List ℕ) → ℕ → List ℕ → EncodeFault → Type 0
IsCutBehind known known' before bytes fault = (n : ℕ) × (n < length bytes) × (done_of fault ≡ before + n) × Appends known known' (take n bytes)

-- the device failed within the bytes: exactly the first of them were taken, as many as are told
abbrev pub IsCutOff : Option (List ℕ) → Option (List ℕ) → List ℕ → EncodeFault → Type 0
IsCutOff known known' bytes fault = (done_of fault < length bytes) × Appends known known' (take (done_of fault) bytes)
