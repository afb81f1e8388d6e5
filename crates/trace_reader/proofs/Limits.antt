-- How a version's limits on a line compare with those of the others
use Rattle.trace_reader.proofs.Words.{◌≡◌, ◌≤◌, ◌+◌, ◌*◌, ℕ, false, nat_lt, arith, nat_tests}
use Rattle.traces.specs.Limits.{most_bytes, most_trace_bytes, most_bytes_of, most_declared, most_declared_of}
use Rattle.traces.specs.declared.version.Version.{Version}
use Rattle.traces.specs.declared.version.Version.TheVariants.{One, Two, Three, Four}

pub bytes_within : (version : Version) → (most_bytes ≤ most_bytes_of version) × (most_bytes_of version ≤ most_trace_bytes)
unfolding most_bytes_of
bytes_within One = (omega arith, omega arith)
bytes_within Two = (omega arith, omega arith)
bytes_within Three = (omega arith, omega arith)
bytes_within Four = (omega arith, omega arith)

-- a line that is short enough for each version
pub short_in_each : (version : Version) (n : ℕ) → nat_lt most_bytes n ≡ false → nat_lt (most_bytes_of version) n ≡ false
short_in_each version n short = let within = bytes_within version in grind (arith, nat_tests, short, within)

declared_within : (version : Version) → most_declared ≤ most_declared_of version
unfolding most_declared_of
declared_within One = omega arith
declared_within Two = omega arith
declared_within Three = omega arith
declared_within Four = omega arith

pub few_blocks : (n : ℕ) → nat_lt most_declared n ≡ false → n ≤ most_declared
few_blocks n few = grind (arith, nat_tests, few)

-- so many blocks a row of each version may declare
pub few_in_each : (version : Version) (n : ℕ) → n ≤ most_declared → nat_lt (most_declared_of version) n ≡ false
few_in_each version n few = let within = declared_within version in grind (arith, nat_tests, few, within)

-- a line of that many blocks isn't too long
pub blocks_fit : (version : Version) (n : ℕ) → nat_lt (most_declared_of version) n ≡ false → 7 + 36 * n ≤ most_bytes_of version
unfolding most_declared_of most_bytes_of
blocks_fit One n few = grind (arith, nat_tests, few)
blocks_fit Two n few = grind (arith, nat_tests, few)
blocks_fit Three n few = grind (arith, nat_tests, few)
blocks_fit Four n few = grind (arith, nat_tests, few)
