-- A run of a driver on the bench
use Rattle.std.specs.Prelude.{ℕ, List, ◌∷◌, Option}
use Rattle.traces.specs.declared.header.Header.{Header}
use Rattle.traces.specs.declared.row.Row.{Row}
use Rattle.ownership_rules.specs.declared.refusal.Refusal.{Refusal}
use Rattle.bench.specs.Benches.{HasBench, IsBenchOf, IsJudging, IsRowJudged}
use Rattle.bench.specs.declared.live.Live.{Live}

-- its bench stands for these rows of the driver, the newest first, and for steps beside them
abbrev pub IsLiveOf : {M : Type 0} → (M → ℕ → ℕ) → Header → List Row → Live M → Type 0
IsLiveOf words h past live = IsBenchOf words h past live.bench

-- for some rows
abbrev pub IsLive : {M : Type 0} → (M → ℕ → ℕ) → Live M → Type 0
IsLive words live = HasBench words live.bench

-- no row so far broke a rule, and the next is judged
abbrev pub JudgesNext : {M : Type 0} → Live M → Type 0
JudgesNext live = IsJudging live.bench

-- behind a line a row was made, and this is told of it
abbrev pub IsRowSaid : {M : Type 0} → (M → ℕ → ℕ) → Header → List Row → Live M → Option Refusal → Live M → Type 0
IsRowSaid words h past live refusal live' = (row : Row) × IsLiveOf words h (row ∷ past) live' × (JudgesNext live → IsRowJudged h past row refusal)
