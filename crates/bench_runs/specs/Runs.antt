-- What is left of a driver's run on the bench
use Rattle.std.specs.Prelude.{◌≡◌, ◌++◌, ◌∷◌, ℕ, List, Option, Some, None, IfSome, length, reverse}
use Rattle.traces.specs.declared.header.Header.{Header}
use Rattle.traces.specs.declared.row.Row.{Row}
use Rattle.traces.specs.declared.step.Step.{Step}
use Rattle.world_state.specs.Harms.{harm_of}
use Rattle.world_state.specs.declared.harm.Harm.{Harm as HarmValue}
use Rattle.world_state.specs.Scenes.{Scene, scene_reached}
use Rattle.ownership_rules.specs.declared.refusal.Refusal.{Refusal}
use Rattle.ownership_checker.specs.RingPasses.Clean.{AreClean}
use Rattle.bench.specs.Benches.{IsBench, IsRowJudged}
use Rattle.bench.specs.Lives.{JudgesNext}
use Rattle.bench.specs.declared.live.Live.{Live}
use Rattle.bench.specs.declared.written.Written.{Written}
use Rattle.bench_runs.specs.declared.course.Course.{Course}
use Rattle.bench_runs.specs.declared.end.Ended.{Ended}
use Rattle.bench_runs.specs.declared.end.Ended.TheVariants.{NoHarm, Refused, Harm, NotPossible, BadLine}
use Rattle.bench_runs.specs.declared.end.RefusedRow.{RefusedRow}
use Rattle.bench_runs.specs.declared.run.Left.{Left}

-- one of the rows is the first that breaks a rule, and this is the least that it breaks
pub record IsFirstRefused (h : Header) (past : List Row) (c : Refusal) : Type 0 where
  pub later : List Row
  pub row : Row
  pub earlier : List Row
  pub split : past ≡ later ++ row ∷ earlier
  pub least : IsRowJudged h earlier row (Some c)

-- the first row that breaks a rule, as it was noted; none where no row does
abbrev pub IsNoted : Header → List Row → Option RefusedRow → Type 0
IsNoted h past None = AreClean h past
IsNoted h past (Some noted) = IsFirstRefused h past noted.refusal

-- what it means that a run ends so behind these steps
abbrev pub IsEndAt : Ended → Header → List Row → List Step → Scene → Type 0
IsEndAt NoHarm h past steps x = AreClean h past × (harm_of x.header x.world ≡ None)
IsEndAt (Refused row) h past steps x = IsFirstRefused h past row.refusal × (harm_of x.header x.world ≡ None)
IsEndAt (Harm k n) h past steps x = (harm_of x.header x.world ≡ Some k) × (n ≡ length steps)
IsEndAt (NotPossible n) h past steps x = harm_of x.header x.world ≡ None
IsEndAt (BadLine line fault) h past steps x = Unit {0}

-- some rows were made, and the schedule is a run of the model beside them which ends so
pub record IsRun (left : Left) : Type 0 where
  pub header : Header
  pub past : List Row
  pub steps : List Step
  pub scene : Scene
  pub reached : scene_reached header (reverse past) steps ≡ Some scene
  pub scheduled : IfSome left.schedule (λ schedule. schedule.steps ≡ reverse steps)
  pub ends : IsEndAt left.ended header past steps scene

-- ---- while it goes on

-- what is noted behind a row of which this is told
abbrev pub noted_with : Option RefusedRow → ℕ → Option Refusal → Option RefusedRow
noted_with None row (Some c) = Some (record { row = row; refusal = c })
noted_with None row None = None
noted_with (Some noted) row told = Some noted

-- how it ended behind so many steps, where there is this harm
abbrev pub ended_with : Option Ended → Option HarmValue → ℕ → Option Ended
ended_with before None steps = before
ended_with before (Some harm) steps = Some (Harm harm steps)

-- what is told of it at its end
abbrev pub end_of : Option Ended → Option RefusedRow → Ended
end_of (Some ended) noted = ended
end_of None (Some row) = Refused row
end_of None None = NoHarm

-- it ended at a line that can't be followed
abbrev pub IsOver : Option Ended → Type 0
IsOver (Some (NotPossible step)) = Unit {0}
IsOver (Some (BadLine line fault)) = Unit {0}
IsOver _ = ⊥

-- as far as the run has come there is no harm, or it ended so
abbrev pub IsEndSoFar : Option Ended → Header → List Row → List Step → Scene → Type 0
IsEndSoFar None h past steps x = harm_of x.header x.world ≡ None
IsEndSoFar (Some ended) h past steps x = IsEndAt ended h past steps x

-- what was noted of these rows and steps
pub record IsCourseOf {M : Type 0} (words : M → ℕ → ℕ) (h : Header) (past : List Row) (steps : List Step) (told : List Written) (x : Scene) (course : Course) (live : Live M) : Type 0 where
  pub bench : IsBench words h past steps told x live.bench
  pub ends : IsEndSoFar course.ended h past steps x
  pub noted : course.ended ≡ None → IsNoted h past course.refused
  pub judges : course.ended ≡ None → course.refused ≡ None → JudgesNext live

-- of some rows and steps
abbrev pub IsCourse : {M : Type 0} → (M → ℕ → ℕ) → Course → Live M → Type 0
IsCourse words course live = (h : Header) × (past : List Row) × (steps : List Step) × (told : List Written) × (x : Scene) × IsCourseOf words h past steps told x course live
