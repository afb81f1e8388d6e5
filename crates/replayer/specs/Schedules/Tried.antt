-- The schedules that are tried for harm, and that none of them does any
use Rattle.std.specs.Prelude.{◌≡◌, ◌+◌, ◌*◌, ◌<◌, ℕ, All, List, Option, None, IfSome, option_and_then, reverse, take}
use Rattle.traces.specs.declared.header.Header.{Header}
use Rattle.traces.specs.declared.row.Row.{Row}
use Rattle.traces.specs.declared.row.Row.TheVariants.{Read}
use Rattle.traces.specs.declared.step.Step.{Step}
use Rattle.traces.specs.declared.step.Step.TheVariants.{NextRow}
use Rattle.ring_knowledge.specs.Histories.{header_now}
use Rattle.world_state.specs.declared.harm.Harm.{Harm}
use Rattle.world_state.specs.Replays.{Harmful}
use Rattle.controller_model.specs.Showing.{scene_replayed}
use Rattle.ownership_checker.specs.RingPasses.Clean.{AreClean}
use Rattle.safety.specs.LazyRuns.Lazy.{lazy_steps}
use Rattle.replayer.specs.Schedules.Making.{made_step, made_steps}
use Rattle.replayer.specs.Schedules.Eager.{eager_schedule, late_schedules, lines_of, looked_at_last, nothing_made}
use Rattle.replayer.specs.Schedules.Harmful.{rows_made}
use Rattle.replayer.specs.declared.scheduler.harmful.Search.{Search}
use Rattle.replayer.specs.declared.scheduler.harmful.Search.TheVariants.{Wide}

-- the row reads no event
abbrev pub IsNoRead : Row → Type 0
IsNoRead (Read b) = ⊥
IsNoRead row = Unit {0}

-- the replay of these steps ends in no harm, or only behind more than n rows of the trace
abbrev pub IsTame : Header → List Row → ℕ → List Step → Type 0
IsTame h rows n steps = (k : ℕ) (harm : Harm) → (scene_replayed h rows steps).ending ≡ Harmful k harm → n < rows_made (take k steps)

-- the lazy schedule of rows that break no rule, then the next row, and looks at each ring that is there
unfoldable pub lazy_behind : Header → List Row → List Row → Option (List Step)
lazy_behind h rows before =
    option_and_then (λ m. option_and_then (looked_at_last None (header_now h (reverse before))) (made_step m NextRow)) (made_steps (nothing_made h rows) (lazy_steps h before))

-- none of the schedules that are tried does harm within the first rows, the last of which has this index: the eager one of these rows, the
-- lazy one of those before the last, where they break no rule; and in a wide search those in which a ring is late, until they have ten times
-- as many lines as the eager one
pub record NoneDoesHarm (h : Header) (rows : List Row) (index : ℕ) (search : Search) : Type 0 where
  pub eager : IfSome (eager_schedule h rows (take (index + 1) rows) None) (IsTame h rows (index + 1))
  pub lazy : AreClean h (reverse (take index rows)) → IfSome (lazy_behind h rows (take index rows)) (IsTame h rows (index + 1))
  pub late : search ≡ Wide →
      All (IsTame h rows (index + 1))
      (late_schedules h rows (take (index + 1) rows) (lines_of (eager_schedule h rows (take (index + 1) rows) None) (index + 1))
      (10 * lines_of (eager_schedule h rows (take (index + 1) rows) None) (index + 1)) h.rings)
