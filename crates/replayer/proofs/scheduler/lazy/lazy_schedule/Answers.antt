use Rattle.replayer.proofs.MiddleLaws.{◌≡◌, ◌∙◌, ◌+◌, ◌*◌, ◌≤◌, List, arith, headline, length, reverse, All, Header, Step, Row, IsHeader, AreSteps, IsTraceRow, scene_replayed, NoHarm, AreKept, IsRow, AreClean, kept_now, IsTimely, lazy_steps, ContainsAll, all_are_read, few_steps, lazy_steps_are, rows_fit, without_harm, stands_at_floors, StandsAtFloors, rows_of_fit}
use Rattle.traces.specs.AllowedHeaders.{AreUnmoved}
use Rattle.replayer.proofs.scheduler.lazy.lazy_schedule.Goals as goal

module _ (h : Header) (headed : IsHeader h) (unmoved : AreUnmoved h.rings) (rows slice : List Row) (fitting : All IsTraceRow rows) (value : slice ≡ rows) (clean : AreClean h (reverse slice)) (steps made : List Step) (new : steps ≡ made) (lazy : made ≡ lazy_steps h slice) where
  fits : All IsRow rows
  fits = rows_fit rows fitting

  kept : AreKept h (reverse rows)
  kept = kept_now h (reverse rows) (rw value at clean)

  same : steps ≡ lazy_steps h rows
  same = rw value at (new ∙ lazy)

  are : AreSteps steps
  are = rw same (lazy_steps_are h (headed, unmoved) rows fits kept)

  few : length steps ≤ 3 * length rows + 3
  few = rw same (few_steps h rows headed unmoved fits kept)

  runs : IsTimely h (reverse rows) → ContainsAll h rows (reverse steps)
  runs timely = rw same (all_are_read h rows headed unmoved fits kept timely)

  floors : IsTimely h (reverse rows) → StandsAtFloors h rows steps
  floors timely = rw same (stands_at_floors h rows headed unmoved fits kept timely)

  replays : IsTimely h (reverse rows) → (scene_replayed h rows steps).ending ≡ NoHarm
  replays timely = without_harm h rows (headline h rows headed unmoved fits kept) steps are (runs timely)

pub invariant_of-result : goal.invariant_of-result
invariant_of-result c =
    let t = c.args.trace.now in
    record {
      fitting = are t.header t.headed t.unmoved t.rows _ (rows_of_fit t.header.version t.rows t.fitting) c.as_slice.ensures c.in_ok-steps.ensures.clean c.new-2.result _ c.new-2.ensures c.in_ok-steps.ensures.steps;
      within = omega (arith, c.requires, t.placed, few t.header t.headed t.unmoved t.rows _ (rows_of_fit t.header.version t.rows t.fitting) c.as_slice.ensures c.in_ok-steps.ensures.clean c.new-2.result _ c.new-2.ensures c.in_ok-steps.ensures.steps);
    }

pub returns-clause-runs : goal.returns-clause-runs
returns-clause-runs c =
    let t = c.args.trace.now in
    runs t.header t.headed t.unmoved t.rows _ (rows_of_fit t.header.version t.rows t.fitting) c.as_slice.ensures c.in_ok-steps.ensures.clean c.new-2.result _ c.new-2.ensures c.in_ok-steps.ensures.steps

pub returns-clause-replays : goal.returns-clause-replays
returns-clause-replays c =
    let t = c.args.trace.now in
    replays t.header t.headed t.unmoved t.rows _ (rows_of_fit t.header.version t.rows t.fitting) c.as_slice.ensures c.in_ok-steps.ensures.clean c.new-2.result _ c.new-2.ensures c.in_ok-steps.ensures.steps

pub returns-clause-floors : goal.returns-clause-floors
returns-clause-floors c =
    let t = c.args.trace.now in
    floors t.header t.headed t.unmoved t.rows _ (rows_of_fit t.header.version t.rows t.fitting) c.as_slice.ensures c.in_ok-steps.ensures.clean c.new-2.result _ c.new-2.ensures c.in_ok-steps.ensures.steps

pub returns-clause-few : goal.returns-clause-few
returns-clause-few c =
    let t = c.args.trace.now in
    few t.header t.headed t.unmoved t.rows _ (rows_of_fit t.header.version t.rows t.fitting) c.as_slice.ensures c.in_ok-steps.ensures.clean c.new-2.result _ c.new-2.ensures c.in_ok-steps.ensures.steps
