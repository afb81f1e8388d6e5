use Rattle.event_rows.proofs.Laws.{◌≡◌, ℕ, false, not, if◌then◌else◌, refl, ap, sym, ◌∙◌, is_stopping, ceiling, is_data_below, is_stop_spot, Header, IsHeader, shape_of, FollowsRing, Known, FollowsDevices, can_report, is_stopping_now, DriverKeeps, report_is}
use Rattle.event_rows.proofs.transfers.reporting.can_report.Goals.{After-is_failure}
use Rattle.event_rows.proofs.transfers.reporting.can_report.Goals as goal

pub returns-then-is_success : goal.returns-then-is_success
returns-then-is_success c = λ h k m r headed found f keeps same known.
    let x = c.args.report in
    rw (report_is h headed k keeps x.code x.slot x.index r c.args.spot, sym c.is_success.ensures ∙ c.if-is_success.true)
    (c.is_data_below.ensures ∙ ap (λ n. is_data_below n c.args.spot) (c.ceiling.ensures c.args.shape.now (k.ring r) known) ∙ ap (λ s. is_data_below (ceiling s (k.ring r)) c.args.spot) (sym same))

pub returns-then-not-is_working : goal.returns-then-not-is_working
returns-then-not-is_working c = λ h k m r headed found f keeps same known.
    let x = c.args.report in
    rw (
      report_is h headed k keeps x.code x.slot x.index r c.args.spot,
      sym c.is_success.ensures ∙ c.if-is_success.false,
      sym (c.is_working.ensures k c.args.shape.now r f.devices known) ∙ c.if-not-is_working.true,
    ) refl

pub returns-then-is_failure : goal.returns-then-is_failure
returns-then-is_failure c = λ h k m r headed found f keeps same known.
    let x = c.args.report in
    rw (
      report_is h headed k keeps x.code x.slot x.index r c.args.spot,
      sym c.is_success.ensures ∙ c.if-is_success.false,
      sym (c.is_working.ensures k c.args.shape.now r f.devices known) ∙ c.if-not-is_working.false,
      sym c.is_failure.ensures ∙ c.if-is_failure.true,
    )
    (c.is_data_below-then-is_failure.ensures ∙ ap (λ n. is_data_below n c.args.spot) (c.ceiling-then-is_failure.ensures c.args.shape.now (k.ring r) known) ∙ ap (λ s. is_data_below (ceiling s (k.ring r)) c.args.spot) (sym same))

-- it tells neither of a success nor of a failure
stops : (c : After-is_failure) → c.is_failure.result ≡ false → (h : Header) (k : Known) (r : ℕ) → IsHeader h → DriverKeeps h k → FollowsDevices k c.args.t.now.devices →
    FollowsRing c.args.shape.now (k.ring r) c.args.known.now →
    can_report h k c.args.report.code c.args.report.slot c.args.report.index r c.args.spot ≡
    (if not (is_stopping c.args.report.code) then false
    else if not (is_stopping_now h k c.args.report.slot c.args.report.index) then false else is_stop_spot (shape_of h r) (k.ring r) c.args.spot)
stops c fails h k r headed keeps f known =
    rw (
      report_is h headed k keeps c.args.report.code c.args.report.slot c.args.report.index r c.args.spot,
      sym c.is_success.ensures ∙ c.if-is_success.false,
      sym (c.is_working.ensures k c.args.shape.now r f known) ∙ c.if-not-is_working.false,
      sym c.is_failure.ensures ∙ fails,
    ) refl

pub returns-then-not-is_stopping : goal.returns-then-not-is_stopping
returns-then-not-is_stopping c = λ h k m r headed found f keeps same known.
    let at = (goal.at.returns-then-not-is_stopping c).After-is_failure in
    rw (stops at c.if-is_failure.false h k r headed keeps f.devices known, sym c.is_stopping.ensures ∙ c.if-not-is_stopping.true) refl

pub returns-then-not-is_stopping_now : goal.returns-then-not-is_stopping_now
returns-then-not-is_stopping_now c = λ h k m r headed found f keeps same known.
    let at = (goal.at.returns-then-not-is_stopping_now c).After-is_failure in
    let now = sym (c.is_stopping_now.ensures h k m headed found f keeps) ∙ c.if-not-is_stopping_now.true in
    rw (stops at c.if-is_failure.false h k r headed keeps f.devices known, sym c.is_stopping.ensures ∙ c.if-not-is_stopping.false, now) refl

pub returns : goal.returns
returns c = λ h k m r headed found f keeps same known.
    let at = (goal.at.returns c).After-is_failure in
    let now = sym (c.is_stopping_now.ensures h k m headed found f keeps) ∙ c.if-not-is_stopping_now.false in
    rw (stops at c.if-is_failure.false h k r headed keeps f.devices known, sym c.is_stopping.ensures ∙ c.if-not-is_stopping.false, now)
    (c.is_stop_spot.ensures.stop (k.ring r) known ∙ ap (λ s. is_stop_spot s (k.ring r) c.args.spot) (sym same))
