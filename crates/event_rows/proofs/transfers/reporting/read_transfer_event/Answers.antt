use Rattle.event_rows.proofs.Words.{rules, ◌≡◌, Bool, None, OnTrue_from, ap, false, not, refl, sym, ◌∙◌, subst, code, endpoint, slot, is_of_service, is_off, Known, FollowsDevices, FollowsTrace, can_report_at, event_at, is_impossible_transfer, transfer_read, transferred_at}
use Rattle.event_rows.proofs.transfers.reporting.read_transfer_event.Goals.{After-is_off}
use Rattle.event_rows.proofs.transfers.reporting.read_transfer_event.Goals as goal

off_is : (c : After-is_off) (k : Known) → FollowsDevices k c.args.t.now.devices → is_off (k.endpoint_state (slot c.args.event) (endpoint c.args.event)) ≡ c.is_off.result
off_is c k f =
    let report = c.report_of-report.ensures.known k f in
    let state = c.endpoint_state.ensures k f ∙ ap (λ s. k.endpoint_state s c.report_of-report.result.index) report.slot ∙ ap (λ i. k.endpoint_state (slot c.args.event) i) report.endpoint in
    ap is_off (sym state) ∙ sym c.is_off.ensures

pub returns-then-is_off-clause-possible : goal.returns-then-is_off-clause-possible
unfolding is_impossible_transfer
returns-then-is_off-clause-possible c = λ k m f keeps within. rw (within, off_is (goal.at.returns-then-is_off-clause-possible c).After-is_off k f.devices ∙ c.if-is_off.true) refl

twice : (b : Bool) → b ≡ not (not b)
twice b = search rules

pub returns-in_default-clause-possible : goal.returns-in_default-clause-possible
unfolding is_impossible_transfer can_report_at
returns-in_default-clause-possible c = λ k m f keeps within.
    let none : event_at c.args.header.now k c.args.event ≡ None = c.in_default.ensures.named k m f keeps in
    rw (within, off_is (goal.at.returns-in_default-clause-possible c).After-is_off k f.devices ∙ c.if-is_off.false, none)
    (c.is_of_service.ensures ∙ ap is_of_service c.code.ensures ∙ twice (is_of_service (code c.args.event)))

pub returns-in_default-clause-followed : goal.returns-in_default-clause-followed
unfolding transfer_read transferred_at
returns-in_default-clause-followed c =
    OnTrue_from c.is_of_service.result _ (λ serves k m f keeps within.
    subst (λ (x : Known). FollowsTrace c.args.header.now x c.args.t.now m) (sym (ap (λ o. transferred_at c.args.header.now k c.args.event o) (c.in_default.ensures.named k m f keeps))) f)

pub returns-then-not-can_report_at-clause-possible : goal.returns-then-not-can_report_at-clause-possible
unfolding is_impossible_transfer
returns-then-not-can_report_at-clause-possible c = λ k m f keeps within.
    let can = c.can_report_at.ensures k m c.args.event f keeps (c.report_of-report.ensures.known k f.devices) (c.in-Some.ensures.named k m f keeps) in
    rw (within, off_is (goal.at.returns-then-not-can_report_at-clause-possible c).After-is_off k f.devices ∙ c.if-is_off.false, sym can ∙ c.if-not-can_report_at.true) refl

pub returns-clause-possible : goal.returns-clause-possible
unfolding is_impossible_transfer
returns-clause-possible c = λ k m f keeps within.
    let can = c.can_report_at.ensures k m c.args.event f keeps (c.report_of-report.ensures.known k f.devices) (c.in-Some.ensures.named k m f keeps) in
    rw (within, off_is (goal.at.returns-clause-possible c).After-is_off k f.devices ∙ c.if-is_off.false, sym can ∙ c.if-not-can_report_at.false) refl

pub returns-clause-followed : goal.returns-clause-followed
unfolding is_impossible_transfer
returns-clause-followed c = λ k m f keeps within.
    let is = c.in-Some.ensures.named k m f keeps in
    let report = c.report_of-report.ensures.known k f.devices in
    let off = off_is (goal.at.returns-clause-followed c).After-is_off k f.devices ∙ c.if-is_off.false in
    let can = sym (c.can_report_at.ensures k m c.args.event f keeps report is) ∙ c.if-not-can_report_at.false in
    let fine : is_impossible_transfer c.args.header.now k c.args.event ≡ false = rw (within, off, can) refl in
    c.note_at.ensures.followed k m c.args.event f keeps within fine report is
