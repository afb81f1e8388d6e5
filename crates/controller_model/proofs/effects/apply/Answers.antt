use Rattle.controller_model.proofs.Laws.{false, inl, inr, put, changed_by, changed_by_all, changes, gone, one, onward}
use Rattle.controller_model.proofs.effects.apply.Goals as goal

pub returns-in-NoOp-clause-change : goal.returns-in-NoOp-clause-change
unfolding changes changed_by changed_by_all
returns-in-NoOp-clause-change g c = λ h words w final lists made f.
    elim c.in-NoOp.is [ inl is ↦ onward (rw is at made) f | inr is ↦ onward (rw is.2 at made) f ]

pub returns-in-EnableSlot-clause-change : goal.returns-in-EnableSlot-clause-change
unfolding changes changed_by changed_by_all
returns-in-EnableSlot-clause-change g c = λ h words w final lists made f.
    let is = c.in-EnableSlot.is in
    onward (rw is at made) (rw is at (c.go_on.ensures.change h words w f))

pub returns-in-DisableSlot-clause-change : goal.returns-in-DisableSlot-clause-change
unfolding changes changed_by changed_by_all
returns-in-DisableSlot-clause-change g c = λ h words w final lists made f.
    let is = c.in-DisableSlot.is in
    let u = gone c.args.command.now w c.in-DisableSlot.slot in
    let now = c.leave_device.ensures.change h words u (c.go_on-in-DisableSlot.ensures.change h words w f) in
    onward (rw is at made) (rw is at (c.disable.ensures.change h words (record u { scribbles = put w.scribbles c.in-DisableSlot.slot false }) now))

pub returns-in_ok-place_by_context-in-AddressDevice-clause-change : goal.returns-in_ok-place_by_context-in-AddressDevice-clause-change
unfolding changes changed_by changed_by_all
returns-in_ok-place_by_context-in-AddressDevice-clause-change g c = λ h words w final lists made f.
    let is = c.in-AddressDevice.is in
    c.in_ok-place_by_context-in-AddressDevice.ensures.change h words _ final lists (one _ final (rw is at made)) (rw is at (c.go_on-in-AddressDevice.ensures.change h words w f))

pub returns-in_ok-configure-in-ConfigureEndpoint-clause-change : goal.returns-in_ok-configure-in-ConfigureEndpoint-clause-change
returns-in_ok-configure-in-ConfigureEndpoint-clause-change g c = λ h words w final lists made f.
    c.in_ok-configure-in-ConfigureEndpoint.ensures.change h words c.args.slot w final lists (rw (← c.in-ConfigureEndpoint.is) made) f

pub returns-in-ResetEndpoint-clause-change : goal.returns-in-ResetEndpoint-clause-change
unfolding changes changed_by changed_by_all
returns-in-ResetEndpoint-clause-change g c = λ h words w final lists made f.
    onward (rw c.in-ResetEndpoint.is at made) (c.set_state.ensures.change h words w f)

pub returns-in-StopEndpoint-clause-change : goal.returns-in-StopEndpoint-clause-change
unfolding changes changed_by changed_by_all
returns-in-StopEndpoint-clause-change g c = λ h words w final lists made f.
    onward (rw c.in-StopEndpoint.is at made) (c.stop.ensures.change h words w f)

pub returns-in_ok-place-in-SetTrDequeue-clause-change : goal.returns-in_ok-place-in-SetTrDequeue-clause-change
unfolding changes changed_by changed_by_all
returns-in_ok-place-in-SetTrDequeue-clause-change g c = λ h words w final lists made f.
    c.in_ok-place-in-SetTrDequeue.ensures.change h words w final lists (one _ final (rw c.in-SetTrDequeue.is at made)) f

pub returns-in-ResetDevice-clause-change : goal.returns-in-ResetDevice-clause-change
unfolding changes changed_by changed_by_all
returns-in-ResetDevice-clause-change g c = λ h words w final lists made f.
    let is = c.in-ResetDevice.is in
    let u = gone c.args.command.now w c.in-ResetDevice.slot in
    onward (rw is at made) (rw is at (c.disable-in-ResetDevice.ensures.change h words u (c.go_on-in-ResetDevice.ensures.change h words w f)))
