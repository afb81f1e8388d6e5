use Rattle.controller_model.proofs.Laws.{◌∙◌, sym, changed_by, changed_by_all, changes, may_get_is, can_be_addressed, one_some}
use Rattle.controller_model.proofs.successes.can_apply.Goals as goal

pub returns-in-AddressDevice : goal.returns-in-AddressDevice
returns-in-AddressDevice g c = λ h words n w f.
    rw c.in-AddressDevice.is (c.can_address.ensures h words w f
    ∙ sym (can_be_addressed c.args.header.now c.args.header.now.context_size (g.M.WordMemory.words c.args.memory.now) n _ w c.in-AddressDevice.slot c.in-AddressDevice.input_context _))

pub returns-in-ConfigureEndpoint : goal.returns-in-ConfigureEndpoint
returns-in-ConfigureEndpoint g c = λ h words n w f. rw c.in-ConfigureEndpoint.is (c.can_configure.ensures h words _ n w f)

pub returns-in-SetTrDequeue : goal.returns-in-SetTrDequeue
unfolding changes changed_by changed_by_all
returns-in-SetTrDequeue g c = λ h words n w f. simp (c.in-SetTrDequeue.is, one_some, may_get_is) (c.can_place.ensures h words w f)
