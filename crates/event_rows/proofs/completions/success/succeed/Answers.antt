use Rattle.event_rows.proofs.Laws.{◌∙◌, ap, subst, sym, refl, ConfigureEndpoint, Places, added_endpoints, addressed, changed_by_all, changes, configured, disabled, in_state, HasRoom, changed_by, MayPoint, Placing, FollowsPlaces, devices_only, success_by}
use Rattle.event_rows.proofs.completions.success.succeed.Goals as goal

pub returns-in-NoOp-clause-followed : goal.returns-in-NoOp-clause-followed
unfolding changes changed_by_all
returns-in-NoOp-clause-followed g c = λ k f words may room. success_by _ k _ _ _ _ _ _ words c.in-NoOp.is may (λ _. f)

pub returns-in-EvaluateContext-clause-followed : goal.returns-in-EvaluateContext-clause-followed
unfolding changes changed_by_all
returns-in-EvaluateContext-clause-followed g c = λ k f words may room. success_by _ k _ _ _ _ _ _ words c.in-EvaluateContext.is may (λ _. f)

pub returns-in-EnableSlot-clause-followed : goal.returns-in-EnableSlot-clause-followed
unfolding changes changed_by_all changed_by
returns-in-EnableSlot-clause-followed g c = λ k f words may room. success_by _ k _ _ _ _ _ _ words c.in-EnableSlot.is may (λ _. devices_only _ k _ _ _ _ f refl (c.go_on.ensures c.args.header.now k f.devices))

pub returns-in-DisableSlot-clause-followed : goal.returns-in-DisableSlot-clause-followed
unfolding changes changed_by_all changed_by disabled
returns-in-DisableSlot-clause-followed g c = λ k f words may room. success_by _ k _ _ _ _ _ _ words c.in-DisableSlot.is may (λ _. devices_only _ k _ _ _ _ f refl (c.disable_slot.ensures c.args.header.now k f.devices))

pub returns-in-ResetDevice-clause-followed : goal.returns-in-ResetDevice-clause-followed
unfolding changes changed_by_all changed_by disabled
returns-in-ResetDevice-clause-followed g c = λ k f words may room. success_by _ k _ _ _ _ _ _ words c.in-ResetDevice.is may (λ _. devices_only _ k _ _ _ _ f refl (c.drop_endpoints.ensures c.args.header.now k f.devices))

pub returns-in-AddressDevice-clause-followed : goal.returns-in-AddressDevice-clause-followed
unfolding changes addressed
returns-in-AddressDevice-clause-followed g c = λ k f words may room.
    success_by _ k _ _ _ _ _ _ words c.in-AddressDevice.is may (c.address_device.ensures.followed k f (subst (λ x. HasRoom c.args.header.now.context_size x) c.in-AddressDevice.is room))

pub returns-then-deconfigure-clause-followed : goal.returns-then-deconfigure-clause-followed
unfolding changes changed_by_all changed_by disabled
returns-then-deconfigure-clause-followed g c = λ k f words may room.
    let is = c.in-ConfigureEndpoint.is ∙ ap (λ b. ConfigureEndpoint c.in-ConfigureEndpoint.slot b c.in-ConfigureEndpoint.at) c.if-deconfigure.true in
    success_by _ k _ _ _ _ _ _ words is may (λ _. devices_only _ k _ _ _ _ f refl (c.drop_endpoints-then-deconfigure.ensures c.args.header.now k f.devices))

pub returns-else-deconfigure-clause-followed : goal.returns-else-deconfigure-clause-followed
unfolding changes added_endpoints configured
returns-else-deconfigure-clause-followed g c = λ k f words may room.
    let is = c.in-ConfigureEndpoint.is ∙ ap (λ b. ConfigureEndpoint c.in-ConfigureEndpoint.slot b c.in-ConfigureEndpoint.at) c.if-deconfigure.false in
    success_by _ k _ _ _ _ _ _ words is may (c.configure.ensures.followed k f (subst (λ x. HasRoom c.args.header.now.context_size x) is room))

pub returns-in-ResetEndpoint-clause-followed : goal.returns-in-ResetEndpoint-clause-followed
unfolding changes changed_by_all changed_by in_state
returns-in-ResetEndpoint-clause-followed g c = λ k f words may room. success_by _ k _ _ _ _ _ _ words c.in-ResetEndpoint.is may (λ _. devices_only _ k _ _ _ _ f refl (c.reset.ensures c.args.header.now c.args.command.now k f.devices))

pub returns-in-StopEndpoint-clause-followed : goal.returns-in-StopEndpoint-clause-followed
unfolding changes changed_by_all
returns-in-StopEndpoint-clause-followed g c = λ k f words may room. success_by _ k _ _ _ _ _ _ words c.in-StopEndpoint.is may (λ _. c.stop.ensures _ k f)

pub returns-in-SetTrDequeue-clause-followed : goal.returns-in-SetTrDequeue-clause-followed
unfolding changes changed_by_all
returns-in-SetTrDequeue-clause-followed g c = λ k f words may room.
    let h = c.args.header.now in
    let is = c.stopped-placing.ensures in
    success_by h k c.args.command.now _ _ _ _ _ words c.in-SetTrDequeue.is may (λ only.
    let may_point = subst (λ (x : Placing). MayPoint h k x.slot x.index x.pointer x.cycle) (sym is) only.0 in
    subst (λ (x : Placing). FollowsPlaces h (changed_by h c.args.command.now k (Places x.slot x.index x.pointer x.cycle x.state)) c.place.new.rings.items c.place.new.devices) is (c.place.ensures _ k f may_point))
