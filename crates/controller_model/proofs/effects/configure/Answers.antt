use Rattle.controller_model.proofs.Laws.{◌≡◌, ap, slice_index, has_isochronous, input_add_flag, is_dropped, added_endpoints, changed_by, changed_by_all, changes, disabled, typed, gone, onward}
use Rattle.controller_model.proofs.effects.configure.Goals as goal

pub returns-then-deconfigure-clause-change : goal.returns-then-deconfigure-clause-change
unfolding changes changed_by changed_by_all
returns-then-deconfigure-clause-change g c = λ h words n w final lists made f.
    onward (rw c.if-deconfigure.true at made)
    (c.disable.ensures.change h words (gone c.args.command.now w c.args.slot) (c.go_on.ensures.change h words w f))

pub returns-clause-change : goal.returns-clause-change
unfolding changes changed_by changed_by_all added_endpoints
returns-clause-change g c = λ h words n w final lists made f.
    let memory = g.M.WordMemory.words c.args.memory.now in
    let size = c.args.header.now.context_size in
    let v = gone c.args.command.now w c.args.slot in
    let u = typed v c.args.slot (input_add_flag memory c.args.context) (has_isochronous size memory c.args.context) in
    let now = c.disable-2.ensures.change h words u (c.type_added.ensures.change h words v (c.go_on.ensures.change h words w f)) in
    let flags : slice_index c.block_at.result.w 0 ≡ memory c.args.context = ap (λ b. slice_index b.w 0) c.block_at.ensures in
    c.in_ok-place_all.ensures.change h words c.args.command.now (disabled u c.args.slot (is_dropped memory c.args.context)) final lists (rw c.if-deconfigure.false at made) (rw flags at now)
