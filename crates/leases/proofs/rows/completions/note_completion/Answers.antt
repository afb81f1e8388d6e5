use Rattle.leases.proofs.Laws.{◌≡◌, ◌+◌, ◌∙◌, ◌==◌, ℕ, List, Bool, get_or, refl, sym, subst, ap, arith, Some, None, map, code, is_command_kind, command_at, next_command, Lent, ended_where, is_passed, some_end, ring_here, shape_there, among_at, HoldsAll, driven, among_drivers, record_there, command_behind, completion_ends, endpoint_rings, has_commands, id, next_here, none_behind, some_commands, entries}
use Rattle.leases.proofs.LeaseRows.CompletionRows.{shape_is}
use Rattle.leases.proofs.LeaseRows.LentEvents.{floors}
use Rattle.leases.proofs.rows.completions.note_completion.Goals as goal

pub returns-in_default : goal.returns-in_default
returns-in_default g c = λ list k ts memory completes ends next all.
    absurd (some_commands c.args.header.now c.requires.headed k ts c.args.event c.args.number c.args.t.now memory next completes (sym c.requires.found.commands ∙ c.in_default.is))

pub returns-in-None : goal.returns-in-None
returns-in-None g c = λ list k ts memory completes ends next all.
    let h = c.args.header.now in
    let moves = floors h c.requires.headed k ts c.args.event c.args.t.now memory next completes in
    let q = c.in-Some-get.ring.now in
    let here = ring_here h (λ r. is_command_kind r.shape.kind) h.rings c.in-Some.place q (sym c.requires.found.commands ∙ c.in-Some.is) refl (c.in-Some-get.ensures.lookup.1 ∙ ap (λ xs. get_or xs c.in-Some.place q) c.as_slice-rings.ensures) in
    let among = among_at h.rings c.in-Some.place q here.0 in
    let driver = driven q.shape.kind here.1 in
    let drives = among_drivers h q among driver in
    let there = record_there _ _ _ _ c.as_slice-records.ensures.value c.in-Some-get-2.ensures.lookup.0 c.in-Some-get-2.ensures.lookup.1 in
    let follows = next.followed.rings.each c.in-Some.place q c.in-Some-get-2.known.now here.0 there driver in
    let p : ℕ = c.floor_number-next.result in
    let at : p ≡ next_command h k = c.floor_number-next.ensures.value q.shape (k.ring q.id) follows ∙ sym (next_here h c.requires.headed k ts c.args.event c.args.number c.args.t.now memory next completes moves q among here.1 drives) in
    let ring = id h c.requires.headed k ts c.args.event c.args.number c.args.t.now memory next completes moves q among here.1 drives in
    let said : command_at h k p ≡ c.command_said.result = ap (command_at h k) at ∙ sym (c.command_said.ensures.same ∙ ends (has_commands h c.requires.headed k ts c.args.event c.args.number c.args.t.now memory next completes)) in
    completion_ends h c.requires.headed k ts c.args.event c.args.number c.args.t.now memory next completes moves q among here.1 drives c.end_passed.new.self c.args.ranges.now p q.id (code c.args.event == 1) None at (sym ring) refl
    (sym (said ∙ c.in-None.is) ∙ ap (command_at h k) at)
    (subst (λ (us : List Lent). HoldsAll (g.B.LeaseLog.holds list) h (map (ended_where (is_passed q.id p (p + 1)) c.args.number) us) c.end_passed.new.self c.args.ranges.now)
    (sym (none_behind h c.requires.headed k ts c.args.event c.args.number c.args.t.now memory next completes p (code c.args.event == 1) ts))
    (record {
      held = c.end_passed.ensures list h ts (shape_there h c.requires.headed q among) (omega arith) all.held;
      found = some_end h c.args.ranges.now _ c.args.number ts all.found;
    }))

pub returns-in-Some-command_said : goal.returns-in-Some-command_said
returns-in-Some-command_said g c = λ list k ts memory completes ends next all.
    let h = c.args.header.now in
    let moves = floors h c.requires.headed k ts c.args.event c.args.t.now memory next completes in
    let q = c.in-Some-get.ring.now in
    let here = ring_here h (λ r. is_command_kind r.shape.kind) h.rings c.in-Some.place q (sym c.requires.found.commands ∙ c.in-Some.is) refl (c.in-Some-get.ensures.lookup.1 ∙ ap (λ xs. get_or xs c.in-Some.place q) c.as_slice-rings.ensures) in
    let among = among_at h.rings c.in-Some.place q here.0 in
    let driver = driven q.shape.kind here.1 in
    let drives = among_drivers h q among driver in
    let there = record_there _ _ _ _ c.as_slice-records.ensures.value c.in-Some-get-2.ensures.lookup.0 c.in-Some-get-2.ensures.lookup.1 in
    let follows = next.followed.rings.each c.in-Some.place q c.in-Some-get-2.known.now here.0 there driver in
    let p : ℕ = c.floor_number-next.result in
    let at : p ≡ next_command h k = c.floor_number-next.ensures.value q.shape (k.ring q.id) follows ∙ sym (next_here h c.requires.headed k ts c.args.event c.args.number c.args.t.now memory next completes moves q among here.1 drives) in
    let ring = id h c.requires.headed k ts c.args.event c.args.number c.args.t.now memory next completes moves q among here.1 drives in
    let said : command_at h k p ≡ c.command_said.result = ap (command_at h k) at ∙ sym (c.command_said.ensures.same ∙ ends (has_commands h c.requires.headed k ts c.args.event c.args.number c.args.t.now memory next completes)) in
    let s : Bool = c.code-success.result == 1 in
    let tells : s ≡ (code c.args.event == 1) = ap (λ (x : ℕ). x == 1) c.code-success.ensures in
    let says = sym (said ∙ c.in-Some-command_said.is) ∙ ap (command_at h k) at in
    let may = command_behind h c.requires.headed k ts c.args.event c.args.number c.args.t.now memory next completes moves p s (Some c.in-Some-command_said.command) at tells says in
    let ended = c.end_command.ensures list k memory ts next.followed (endpoint_rings h c.requires.headed k ts c.args.event c.args.number c.args.t.now memory next completes) (entries h c.requires.headed k ts c.args.event c.args.t.now memory next) may.0 (shape_is h c.requires.headed k ts c.args.event c.args.number c.args.t.now memory next completes moves q among here.1 drives) may.1 may.2 all in
    completion_ends h c.requires.headed k ts c.args.event c.args.number c.args.t.now memory next completes moves q among here.1 drives c.end_passed-in-Some-command_said.new.self c.args.ranges.now p q.id s (Some c.in-Some-command_said.command) at (sym ring) tells says
    (record {
      held = c.end_passed-in-Some-command_said.ensures list h _ (shape_there h c.requires.headed q among) (omega arith) ended.held;
      found = some_end h c.args.ranges.now _ c.args.number _ ended.found;
    })
