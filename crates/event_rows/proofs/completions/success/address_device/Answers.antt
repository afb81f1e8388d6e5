use Rattle.event_rows.proofs.Laws.{ap, subst, sym, SlotGoesOn, placed_by_context, Known, changed_by, changed_by_all, MayChange, View, FollowsPlaces, addressed, devices_only, refl}
use Rattle.event_rows.proofs.completions.success.address_device.Goals as goal

pub returns-clause-followed : goal.returns-clause-followed
unfolding changed_by_all changed_by addressed
returns-clause-followed g c = λ k f ends may.
    let h = c.args.header.now in
    let d = c.args.command.now in
    let s = c.args.named.slot in
    let rs = c.args.t.now.rings.items in
    let gone : Known = changed_by h d k (SlotGoesOn s) in
    let first : FollowsPlaces h gone rs c.go_on.new.self = devices_only h k gone rs c.args.t.now.devices c.go_on.new.self f refl (c.go_on.ensures h k f.devices) in
    let same = ap (λ (v : View _). placed_by_context v.size (g.M.WordMemory.words v.memory) s v.address 1) c.in-Some.ensures.view in
    subst (λ x. FollowsPlaces h (changed_by h d gone x) c.place_by_context.new.t.rings.items c.place_by_context.new.t.devices) same
    (c.place_by_context.ensures.followed d gone first (subst (λ x. MayChange h gone x) (sym same) may.1.0))
