use Rattle.event_rows.proofs.Laws.{ap, subst, sym, is_dropped, typed_by_context, View, Disables, SlotGoesOn, places_from, Known, changed_by, changed_by_all, Dropped, FollowsDevices, named_by, MayChangeAll, FollowsPlaces, configured, devices_only, disabled, refl, typed}
use Rattle.event_rows.proofs.completions.success.configure.Goals as goal

pub returns-clause-followed : goal.returns-clause-followed
unfolding changed_by_all changed_by disabled typed configured
returns-clause-followed g c = λ k f ends may.
    let h = c.args.header.now in
    let d = c.args.command.now in
    let s = c.args.named.slot in
    let rs = c.args.t.now.rings.items in
    let words = g.M.WordMemory.words c.args.memory.now in
    let gone : Known = changed_by h d k (SlotGoesOn s) in
    let typed_ : Known = changed_by h d gone (typed_by_context h.context_size words s c.args.named.context) in
    let dropped : Known = changed_by h d typed_ (Disables s (is_dropped words c.args.named.context)) in
    let off : FollowsDevices dropped c.disable.new.self =
    subst (λ w. FollowsDevices (changed_by h d typed_ (Disables s (named_by (Dropped w)))) c.disable.new.self) c.drop_flags.ensures (c.disable.ensures h d typed_ (c.note_types.ensures h d gone (c.go_on.ensures h k f.devices))) in
    let second : FollowsPlaces h dropped rs c.disable.new.self = devices_only h k dropped rs c.args.t.now.devices c.disable.new.self f refl off in
    let same = ap (λ (v : View _). places_from v.size (g.M.WordMemory.words v.memory) s v.address 2) c.in-Some.ensures.view in
    subst (λ xs. FollowsPlaces h (changed_by_all h d dropped xs) c.add_endpoints.new.t.rings.items c.add_endpoints.new.t.devices) same
    (c.add_endpoints.ensures.followed d dropped second (subst (λ xs. MayChangeAll h d dropped xs) (sym same) may.1.1.1))
