use Rattle.leases.proofs.Laws.{◌≡◌, ◌≤◌, ◌∙◌, ℕ, List, get_or, refl, sym, ap, arith, subst, HoldsAll, Lent, FollowsRing, is_command_kind, is_passed, among_at, command_found, command_id, command_id_is, driven, floor_number, no_command_ring, ring_here, shape_of, shape_there, Shape, given_count, some_end, command_there, contexts_lent, floor_below, reset_lent, still_open, table_lent, with_commands, without_commands, without_contexts, without_slots, without_table, record_there, contexts_in_step, table_in_step}
use Rattle.leases.proofs.rows.resets.note_reset.Goals as goal

pub returns-in_default : goal.returns-in_default
returns-in_default g c = λ list k ts memory value on next all.
    let h = c.args.header.now in
    let is = c.requires.headed in
    let n = c.args.number in
    let d = next.keeps in
    let first = c.end_slots.ensures list k memory ts next.followed next.tables.entries next.step all in
    let second = c.end_table.ensures list k memory (without_slots h is k d value next.clean on n ts) next.followed (table_lent h is k d value next.clean on n ts (table_in_step h is k d value next.clean on n ts next.step)) first in
    let same = without_commands h is k d value next.clean on n ts next.step.opened (no_command_ring h (sym c.requires.found.commands ∙ c.in_default.is)) ∙ sym (reset_lent h is k d value next.clean on n ts next.step.opened) in
    subst (λ (us : List Lent). HoldsAll (g.B.LeaseLog.holds list) h us c.end_table.new.book c.args.ranges.now) same second

pub returns : goal.returns
returns g c = λ list k ts memory value on next all.
    let h = c.args.header.now in
    let is = c.requires.headed in
    let n = c.args.number in
    let d = next.keeps in
    let x = c.args.ranges.now in
    let q = c.in-Some-get.ring.now in
    let here = ring_here h (λ r. is_command_kind r.shape.kind) h.rings c.in-Some.place q (sym c.requires.found.commands ∙ c.in-Some.is) refl (c.in-Some-get.ensures.lookup.1 ∙ ap (λ xs. get_or xs c.in-Some.place q) c.as_slice-rings.ensures) in
    let among = among_at h.rings c.in-Some.place q here.0 in
    let driver = driven q.shape.kind here.1 in
    let there = record_there _ _ _ _ c.as_slice-records.ensures.value c.in-Some-get-2.ensures.lookup.0 c.in-Some-get-2.ensures.lookup.1 in
    let follows = next.followed.rings.each c.in-Some.place q c.in-Some-get-2.known.now here.0 there driver in
    let id : command_id h ≡ q.id = command_id_is h q (command_found h is q among here.1) in
    let shaped = shape_there h is q among in
    let shape : shape_of h (command_id h) ≡ q.shape = ap (shape_of h) id ∙ shaped in
    let known : FollowsRing q.shape (k.ring (command_id h)) c.in-Some-get-2.known.now = subst (λ (i : ℕ). FollowsRing q.shape (k.ring i) c.in-Some-get-2.known.now) (sym id) follows in
    let first = c.end_slots.ensures list k memory ts next.followed next.tables.entries next.step all in
    let second = c.end_table.ensures list k memory (without_slots h is k d value next.clean on n ts) next.followed (table_lent h is k d value next.clean on n ts (table_in_step h is k d value next.clean on n ts next.step)) first in
    let third = c.end_contexts.ensures list k (without_table h is k d value next.clean on n ts) shape known d (still_open h is k d value next.clean on n ts next.step.opened)
    (contexts_lent h is k d value next.clean on n ts (contexts_in_step h k ts next.step)) second in
    let from : c.floor_number-floor.result ≡ floor_number (k.ring (command_id h)) = c.floor_number-floor.ensures.value q.shape (k.ring (command_id h)) known in
    let to : c.given_count-given.result ≡ given_count (shape_of h (command_id h)) (k.ring (command_id h)) =
    c.given_count-given.ensures q.shape (k.ring (command_id h)) known ∙ ap (λ (s : Shape). given_count s (k.ring (command_id h))) (sym shape) in
    let rises : c.floor_number-floor.result ≤ c.given_count-given.result =
    omega (arith, from, to, floor_below h is k d value next.clean on (command_there h is q among here.1)) in
    let same = with_commands h is k d value next.clean on n ts q.id c.floor_number-floor.result c.given_count-given.result (sym id) from to ∙ sym (reset_lent h is k d value next.clean on n ts next.step.opened) in
    subst (λ (us : List Lent). HoldsAll (g.B.LeaseLog.holds list) h us c.end_passed.new.self x) same
    (record {
      held = c.end_passed.ensures list h (without_contexts h is k d value next.clean on n ts) shaped rises third.held;
      found = some_end h x (is_passed q.id c.floor_number-floor.result c.given_count-given.result) n (without_contexts h is k d value next.clean on n ts) third.found;
    })
