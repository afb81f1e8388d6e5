use Rattle.leases.proofs.Laws.{◌≤◌, ◌∙◌, ◌==◌, ℕ, get_or, refl, sym, subst, ap, arith, Some, eqb-true, target, floor_number, number, ring_here, shape_there, among_at, MovesOn, record_there, endpoint_driven, endpoint_named, ends_all, moved_is, moved_none, moves_none, none_past, some_past}
use Rattle.leases.proofs.rows.left_behind.end_moved.Goals as goal

pub returns-in_default : goal.returns-in_default
returns-in_default g c = λ list k memory ts ranges follows rings on all.
    none_past c.args.header.now k c.args.number ts c.args.book.now ranges _ (moves_none c.args.header.now k c.args.command (λ s i p cycle is. c.in_default.not-SetTrDequeue s i p cycle is)) all

pub returns-in_default-ring_of : goal.returns-in_default-ring_of
returns-in_default-ring_of g c = λ list k memory ts ranges follows rings on all.
    let h = c.args.header.now in
    let is = c.in-SetTrDequeue.is in
    none_past h k c.args.number ts c.args.book.now ranges _ (moved_none h k c.args.command _ _ _ _ is (sym (c.ring_of.ensures k follows.devices) ∙ c.in_default-ring_of.is)) all

pub returns-in_default-ring_named : goal.returns-in_default-ring_named
returns-in_default-ring_named g c = λ list k memory ts ranges follows rings on all.
    absurd (endpoint_named c.args.header.now k rings _ _ c.in-Some.id (sym (c.ring_of.ensures k follows.devices) ∙ c.in-Some.is) (sym (c.ring_named.ensures c.args.header.now.rings c.requires.found) ∙ c.in_default-ring_named.is))

pub returns-in_default-target : goal.returns-in_default-target
returns-in_default-target g c = λ list k memory ts ranges follows rings on all.
    let h = c.args.header.now in
    let is = c.in-SetTrDequeue.is in
    let of = sym (c.ring_of.ensures k follows.devices) ∙ c.in-Some.is in
    let q = c.in-Some-get.ring.now in
    let here = ring_here h (λ q. q.id == c.in-Some.id) h.rings c.in-Some-ring_named.place q (sym (c.ring_named.ensures h.rings c.requires.found) ∙ c.in-Some-ring_named.is) refl (c.in-Some-get.ensures.lookup.1 ∙ ap (λ xs. get_or xs c.in-Some-ring_named.place q) c.as_slice-rings.ensures) in
    let among = among_at h.rings c.in-Some-ring_named.place q here.0 in
    let id = eqb-true q.id c.in-Some.id here.1 in
    let r = c.in-Some-get-2.known.now in
    let there = record_there _ _ _ _ c.as_slice-records.ensures.value c.in-Some-get-2.ensures.lookup.0 c.in-Some-get-2.ensures.lookup.1 in
    let ring = follows.rings.each c.in-Some-ring_named.place q r here.0 there (endpoint_driven h c.requires.headed k rings _ _ c.in-Some.id q of among id) in
    let of_q = of ∙ ap (λ (x : ℕ). Some x) (sym id) in
    let at = ap (λ s. target s (k.ring q.id) c.in-SetTrDequeue.dequeue c.in-SetTrDequeue.cycle) (shape_there h c.requires.headed q among) ∙ sym (c.target.ensures.value (k.ring q.id) ring) in
    none_past h k c.args.number ts c.args.book.now ranges _ (moved_is h k c.args.command _ _ _ _ q.id _ is of_q (at ∙ c.in_default-target.is)) all

pub returns : goal.returns
returns g c = λ list k memory ts ranges follows rings on all.
    let h = c.args.header.now in
    let is = c.in-SetTrDequeue.is in
    let of = sym (c.ring_of.ensures k follows.devices) ∙ c.in-Some.is in
    let q = c.in-Some-get.ring.now in
    let here = ring_here h (λ q. q.id == c.in-Some.id) h.rings c.in-Some-ring_named.place q (sym (c.ring_named.ensures h.rings c.requires.found) ∙ c.in-Some-ring_named.is) refl (c.in-Some-get.ensures.lookup.1 ∙ ap (λ xs. get_or xs c.in-Some-ring_named.place q) c.as_slice-rings.ensures) in
    let among = among_at h.rings c.in-Some-ring_named.place q here.0 in
    let id = eqb-true q.id c.in-Some.id here.1 in
    let r = c.in-Some-get-2.known.now in
    let there = record_there _ _ _ _ c.as_slice-records.ensures.value c.in-Some-get-2.ensures.lookup.0 c.in-Some-get-2.ensures.lookup.1 in
    let ring = follows.rings.each c.in-Some-ring_named.place q r here.0 there (endpoint_driven h c.requires.headed k rings _ _ c.in-Some.id q of among id) in
    let of_q = of ∙ ap (λ (x : ℕ). Some x) (sym id) in
    let at = ap (λ s. target s (k.ring q.id) c.in-SetTrDequeue.dequeue c.in-SetTrDequeue.cycle) (shape_there h c.requires.headed q among) ∙ sym (c.target.ensures.value (k.ring q.id) ring) in
    let some = moved_is h k c.args.command _ _ _ _ q.id _ is of_q (at ∙ c.in-Some-target.is) in
    let floor = c.floor_number-floor.ensures.value q.shape (k.ring q.id) ring in
    let reached = c.number-reached.ensures in
    let rises : floor_number (k.ring q.id) ≤ number c.in-Some-target.spot = subst (MovesOn k) some on in
    some_past h k c.args.number ts c.end_passed.new.self ranges _ q.id _ _ _ some floor reached
    (ends_all (g.B.LeaseLog.holds list) h c.args.number ts c.end_passed.new.self ranges _ (c.end_passed.ensures list h ts (shape_there h c.requires.headed q among) (omega (arith, rises, floor, reached)) all.held) all.found)
