use Rattle.leases.proofs.Laws.{◌∙◌, ◌==◌, ℕ, get_or, refl, sym, ap, arith, eqb-true, endpoint, code_told, come_to, some_end, ring_here, shape_there, among_at, held_still, record_there, comes, driver_kind, keeps, other_lent, ring_keeps, ring_of_header, transfer_ends, unbound_lent, unnamed_lent}
use Rattle.leases.proofs.rows.events.note_transfer.Goals as goal

pub returns-then-not-is_transfer : goal.returns-then-not-is_transfer
returns-then-not-is_transfer g c = λ list k ts memory ranges other next all.
    let h = c.args.header.now in
    held_still h c.requires.headed k ts c.args.book.now ranges _ c.args.number (other_lent h c.requires.headed k ts c.args.event c.args.number c.args.t.now memory next (sym c.is_transfer.ensures ∙ c.if-not-is_transfer.true) other) all

pub returns-in_default : goal.returns-in_default
returns-in_default g c = λ list k ts memory ranges other next all.
    let h = c.args.header.now in
    let d = keeps h c.requires.headed k ts c.args.event c.args.number c.args.t.now memory next in
    let b = c.args.event in
    let of = ap (λ (s : ℕ). k.ring_of s (endpoint b)) (sym c.slot.ensures) ∙ ap (λ (i : ℕ). k.ring_of c.slot.result i) (sym c.endpoint.ensures) ∙ sym (c.ring_of.ensures k next.followed.devices) ∙ c.in_default.is in
    held_still h c.requires.headed k ts c.args.book.now ranges _ c.args.number (unbound_lent h c.requires.headed k ts c.args.event c.args.number c.args.t.now memory next (sym c.is_transfer.ensures ∙ c.if-not-is_transfer.false) of) all

pub returns-in_default-ring_named : goal.returns-in_default-ring_named
returns-in_default-ring_named g c = λ list k ts memory ranges other next all.
    let h = c.args.header.now in
    let d = keeps h c.requires.headed k ts c.args.event c.args.number c.args.t.now memory next in
    let b = c.args.event in
    let of = ap (λ (s : ℕ). k.ring_of s (endpoint b)) (sym c.slot.ensures) ∙ ap (λ (i : ℕ). k.ring_of c.slot.result i) (sym c.endpoint.ensures) ∙ sym (c.ring_of.ensures k next.followed.devices) ∙ c.in-Some.is in
    absurd (ring_of_header h k d _ _ c.in-Some.id of (sym (c.ring_named.ensures h.rings c.requires.found) ∙ c.in_default-ring_named.is))

pub returns-in_default-named_by : goal.returns-in_default-named_by
returns-in_default-named_by g c = λ list k ts memory ranges other next all.
    let h = c.args.header.now in
    let d = keeps h c.requires.headed k ts c.args.event c.args.number c.args.t.now memory next in
    let b = c.args.event in
    let of = ap (λ (s : ℕ). k.ring_of s (endpoint b)) (sym c.slot.ensures) ∙ ap (λ (i : ℕ). k.ring_of c.slot.result i) (sym c.endpoint.ensures) ∙ sym (c.ring_of.ensures k next.followed.devices) ∙ c.in-Some.is in
    let q = c.in-Some-get.ring.now in
    let here = ring_here h (λ q. q.id == c.in-Some.id) h.rings c.in-Some-ring_named.place q (sym (c.ring_named.ensures h.rings c.requires.found) ∙ c.in-Some-ring_named.is) refl (c.in-Some-get.ensures.lookup.1 ∙ ap (λ xs. get_or xs c.in-Some-ring_named.place q) c.as_slice-rings.ensures) in
    let among = among_at h.rings c.in-Some-ring_named.place q here.0 in
    let id = eqb-true q.id c.in-Some.id here.1 in
    let transfers = sym c.is_transfer.ensures ∙ c.if-not-is_transfer.false in
    let r = c.in-Some-get-2.known.now in
    let there = record_there _ _ _ _ c.as_slice-records.ensures.value c.in-Some-get-2.ensures.lookup.0 c.in-Some-get-2.ensures.lookup.1 in
    let follows = next.followed.rings.each c.in-Some-ring_named.place q r here.0 there (driver_kind h c.requires.headed k ts b c.args.number c.args.t.now memory next transfers c.in-Some.id of q among id) in
    let ring = ring_keeps h c.requires.headed k ts b c.args.number c.args.t.now memory next transfers c.in-Some.id of q among id in
    let named_is = sym (c.named_by.ensures.value (k.ring q.id) follows ring.is_spot) in
    held_still h c.requires.headed k ts c.args.book.now ranges _ c.args.number
    (unnamed_lent h c.requires.headed k ts c.args.event c.args.number c.args.t.now memory next transfers c.in-Some.id of q among id (named_is ∙ c.in_default-named_by.is)) all

pub returns : goal.returns
returns g c = λ list k ts memory ranges other next all.
    let h = c.args.header.now in
    let d = keeps h c.requires.headed k ts c.args.event c.args.number c.args.t.now memory next in
    let b = c.args.event in
    let of = ap (λ (s : ℕ). k.ring_of s (endpoint b)) (sym c.slot.ensures) ∙ ap (λ (i : ℕ). k.ring_of c.slot.result i) (sym c.endpoint.ensures) ∙ sym (c.ring_of.ensures k next.followed.devices) ∙ c.in-Some.is in
    let q = c.in-Some-get.ring.now in
    let here = ring_here h (λ q. q.id == c.in-Some.id) h.rings c.in-Some-ring_named.place q (sym (c.ring_named.ensures h.rings c.requires.found) ∙ c.in-Some-ring_named.is) refl (c.in-Some-get.ensures.lookup.1 ∙ ap (λ xs. get_or xs c.in-Some-ring_named.place q) c.as_slice-rings.ensures) in
    let among = among_at h.rings c.in-Some-ring_named.place q here.0 in
    let id = eqb-true q.id c.in-Some.id here.1 in
    let transfers = sym c.is_transfer.ensures ∙ c.if-not-is_transfer.false in
    let r = c.in-Some-get-2.known.now in
    let there = record_there _ _ _ _ c.as_slice-records.ensures.value c.in-Some-get-2.ensures.lookup.0 c.in-Some-get-2.ensures.lookup.1 in
    let follows = next.followed.rings.each c.in-Some-ring_named.place q r here.0 there (driver_kind h c.requires.headed k ts b c.args.number c.args.t.now memory next transfers c.in-Some.id of q among id) in
    let ring = ring_keeps h c.requires.headed k ts b c.args.number c.args.t.now memory next transfers c.in-Some.id of q among id in
    let named_is = sym (c.named_by.ensures.value (k.ring q.id) follows ring.is_spot) in
    let spot = c.in-Some-named_by.spot in
    let is = named_is ∙ c.in-Some-named_by.is in
    let floor = c.floor_number-floor.ensures.value q.shape (k.ring q.id) follows in
    let reached = c.come_to-reached.ensures ∙ ap (λ (x : ℕ). come_to x spot c.floor_number-floor.result) (c.code_told.ensures k next.followed.devices) ∙ ap (λ (n : ℕ). come_to (code_told h k b) spot n) floor in
    let rises = comes h c.requires.headed k ts c.args.event c.args.number c.args.t.now memory next transfers c.in-Some.id of q among id spot is in
    transfer_ends h c.requires.headed k ts c.args.event c.args.number c.args.t.now memory next transfers c.in-Some.id of q among id spot is c.end_passed.new.self ranges _ _ floor reached
    (record {
      held = c.end_passed.ensures list h ts (shape_there h c.requires.headed q among) (omega (arith, rises, floor, reached)) all.held;
      found = some_end h ranges _ c.args.number ts all.found;
    })
