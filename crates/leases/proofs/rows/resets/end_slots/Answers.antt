use Rattle.leases.proofs.Laws.{◌≡◌, ◌+◌, ◌≤◌, ◌∙◌, List, Some, arith, ap, subst, sym, Lent, HoldsAll, is_of_slot, open_leases, slot_ranges, all_below, all_slots, below, next_ended, no_slot_yet, none_below, slot_of, slots_lent, slots_numbered, still_there}
use Rattle.leases.proofs.rows.resets.end_slots.Goals as goal

pub loop-slot-init : goal.loop-slot-init
loop-slot-init g c = λ list k memory ts follows fit step all.
    subst (λ (us : List Lent). HoldsAll (g.B.LeaseLog.holds list) c.args.header.now us c.args.book.now c.args.ranges.now)
    (sym (none_below slot_of (open_leases c.args.header.now k) c.args.number ts step.opened 1 (no_slot_yet c.args.header.now k))) all

pub loop-slot-preserved : goal.loop-slot-preserved
loop-slot-preserved g c = λ list k memory ts follows fit step all.
    let h = c.args.header.now in
    let s = c.loop-slot.slot in
    let row = c.args.number in
    let now = open_leases h k in
    let numbered = slots_numbered h k s in
    let lent = slots_lent h k ts step s c.loop-slot.auto.slot (omega (arith, c.loop-slot-test.true)) in
    subst (λ (us : List Lent). HoldsAll (g.B.LeaseLog.holds list) h us c.end_slot.new.book c.args.ranges.now) (next_ended slot_of now row ts step.opened s (slot_ranges h k (Some s)) numbered)
    (c.end_slot.ensures list k memory (below slot_of row ts s) follows fit (still_there slot_of now row ts step.opened s (slot_ranges h k (Some s)) numbered lent)
    (c.loop-slot.invariant list k memory ts follows fit step all))

pub returns : goal.returns
returns g c = λ list k memory ts follows fit step all. absurd (let last = c.loop-slot.auto.slot-end (let one : 1 ≤ 255 = omega arith in one) in omega (arith, last, c.loop-slot-test.false))

pub returns-2 : goal.returns-2
returns-2 g c = λ list k memory ts follows fit step all.
    let h = c.args.header.now in
    let s = c.loop-slot.slot in
    let row = c.args.number in
    let now = open_leases h k in
    let numbered = slots_numbered h k s in
    let lent = slots_lent h k ts step s c.loop-slot.auto.slot (omega (arith, c.loop-slot-test.true)) in
    let last : s + 1 ≡ 256 = omega (arith, c.loop-slot-test.true) in
    subst (λ (us : List Lent). HoldsAll (g.B.LeaseLog.holds list) h us c.end_slot.new.book c.args.ranges.now)
    (next_ended slot_of now row ts step.opened s (slot_ranges h k (Some s)) numbered ∙ ap (below slot_of row ts) last ∙ all_below slot_of now row ts step.opened 256 is_of_slot (all_slots h k))
    (c.end_slot.ensures list k memory (below slot_of row ts s) follows fit (still_there slot_of now row ts step.opened s (slot_ranges h k (Some s)) numbered lent)
    (c.loop-slot.invariant list k memory ts follows fit step all))
