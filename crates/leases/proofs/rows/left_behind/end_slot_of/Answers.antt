use Rattle.leases.proofs.Laws.{List, map, ap, subst, sym, Leased, ended_where, is_among, HoldsAll, AreLent, slot_let_go, disables_none, leaves_none, none_ended}
use Rattle.leases.proofs.rows.left_behind.end_slot_of.Goals as goal

pub returns-in_default : goal.returns-in_default
returns-in_default g c = λ list k memory ts follows fit lent all.
    none_ended c.args.header.now c.args.number ts c.args.book.now c.args.ranges.now _ (leaves_none c.args.header.now k c.args.command (disables_none c.args.command (λ s is. c.in_default.not-DisableSlot s is))) all

pub returns : goal.returns
returns g c = λ list k memory ts follows fit lent all.
    let h = c.args.header.now in
    let is = ap (slot_let_go h k) c.in-DisableSlot.is in
    subst (λ (ls : List Leased). HoldsAll (g.B.LeaseLog.holds list) h (map (ended_where (is_among ls) c.args.number) ts) c.end_slot.new.book c.args.ranges.now) (sym is)
    (c.end_slot.ensures list k memory ts follows fit (subst (AreLent ts) is lent) all)
