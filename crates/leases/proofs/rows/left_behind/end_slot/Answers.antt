use Rattle.leases.proofs.Laws.{sym, ◌∙◌, device_lent, ends_all, leaves_empty, leaves_two, lent_of, none_ended, two_ended}
use Rattle.leases.proofs.rows.left_behind.end_slot.Goals as goal

pub returns-in_default : goal.returns-in_default
returns-in_default g c = λ list k memory ts follows fit lent all.
    none_ended c.args.header.now c.args.number ts c.args.book.now c.args.ranges.now _ (leaves_empty c.args.header.now k c.args.slot (sym (c.device.ensures k follows.devices) ∙ c.in_default.is)) all

pub returns : goal.returns
returns g c = λ list k memory ts follows fit lent all.
    let h = c.args.header.now in
    let s = c.args.slot in
    let d = c.in-Some.device in
    let some = sym (c.device.ensures k follows.devices) ∙ c.in-Some.is in
    let at = c.slot_entry-entry.ensures k follows.registers (fit s d some) in
    let two = leaves_two h k s d c.slot_entry-entry.result c.device_bytes-bytes.result some at c.device_bytes-bytes.ensures in
    let first = ends_all (g.B.LeaseLog.holds list) h c.args.number ts c.end_entry.new.book c.args.ranges.now _ (c.end_entry.ensures list h ts all.held all.found (lent_of ts _ _ _ two lent)) all.found in
    two_ended h c.args.number ts c.end_device.new.book c.args.ranges.now _ _ _ two
    (ends_all (g.B.LeaseLog.holds list) h c.args.number _ c.end_device.new.book c.args.ranges.now _
    (c.end_device.ensures list h _ first.held first.found (device_lent c.args.number ts _ _ _ _ _ _ _ two lent)) first.found)
