use Rattle.leases.proofs.LeaseRows.EndedRanges.{failed_behind, moves_when, slot_still, succeeded_behind}
use Rattle.leases.proofs.rows.left_behind.end_command.Goals as goal

pub returns-then-not-success : goal.returns-then-not-success
returns-then-not-success g c = λ list k memory ts follows rings fit on shaped context slot all.
    failed_behind c.args.header.now k c.args.number c.args.position c.args.command c.args.success ts c.end_context_of.new.book c.args.ranges.now c.if-not-success.true (c.end_context_of.ensures list ts shaped context all)

pub returns : goal.returns
returns g c = λ list k memory ts follows rings fit on shaped context slot all.
    let h = c.args.header.now in
    let succeeds = c.if-not-success.false in
    succeeded_behind h k c.args.number c.args.position c.args.command c.args.success ts c.end_moved.new.book c.args.ranges.now succeeds
    (c.end_moved.ensures list k memory _ c.args.ranges.now follows rings (moves_when h k c.args.command c.args.success succeeds on)
    (c.end_slot_of.ensures list k memory _ follows fit (slot_still h k c.args.number c.args.position c.args.command c.args.success ts succeeds slot)
    (c.end_context_of.ensures list ts shaped context all)))
