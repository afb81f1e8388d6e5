use Rattle.leases.proofs.Laws.{taken_device, on_more, all_more, still_free_slot}
use Rattle.leases.proofs.rows.taking.begin_command.Goals as goal

pub returns : goal.returns
returns g c =
    on_more c.begin_context_of.result (λ begins. λ list k ts follows fits shaped slot context all.
    let h = c.args.header.now in
    all_more h c.args.number c.begin_context_of.new.book c.begin_context_of.new.ranges ts _ _
    (begins list _ shaped (still_free_slot h k c.args.number ts c.args.position (taken_device k c.args.command) context) (c.in_ok-begin_device_of.ensures list k ts follows fits slot all))) c.begin_context_of.ensures
