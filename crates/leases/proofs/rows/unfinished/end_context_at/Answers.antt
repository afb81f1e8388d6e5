use Rattle.leases.proofs.Laws.{◌≡◌, ◌∙◌, None, Option, Some, map, ap, subst, sym, Command, ended_where, is_among, range_of_command, command_at, command_id, AreLent, HoldsAll, none_ended}
use Rattle.leases.proofs.rows.unfinished.end_context_at.Goals as goal

pub returns-in_default : goal.returns-in_default
unfolding command_at range_of_command
returns-in_default g c = λ list k ts shaped follows low lent all.
    let h = c.args.header.now in
    let p = c.args.position in
    let none : command_at h k p ≡ None = sym (c.declared_command.ensures c.args.ring.now.shape (k.ring (command_id h)) follows low) ∙ sym c.command_said.ensures.same ∙ c.in_default.is in
    none_ended h c.args.number ts c.args.book.now c.args.ranges.now _ (ap (range_of_command h p) none) all

pub returns : goal.returns
unfolding command_at
returns g c = λ list k ts shaped follows low lent all.
    let h = c.args.header.now in
    let p = c.args.position in
    let some : command_at h k p ≡ Some c.in-Some.command = sym (c.declared_command.ensures c.args.ring.now.shape (k.ring (command_id h)) follows low) ∙ sym c.command_said.ensures.same ∙ c.in-Some.is in
    subst (λ (o : Option Command). HoldsAll (g.B.LeaseLog.holds list) h (map (ended_where (is_among (range_of_command h p o)) c.args.number) ts) c.end_context_of.new.book c.args.ranges.now) (sym some)
    (c.end_context_of.ensures list ts shaped (subst (λ (o : Option Command). AreLent ts (range_of_command h p o)) some lent) all)
