use Rattle.certificate.proofs.Laws.{◌∙◌, ◌++◌, ap, append-nil, append_assoc, subst, sym, take_rest, AreSeen, leases_in, leases_in-push}
use Rattle.certificate.proofs.records_so_far.Records.take.Goals as goal

pub loop-record-init : goal.loop-record-init
unfolding leases_in
loop-record-init c = λ seen h. subst (AreSeen c.args.self.now) (sym (append-nil seen)) h

pub loop-record-preserved : goal.loop-record-preserved
loop-record-preserved c = λ seen h.
    let next = rw (c.lease_in.ensures, take_rest) at (c.in_ok-push.ensures (seen ++ leases_in c.args.piece.now c.loop-record.record) (c.loop-record.invariant seen h)) in
    subst (AreSeen c.push.new.self) (append_assoc seen _ _ ∙ ap (λ l. seen ++ l) (sym (leases_in-push c.args.piece.now c.loop-record.record))) next
