use Rattle.certificate.proofs.Laws.{ap, length, bad_seen, bad_stays, good_seen, sym, ◌∙◌}
use Rattle.certificate.proofs.records_so_far.Records.push.Goals as goal

pub returns-then-is_some : goal.returns-then-is_some
returns-then-is_some c = λ seen h. bad_stays _ _ seen c.args.lease (sym c.is_some.ensures ∙ c.if-is_some.true) h

pub returns-in_ok-push : goal.returns-in_ok-push
returns-in_ok-push c = λ seen h.
    good_seen _ _ _ seen c.args.lease (sym c.is_some.ensures ∙ c.if-is_some.false) (sym c.has_lease_fields.ensures ∙ c.if-has_lease_fields.true) c.in_ok-push.ensures.items h

pub returns-else-has_lease_fields : goal.returns-else-has_lease_fields
returns-else-has_lease_fields c = λ seen h.
    (bad_seen _ _ seen c.args.lease _ (sym c.is_some.ensures ∙ c.if-is_some.false) (sym c.has_lease_fields.ensures ∙ c.if-has_lease_fields.false) (ap length c.as_slice.ensures.value) h, λ e. absurd (cc))
