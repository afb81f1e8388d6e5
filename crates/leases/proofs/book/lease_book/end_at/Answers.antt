use Rattle.leases.proofs.Laws.{◌∙◌, sym, ap, slice_get, at_some}
use Rattle.leases.proofs.book.lease_book.end_at.Goals as goal

pub returns-then-is_open_as : goal.returns-then-is_open_as
returns-then-is_open_as c =
    c.set_lease.ensures
    ∙ sym (at_some c.args.sought c.args.row c.args.index c.args.leases.now.items c.in-Some.lease
    (sym (ap (λ xs. slice_get xs c.args.index) c.as_slice.ensures.value) ∙ sym c.lease_at.ensures ∙ c.in-Some.is)
    ∙ rw (sym c.is_open_as.ensures ∙ c.if-is_open_as.true))

pub returns-else-is_open_as : goal.returns-else-is_open_as
returns-else-is_open_as c =
    sym (at_some c.args.sought c.args.row c.args.index c.args.leases.now.items c.in-Some.lease
    (sym (ap (λ xs. slice_get xs c.args.index) c.as_slice.ensures.value) ∙ sym c.lease_at.ensures ∙ c.in-Some.is)
    ∙ rw (sym c.is_open_as.ensures ∙ c.if-is_open_as.false))
