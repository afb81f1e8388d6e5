use Rattle.leases.proofs.Laws.{◌∙◌, first_found, first_list}
use Rattle.leases.proofs.book.lease_book.LeaseBook.new.Goals as goal

pub returns : goal.returns
returns c = λ first. record {
  list = c.in_ok-opening_leases.ensures ∙ first_list c.args.header.now first;
  found = first_found c.args.header.now first c.in_ok-new.field-0 c.in_ok-new-2.field-0;
}
