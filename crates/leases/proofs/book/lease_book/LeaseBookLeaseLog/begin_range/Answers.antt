use Rattle.leases.proofs.Laws.{Range, list_begun, range_found}
use Rattle.leases.proofs.book.lease_book.LeaseBookLeaseLog.begin_range.Goals as goal

pub returns : goal.returns
returns c = λ list h ts purpose known. record {
  list = list_begun ts c.args.row (Range c.args.bytes c.args.address purpose) c.args.self.now.leases.items c.push.new.self.items known.list (c.range_lease.ensures purpose) c.in_ok-push.ensures.items;
  found = range_found h c.args.self.now.blocks c.args.self.now.links ts c.args.row c.args.bytes c.args.address purpose known.found;
}
