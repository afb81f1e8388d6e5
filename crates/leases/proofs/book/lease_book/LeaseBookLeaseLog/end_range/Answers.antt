use Rattle.leases.proofs.Laws.{Range, same_leased, IsFound, all_ended, range_ends}
use Rattle.leases.proofs.book.lease_book.LeaseBookLeaseLog.end_range.Goals as goal

pub returns : goal.returns
returns c = λ list h ts purpose known stands lent. record {
  list = range_ends ts c.args.row c.args.bytes c.args.address c.args.index purpose c.range_lease.result c.args.self.now.leases.items c.end_at.new.leases.items known.list (c.range_lease.ensures purpose) c.end_at.ensures stands lent;
  found = all_ended (IsFound h c.args.self.now.blocks c.args.self.now.links) (same_leased (Range c.args.bytes c.args.address purpose)) c.args.row 0 ts known.found;
}
