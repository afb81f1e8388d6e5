use Rattle.leases.proofs.Laws.{◌≡◌, ◌∙◌, ap, sym, Block, same_leased, place_of, shape_of, ended_at, IsFound, block_ends, all_ended}
use Rattle.leases.proofs.book.lease_book.LeaseBookLeaseLog.end_block.Goals as goal

pub returns : goal.returns
returns c = λ list h ts shape known.
    let place : c.place-place.result ≡ place_of (shape_of h c.args.ring.now.id) c.args.position = c.place-place.ensures.value ∙ ap (λ s. place_of s c.args.position) (sym shape) in
    record {
      list =
          block_ends h ts c.args.self.now known c.args.ring.now.id c.args.position c.args.row c.place-place.result c.block_lease.result c.end_at.new.leases.items place c.block_lease.ensures
          (c.end_at.ensures ∙ ap (λ i. ended_at c.block_lease.result c.args.row i c.args.self.now.leases.items) c.get-index.ensures);
      found = all_ended (IsFound h c.args.self.now.blocks c.args.self.now.links) (same_leased (Block c.args.ring.now.id c.args.position)) c.args.row 0 ts known.found;
    }
