use Rattle.leases.proofs.Laws.{◌≡◌, ◌∙◌, ap, sym, unwrap_or, Link, same_leased, link_crossed, link_of, crossing_positive, shape_of, ended_at, IsFound, link_ends, all_ended}
use Rattle.leases.proofs.book.lease_book.LeaseBook.end_link.Goals as goal

pub returns : goal.returns
unfolding link_of
returns c = λ h ts shape known.
    let place : c.unwrap_or-segment.result ≡ link_of (shape_of h c.args.ring.now.id) c.args.crossing =
    c.unwrap_or-segment.ensures ∙ ap (λ o. unwrap_or o 0) (c.crossing.ensures.value ∙ ap (λ s. link_crossed s c.args.crossing) (sym shape)) in
    record {
      list =
          link_ends h ts c.args.self.now known c.args.ring.now.id c.args.crossing c.args.row c.unwrap_or-segment.result c.link_lease.result c.end_at.new.leases.items
          (crossing_positive c.args.ring.now.shape c.args.crossing c.requires) place c.link_lease.ensures
          (c.end_at.ensures ∙ ap (λ i. ended_at c.link_lease.result c.args.row i c.args.self.now.leases.items) c.get-index.ensures);
      found = all_ended (IsFound h c.args.self.now.blocks c.args.self.now.links) (same_leased (Link c.args.ring.now.id c.args.crossing)) c.args.row 0 ts known.found;
    }
