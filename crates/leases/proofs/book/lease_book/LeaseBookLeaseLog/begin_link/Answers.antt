use Rattle.leases.proofs.Laws.{◌≡◌, ◌∙◌, ap, sym, unwrap_or, Link, link_of, shape_of, link_crossed, is_crossing, link_found, list_begun, length_held, put_at}
use Rattle.leases.proofs.book.lease_book.LeaseBookLeaseLog.begin_link.Goals as goal

pub returns : goal.returns
unfolding link_of
returns c = λ list h ts shape crosses known free.
    let place : c.unwrap_or-segment.result ≡ link_of (shape_of h c.args.ring.now.id) c.args.crossing =
    c.unwrap_or-segment.ensures ∙ ap (λ o. unwrap_or o 0) (c.crossing.ensures.value ∙ ap (λ s. link_crossed s c.args.crossing) (sym shape)) in
    let index : c.len-index.result ≡ c.args.self.now.leases.len = c.len-index.ensures in
    record {
      list = list_begun ts c.args.row (Link c.args.ring.now.id c.args.crossing) c.args.self.now.leases.items c.push.new.self.items known.list c.link_lease.ensures c.in_ok-push.ensures.items;
      found =
          link_found h c.args.self.now.links c.put.new.self c.args.self.now.blocks c.args.ring.now.id c.args.crossing c.args.row ts
          (ap (λ s. is_crossing s c.args.crossing) shape ∙ crosses) known.found
          (put_at c.args.self.now.links c.put.new.self c.args.ring.now.id _ _ _ _ place (index ∙ c.args.self.now.leases.ok.0 ∙ length_held h ts c.args.self.now known)
          (record { same = c.in_ok-put.ensures.same; ring = c.in_ok-put.ensures.ring; others = λ s m. c.in_ok-put.ensures.others s m })) free;
    }
