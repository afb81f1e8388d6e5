use Rattle.leases.proofs.Laws.{◌≡◌, ◌∙◌, ap, sym, Block, place_of, shape_of, block_found, list_begun, length_held, put_at}
use Rattle.leases.proofs.book.lease_book.LeaseBookLeaseLog.begin_block.Goals as goal

pub returns : goal.returns
returns c = λ list h ts shape known free.
    let place : c.place-place.result ≡ place_of (shape_of h c.args.ring.now.id) c.args.position = c.place-place.ensures.value ∙ ap (λ s. place_of s c.args.position) (sym shape) in
    let index : c.len-index.result ≡ c.args.self.now.leases.len = c.len-index.ensures in
    record {
      list = list_begun ts c.args.row (Block c.args.ring.now.id c.args.position) c.args.self.now.leases.items c.push.new.self.items known.list c.block_lease.ensures c.in_ok-push.ensures.items;
      found =
          block_found h c.args.self.now.blocks c.put.new.self c.args.self.now.links c.args.ring.now.id c.args.position c.args.row ts known.found
          (put_at c.args.self.now.blocks c.put.new.self c.args.ring.now.id _ _ _ _ place (index ∙ c.args.self.now.leases.ok.0 ∙ length_held h ts c.args.self.now known)
          (record { same = c.in_ok-put.ensures.same; ring = c.in_ok-put.ensures.ring; others = λ s m. c.in_ok-put.ensures.others s m })) free;
    }
