use Rattle.leases.proofs.Laws.{◌≡◌, ◌∙◌, ap, sym, refl, subst, place_of, shape_of, Lease, Block, put_at, Begins, goes_on, free_none, block_numbered}
use Rattle.leases.proofs.log.certificate_log.CertificateLogLeaseLog.begin_block.Goals as goal

pub returns : goal.returns
returns c = λ list h ts shape known free.
    let place : c.place-place.result ≡ place_of (shape_of h c.args.ring.now.id) c.args.position = c.place-place.ensures.value ∙ ap (λ s. place_of s c.args.position) (sym shape) in
    goes_on list h ts c.args.self.now.list c.args.self.now.blocks c.args.self.now.links known (Block c.args.ring.now.id c.args.position) c.args.row c.begin.new.self c.put.new.self c.args.self.now.links
    (subst (λ (l : Lease). Begins l c.args.self.now.list c.begin.new.self) c.block_lease.ensures c.in_ok-begin.ensures)
    (block_numbered h c.args.self.now.blocks c.args.self.now.links c.put.new.self c.args.ring.now.id c.args.position c.begin.new.self.begun
    (put_at c.args.self.now.blocks c.put.new.self c.args.ring.now.id _ _ _ _ place refl (record { same = c.in_ok-put.ensures.same; ring = c.in_ok-put.ensures.ring; others = λ s m. c.in_ok-put.ensures.others s m })))
    (free_none h ts (Block c.args.ring.now.id c.args.position) free) tt
