use Rattle.leases.proofs.Laws.{◌≡◌, ◌∙◌, ap, sym, refl, subst, unwrap_or, is_crossing, link_crossed, link_of, shape_of, Lease, Link, put_at, Begins, goes_on, free_none, link_numbered}
use Rattle.leases.proofs.log.certificate_log.CertificateLogLeaseLog.begin_link.Goals as goal

pub returns : goal.returns
unfolding link_of
returns c = λ list h ts shape crosses known free.
    let place : c.unwrap_or-segment.result ≡ link_of (shape_of h c.args.ring.now.id) c.args.crossing =
    c.unwrap_or-segment.ensures ∙ ap (λ o. unwrap_or o 0) (c.crossing.ensures.value ∙ ap (λ s. link_crossed s c.args.crossing) (sym shape)) in
    goes_on list h ts c.args.self.now.list c.args.self.now.blocks c.args.self.now.links known (Link c.args.ring.now.id c.args.crossing) c.args.row c.begin.new.self c.args.self.now.blocks c.put.new.self
    (subst (λ (l : Lease). Begins l c.args.self.now.list c.begin.new.self) c.link_lease.ensures c.in_ok-begin.ensures)
    (link_numbered h c.args.self.now.blocks c.args.self.now.links c.put.new.self c.args.ring.now.id c.args.crossing c.begin.new.self.begun
    (put_at c.args.self.now.links c.put.new.self c.args.ring.now.id _ _ _ _ place refl (record { same = c.in_ok-put.ensures.same; ring = c.in_ok-put.ensures.ring; others = λ s m. c.in_ok-put.ensures.others s m })))
    (free_none h ts (Link c.args.ring.now.id c.args.crossing) free) (ap (λ s. is_crossing s c.args.crossing) shape ∙ crosses)
