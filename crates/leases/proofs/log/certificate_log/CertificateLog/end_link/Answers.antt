use Rattle.leases.proofs.Laws.{◌≡◌, ◌∙◌, List, map, ap, sym, refl, subst, arith, unwrap_or, is_some, link_crossed, link_of, crossing_positive, shape_of, Link, same_leased, index_at, Lent, ended_where, share_a_place, put_at, CertificateLog, FollowedList, FollowsCertificate, another_numbered, none_numbered, this_numbered, link_itself, link_numbered}
use Rattle.leases.proofs.CertificateLogs.Words.{link_words}
use Rattle.leases.proofs.log.certificate_log.CertificateLog.end_link.Goals.{else-number-gt0-via-then-number-gt0+else-end, else-number-gt0-via-else-number-gt0}
use Rattle.leases.proofs.log.certificate_log.CertificateLog.end_link.Goals as goal

pub returns-then-end : goal.returns-then-end
unfolding link_of
returns-then-end c = λ list h ts shape known.
    let r = c.args.ring.now.id in
    let q = c.args.crossing in
    let old = c.args.self.now in
    let place : c.args.segment ≡ link_of (shape_of h r) q = sym (ap (λ o. unwrap_or o 0) (ap (λ s. link_crossed s q) shape ∙ c.requires)) in
    let numbered : index_at old.links r (link_of (shape_of h r) q) ≡ c.get-number.result = ap (index_at old.links r) (sym place) ∙ sym c.get-number.ensures in
    this_numbered list h ts old.list old.blocks old.links known (Link r q) c.args.row (link_itself h r q) (link_words h c.args.row (share_a_place h (Link r q)) r q (crossing_positive c.args.ring.now.shape q (ap is_some c.requires))) c.link_lease-lease.result c.link_lease-lease.ensures
    c.get-number.result numbered c.if-number-gt0.true c.end.new.self old.blocks c.clear.new.self (sym c.end.ensures.ended ∙ c.if-end.true) (c.end.ensures.ends c.if-end.true)
    (link_numbered h old.blocks old.links c.clear.new.self r q 0
    (put_at old.links c.clear.new.self r _ _ _ _ place refl (record { same = c.clear.ensures.same; ring = c.clear.ensures.ring; others = λ s m. c.clear.ensures.others s m })))

pub returns-else-number-gt0 : goal.returns-else-number-gt0
unfolding link_of
returns-else-number-gt0 c = λ list h ts shape known.
    let r = c.args.ring.now.id in
    let q = c.args.crossing in
    let old = c.args.self.now in
    let ended : List Lent = map (ended_where (same_leased (Link r q)) c.args.row) ts in
    let place : c.args.segment ≡ link_of (shape_of h r) q = sym (ap (λ o. unwrap_or o 0) (ap (λ s. link_crossed s q) shape ∙ c.requires)) in
    let numbered : index_at old.links r (link_of (shape_of h r) q) ≡ c.get-number.result = ap (index_at old.links r) (sym place) ∙ sym c.get-number.ensures in
    elim c.else-number-gt0.branch [
      | else-number-gt0-via-then-number-gt0+else-end w ↦
          let stays = w.end.ensures.stays w.if-end.false in
          subst (λ (b : CertificateLog). FollowsCertificate list h ended b) (sym w.self-is)
          (subst (λ (f : FollowedList). FollowsCertificate list h ended (record { list = f; blocks = old.blocks; links = old.links })) (sym stays)
          (another_numbered list h ts old.list old.blocks old.links known (Link r q) c.args.row (link_itself h r q) (link_words h c.args.row (share_a_place h (Link r q)) r q (crossing_positive c.args.ring.now.shape q (ap is_some c.requires))) c.link_lease-lease.result c.link_lease-lease.ensures
          c.get-number.result numbered w.if-number-gt0.true (sym w.end.ensures.ended ∙ w.if-end.false)))
      | else-number-gt0-via-else-number-gt0 w ↦
          subst (λ (b : CertificateLog). FollowsCertificate list h ended b) (sym w.self-is)
          (none_numbered list h ts old.list old.blocks old.links known (Link r q) c.args.row (link_itself h r q) (numbered ∙ omega (arith, w.if-number-gt0.false)))
    ]
