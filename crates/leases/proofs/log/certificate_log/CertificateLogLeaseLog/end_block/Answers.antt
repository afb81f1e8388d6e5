use Rattle.leases.proofs.Laws.{◌≡◌, ◌∙◌, List, map, ap, sym, refl, subst, arith, place_of, shape_of, Block, same_leased, index_at, Lent, ended_where, share_a_place, put_at, CertificateLog, FollowedList, FollowsCertificate, another_numbered, none_numbered, this_numbered, block_itself, block_numbered}
use Rattle.leases.proofs.CertificateLogs.Words.{block_words}
use Rattle.leases.proofs.log.certificate_log.CertificateLogLeaseLog.end_block.Goals.{else-number-gt0-via-then-number-gt0+else-end, else-number-gt0-via-else-number-gt0}
use Rattle.leases.proofs.log.certificate_log.CertificateLogLeaseLog.end_block.Goals as goal

pub returns-then-end : goal.returns-then-end
returns-then-end c = λ list h ts shape known.
    let r = c.args.ring.now.id in
    let p = c.args.position in
    let old = c.args.self.now in
    let place : c.place-place.result ≡ place_of (shape_of h r) p = c.place-place.ensures.value ∙ ap (λ s. place_of s p) (sym shape) in
    let numbered : index_at old.blocks r (place_of (shape_of h r) p) ≡ c.get-number.result = ap (index_at old.blocks r) (sym place) ∙ sym c.get-number.ensures in
    this_numbered list h ts old.list old.blocks old.links known (Block r p) c.args.row (block_itself h r p) (block_words h c.args.row (share_a_place h (Block r p)) r p) c.block_lease-lease.result c.block_lease-lease.ensures
    c.get-number.result numbered c.if-number-gt0.true c.end.new.self c.clear.new.self old.links (sym c.end.ensures.ended ∙ c.if-end.true) (c.end.ensures.ends c.if-end.true)
    (block_numbered h old.blocks old.links c.clear.new.self r p 0
    (put_at old.blocks c.clear.new.self r _ _ _ _ place refl (record { same = c.clear.ensures.same; ring = c.clear.ensures.ring; others = λ s m. c.clear.ensures.others s m })))

pub returns-else-number-gt0 : goal.returns-else-number-gt0
returns-else-number-gt0 c = λ list h ts shape known.
    let r = c.args.ring.now.id in
    let p = c.args.position in
    let old = c.args.self.now in
    let ended : List Lent = map (ended_where (same_leased (Block r p)) c.args.row) ts in
    let place : c.place-place.result ≡ place_of (shape_of h r) p = c.place-place.ensures.value ∙ ap (λ s. place_of s p) (sym shape) in
    let numbered : index_at old.blocks r (place_of (shape_of h r) p) ≡ c.get-number.result = ap (index_at old.blocks r) (sym place) ∙ sym c.get-number.ensures in
    elim c.else-number-gt0.branch [
      | else-number-gt0-via-then-number-gt0+else-end w ↦
          let stays = w.end.ensures.stays w.if-end.false in
          subst (λ (b : CertificateLog). FollowsCertificate list h ended b) (sym w.self-is)
          (subst (λ (f : FollowedList). FollowsCertificate list h ended (record { list = f; blocks = old.blocks; links = old.links })) (sym stays)
          (another_numbered list h ts old.list old.blocks old.links known (Block r p) c.args.row (block_itself h r p) (block_words h c.args.row (share_a_place h (Block r p)) r p) c.block_lease-lease.result c.block_lease-lease.ensures
          c.get-number.result numbered w.if-number-gt0.true (sym w.end.ensures.ended ∙ w.if-end.false)))
      | else-number-gt0-via-else-number-gt0 w ↦
          subst (λ (b : CertificateLog). FollowsCertificate list h ended b) (sym w.self-is)
          (none_numbered list h ts old.list old.blocks old.links known (Block r p) c.args.row (block_itself h r p) (numbered ∙ omega (arith, w.if-number-gt0.false)))
    ]
