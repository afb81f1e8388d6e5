use Rattle.leases.proofs.Laws.{◌≡◌, ◌≤◌, ◌+◌, ◌∙◌, ◌||◌, ℕ, List, map, false, sym, ap, subst, arith, is_some, is_crossing, Block, Link, same_leased, Lent, ended_where, is_passed, all_twice, none_over, none_passed, over_alike, passed_crossing, CertificateLog, FollowsCertificate}
use Rattle.leases.proofs.CertificateLogs.PassingOn.{passed_on}
use Rattle.leases.proofs.log.certificate_log.CertificateLogLeaseLog.end_passed.Goals.{in-Some, in_default}
use Rattle.leases.proofs.log.certificate_log.CertificateLogLeaseLog.end_passed.Goals as goal

pub loop-number-init : goal.loop-number-init
loop-number-init c = λ list h ts shape known.
    subst (λ (us : List Lent). FollowsCertificate list h us c.args.self.now)
    (sym (none_over (is_passed c.args.ring.now.id c.args.from c.args.from) c.args.row ts (λ l. none_passed c.args.ring.now.id c.args.from c.args.from l (omega arith)))) known

pub loop-number-preserved : goal.loop-number-preserved
loop-number-preserved c = λ list h ts shape known.
    let r = c.args.ring.now.id in
    let n = c.loop-number.number in
    let row = c.args.row in
    let least : c.args.from ≤ n = c.loop-number.auto.number in
    let passed = is_passed r c.args.from n in
    let before = c.loop-number.invariant list h ts shape known in
    let blocks : FollowsCertificate list h (map (ended_where (λ l. passed l || same_leased (Block r n) l) row) ts) c.end_block.new.self =
    subst (λ (us : List Lent). FollowsCertificate list h us c.end_block.new.self) (all_twice (same_leased (Block r n)) passed row ts) (c.end_block.ensures list h (map (ended_where passed row) ts) shape before) in
    elim c.match-crossing.branch [
      | in-Some w ↦
          let ended = w.end_link.ensures list h (map (ended_where (λ l. passed l || same_leased (Block r n) l) row) ts) shape blocks in
          subst (λ (b : CertificateLog). FollowsCertificate list h (map (ended_where (is_passed r c.args.from (n + 1)) row) ts) b) (sym w.self-is)
          (subst (λ (us : List Lent). FollowsCertificate list h us w.end_link.new.self)
          (all_twice (same_leased (Link r n)) (λ l. passed l || same_leased (Block r n) l) row ts
          ∙ over_alike (λ l. (passed l || same_leased (Block r n) l) || same_leased (Link r n) l) (is_passed r c.args.from (n + 1)) row ts (λ l. passed_crossing r c.args.from n l least)) ended)
      | in_default w ↦
          let none : is_crossing c.args.ring.now.shape n ≡ false = ap is_some (sym c.crossing.ensures.value ∙ w.in_default.is) in
          subst (λ (b : CertificateLog). FollowsCertificate list h (map (ended_where (is_passed r c.args.from (n + 1)) row) ts) b) (sym w.self-is)
          (passed_on list h ts c.args.self.now.list c.args.self.now.blocks c.args.self.now.links known r c.args.from n row least (ap (λ s. is_crossing s n) shape ∙ none)
          c.end_block.new.self.list c.end_block.new.self.blocks c.end_block.new.self.links blocks)
    ]

pub returns : goal.returns
returns c = λ list h ts shape rises known.
    let most = c.loop-number.auto.number-end rises in
    let end : c.loop-number.number ≡ c.args.to = omega (arith, most, c.loop-number-test.false) in
    subst (λ (n : ℕ). FollowsCertificate list h (map (ended_where (is_passed c.args.ring.now.id c.args.from n) c.args.row) ts) c.loop-number.self) end (c.loop-number.invariant list h ts shape known)
