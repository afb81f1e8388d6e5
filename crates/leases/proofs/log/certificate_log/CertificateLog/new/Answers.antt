use Rattle.leases.proofs.Laws.{◌∙◌, arith, first_list, next_begins, nothing_begun}
use Rattle.leases.proofs.CertificateLogs.Beginning.{all_begun}
use Rattle.leases.proofs.log.certificate_log.CertificateLog.new.Goals as goal

pub loop-lease-init : goal.loop-lease-init
loop-lease-init c = λ first blocks links no_block no_link.
    nothing_begun c.args.leases.now c.args.header.now c.new-list.result blocks links no_block no_link c.new-list.ensures.list c.new-list.ensures.begun c.new-list.ensures.unended c.new-list.ensures.differs

pub loop-lease-preserved : goal.loop-lease-preserved
loop-lease-preserved c = λ first.
    next_begins c.args.leases.now c.args.header.now first c.loop-lease.lease-index c.as_slice-lease-items.result.now _ c.loop-lease.list c.begin.new.self
    (c.as_slice-lease-items.ensures.value ∙ c.in_ok-opening.ensures ∙ first_list c.args.header.now first) c.loop-lease-test.true (c.loop-lease.invariant first) c.in_ok-begin.ensures

pub returns : goal.returns
returns c = λ first.
    all_begun c.args.leases.now c.args.header.now first c.loop-lease.lease-index c.as_slice-lease-items.result.now c.loop-lease.list
    (c.as_slice-lease-items.ensures.value ∙ c.in_ok-opening.ensures ∙ first_list c.args.header.now first) (omega (arith, c.loop-lease-test.false)) (c.loop-lease.invariant first)
    c.in_ok-new.field-0 c.in_ok-new-2.field-0 (λ r m. c.in_ok-new.ensures r m) (λ r m. c.in_ok-new-2.ensures r m)
