use Rattle.leases.proofs.Laws.{◌∙◌, map, sym, inl, inr, subst, cases_Bool, false≢true, Range, same_leased, ended_where, FollowedList, FollowsList, another_there, this_there, range_apart, stands_only, range_numbered}
use Rattle.leases.proofs.CertificateLogs.Words.{range_words}
use Rattle.leases.proofs.log.certificate_log.CertificateLogLeaseLog.end_range.Goals as goal

pub returns : goal.returns
returns c = λ list h ts purpose known stands lent.
    let l = Range c.args.bytes c.args.address purpose in
    let old = c.args.self.now in
    elim (cases_Bool c.end.result) [
      | inl ends ↦
          this_there list h ts old.list old.blocks old.links known l c.args.row c.args.index (same_leased l) (λ x other. other) (λ agreed. stands_only l ts c.args.index stands lent)
          (range_words h c.args.row c.args.bytes c.args.address purpose) c.range_lease.result (c.range_lease.ensures purpose) c.end.new.self old.blocks old.links (sym c.end.ensures.ended ∙ ends) (c.end.ensures.ends ends)
          (range_numbered h old.blocks old.links c.args.bytes c.args.address 0 purpose) (λ agreed m shares. absurd (false≢true (sym (range_apart h c.args.bytes c.args.address purpose m) ∙ shares)))
      | inr stays ↦
          subst (λ (f : FollowedList). FollowsList list h (map (ended_where (same_leased l) c.args.row) ts) f old.blocks old.links) (sym (c.end.ensures.stays stays))
          (another_there list h ts old.list old.blocks old.links known l c.args.row c.args.index (same_leased l) (λ x other. other) (λ agreed. stands_only l ts c.args.index stands lent)
          (range_words h c.args.row c.args.bytes c.args.address purpose) c.range_lease.result (c.range_lease.ensures purpose) (sym c.end.ensures.ended ∙ stays))
    ]
