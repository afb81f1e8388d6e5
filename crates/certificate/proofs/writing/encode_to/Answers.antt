use Rattle.certificate.proofs.Laws.{◌≡◌, ◌∙◌, ◌+◌, ◌++◌, [], refl, ap, sym, arith, length, length-append, append_assoc, err_from_is_err_and, lease_bytes, magic, spelling, flat_map, appends_nothing, cut_off, joined, length_behind, parted}
use Rattle.certificate.proofs.writing.encode_to.Goals as goal

pub returns-in_err-done-clause-part : goal.returns-in_err-done-clause-part
returns-in_err-done-clause-part g c =
    let ls = c.args.leases.now in
    let p = err_from_is_err_and c.from_residual.result c.from_residual.ensures.1 in
    let first = flat_map lease_bytes c.split_at.result.0.now in
    let later = flat_map lease_bytes c.split_at.result.1.now in
    let halves : flat_map lease_bytes ls ≡ first ++ later =
    parted ls c.split_at.result.0.now c.split_at.result.1.now c.split_at.ensures.by_index.0 in
    let whole : spelling ls ≡ [] ++ ((magic ++ first) ++ later) = ap (λ l. magic ++ l) halves ∙ sym (append_assoc magic first later) in
    rw (p.1, p.2) (cut_off _ _ _ [] (magic ++ first) later (spelling ls) 0 c.in_err-done.field-0.0 whole refl (appends_nothing _) c.in_err-done.ensures.part)

pub write_records-requires-in-loop-rest-clause-fits : goal.write_records-requires-in-loop-rest-clause-fits
write_records-requires-in-loop-rest-clause-fits g c =
    let sent = c.loop-rest.invariant.0 in
    let all = length_behind magic c.args.leases.now in
    let same = ap length c.loop-rest.invariant.2 ∙ length_behind sent c.loop-rest.rest.now in
    omega (arith, all, same, c.loop-rest.invariant.3, c.size_of_records-fits.ensures.size, c.size_of_records-fits.ensures.small, c.split_at-in-loop-rest.ensures.front_len, c.split_at-in-loop-rest.ensures.back_len)

pub returns-in_err-done-2-clause-part : goal.returns-in_err-done-2-clause-part
returns-in_err-done-2-clause-part g c =
    let ls = c.args.leases.now in
    let rest = c.loop-rest.rest.now in
    let sent = c.loop-rest.invariant.0 in
    let p = err_from_is_err_and c.from_residual-in_err-done-2.result c.from_residual-in_err-done-2.ensures.1 in
    let next = flat_map lease_bytes c.split_at-in-loop-rest.result.0.now in
    let later = flat_map lease_bytes c.split_at-in-loop-rest.result.1.now in
    let halves : flat_map lease_bytes rest ≡ next ++ later = parted rest c.split_at-in-loop-rest.result.0.now c.split_at-in-loop-rest.result.1.now c.split_at-in-loop-rest.ensures.by_index.0 in
    let whole : spelling ls ≡ sent ++ (([] ++ next) ++ later) = c.loop-rest.invariant.2 ∙ ap (λ l. sent ++ l) halves in
    rw (p.1, p.2) (cut_off _ _ _ sent ([] ++ next) later (spelling ls) c.loop-rest.done c.in_err-done-2.field-0.0 whole c.loop-rest.invariant.3 c.loop-rest.invariant.1 c.in_err-done-2.ensures.part)

pub loop-rest-preserved : goal.loop-rest-preserved
loop-rest-preserved g c =
    let ls = c.args.leases.now in
    let rest = c.loop-rest.rest.now in
    let sent = c.loop-rest.invariant.0 in
    let next = flat_map lease_bytes c.split_at-in-loop-rest.result.0.now in
    let later = flat_map lease_bytes c.split_at-in-loop-rest.result.1.now in
    let halves : flat_map lease_bytes rest ≡ next ++ later = parted rest c.split_at-in-loop-rest.result.0.now c.split_at-in-loop-rest.result.1.now c.split_at-in-loop-rest.ensures.by_index.0 in (
      sent ++ next,
      joined _ _ _ sent next c.loop-rest.invariant.1 c.in_ok-done-2.ensures.whole,
      c.loop-rest.invariant.2 ∙ ap (λ l. sent ++ l) halves ∙ sym (append_assoc sent next later),
      c.in_ok-done-2.ensures.done ∙ ap (λ m. m + length next) c.loop-rest.invariant.3 ∙ sym (length-append sent next),
      c.in_ok-done-2.ensures.failures ∙ c.loop-rest.invariant.4,
    )
