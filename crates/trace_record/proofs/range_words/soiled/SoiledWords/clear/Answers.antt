use Rattle.trace_record.proofs.Laws.{◌≡◌, ◌==◌, ◌/◌, ◌%◌, ◌^◌, ◌&&◌, ◌∙◌, ℕ, refl, ap, not, bit_and, bit_not, w64, put, bit_at, nat_lt, sym, group_bits, on_err_weaker, on_ok_weaker, cleared}
use Rattle.trace_record.proofs.range_words.soiled.SoiledWords.clear.Goals as goal

pub returns-clause-ok : goal.returns-clause-ok
returns-clause-ok c = on_ok_weaker c.unset.result (λ unset. λ soiled held.
    let old : ℕ → ℕ = group_bits c.args.self.now in
    let new : ℕ → ℕ = group_bits c.unset.new.self in
    let at : ℕ = c.args.at in
    let place = c.place-group.ensures in
    let set : (h : ℕ) → new h ≡ put old (at / 256) (bit_and (old (at / 256)) (bit_not w64 (2 ^ (at / 4 % 64)))) h = λ h.
    unset h ∙ ap (λ g. put old g (bit_and (old g) (bit_not w64 c.place-group.result.1)) h) place.group
    ∙ ap (λ b. put old (at / 256) (bit_and (old (at / 256)) (bit_not w64 b)) h) place.bit in
    record {
      each = λ a aligned. ap (λ s. s && not (a == at)) (held.each a aligned) ∙ cleared old new at (old (at / 256)) place.aligned refl set a aligned;
    }) c.unset.ensures.ok

pub returns-clause-err : goal.returns-clause-err
returns-clause-err c = on_err_weaker c.unset.result (λ same. λ soiled held. record { each = λ a aligned. held.each a aligned ∙ sym (ap (λ b. nat_lt 0 (bit_at b (a / 4 % 64))) (same (a / 256))) }) c.unset.ensures.err
