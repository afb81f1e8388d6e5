use Rattle.leases.proofs.BaseWords.{◌≡◌, ◌∙◌, ap, arith, unwrap_or, register_or_zero, Dcbaap, entry_of}
use Rattle.leases.proofs.rows.taking.slot_entry.Goals as goal

pub returns-in-Some : goal.returns-in-Some
unfolding entry_of
returns-in-Some c = λ k follows fits.
    let value : c.unwrap_or.result ≡ register_or_zero k.register Dcbaap = c.unwrap_or.ensures ∙ ap (λ o. unwrap_or o 0) (c.value.ensures k follows) in
    let from : c.from.result ≡ c.args.slot = c.from.ensures in
    let sum = c.in-Some.ensures in
    omega (arith, value, from, sum.1)

pub returns-in-None : goal.returns-in-None
unfolding entry_of
returns-in-None c = λ k follows fits.
    let value : c.unwrap_or.result ≡ register_or_zero k.register Dcbaap = c.unwrap_or.ensures ∙ ap (λ o. unwrap_or o 0) (c.value.ensures k follows) in
    let from : c.from.result ≡ c.args.slot = c.from.ensures in
    let none = c.in-None.ensures in
    absurd (none (omega (arith, value, from, fits)))
