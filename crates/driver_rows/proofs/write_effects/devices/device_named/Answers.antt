use Rattle.driver_rows.proofs.Laws.{◌≡◌, ◌+◌, ◌*◌, ◌/◌, Some, sym, ◌∙◌, ap, arith, unwrap_or, long_at, Dcbaap, register_or_zero, entry_of, entry_is, named_is}
use Rattle.driver_rows.proofs.write_effects.devices.device_named.Goals as goal

pub returns : goal.returns
returns g c = λ k f same fits.
    let value : c.unwrap_or.result ≡ register_or_zero k.register Dcbaap = c.unwrap_or.ensures ∙ ap (λ o. unwrap_or o 0) (c.value.ensures k f) in
    let lies = entry_is k c.args.slot c.unwrap_or.result value in
    let at : c.in_ok-entry.entry ≡ c.unwrap_or.result / 64 * 64 + 8 * c.from.result = c.in_ok-entry.ensures.1 in
    let slot = c.from.ensures in
    let e : c.in_ok-entry.entry ≡ entry_of k c.args.slot = omega arith in
    ap (λ n. Some n)
    (c.long_at.ensures (omega arith) (omega arith)
    ∙ ap (λ n. long_at (g.M.WordMemory.words c.args.memory.now) n) e ∙ sym (named_is k c.args.slot (g.M.WordMemory.words c.args.memory.now) same))

pub returns-in_err-entry : goal.returns-in_err-entry
returns-in_err-entry g c = grind (arith, unwrap_or, entry_is)
