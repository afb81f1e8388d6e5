use Rattle.driver_rows.proofs.LowerLaws.{◌≡◌, ◌+◌, ◌-◌, ◌≤◌, arith, true, false, max, is_some, refl, rules, ceiling, floor_number, descriptor_length}
use Rattle.std.proofs.Common.{min, tests}
use Rattle.std.proofs.lemmas.Iterator.{YieldsList-from_range, cases_from_any}
use Rattle.segments.specs.Ceiling.{data_at}
use Rattle.ownership_rules.specs.Withdrawals.{may_tell_value}
use Rattle.driver_rows.proofs.RingRows.Withdrawn.{told_so}
use Rattle.driver_rows.proofs.rings.withdrawing.may_tell_value.Goals as goal

pub returns : goal.returns
unfolding may_tell_value
returns c = λ shape v follows ahead.
    let floor = c.floor_number.ensures.value shape v follows in
    let p = c.args.position in
    let n = descriptor_length v p in
    let begins : c.max-from.result ≡ max p (floor_number v) = omega (arith, c.max-from.ensures, floor) in
    let ends : c.min-end.result ≡ min (p + n) (ceiling shape v) = omega (arith, c.min-end.ensures, c.saturating_add.ensures, c.from-length.ensures, c.descriptor_length.ensures shape v follows ahead, c.ceiling.ensures shape v follows, c.ceiling.type_inv) in
    told_so shape v p n c.max-from.result c.min-end.result begins ends c.any.result
    (cases_from_any _ _ _ (λ q. c.max-from.result ≤ q → is_some (data_at v.queue q) ≡ true) (λ q. c.max-from.result ≤ q → is_some (data_at v.queue q) ≡ false) c.any.ensures.ran
    (YieldsList-from_range c.max-from.result c.min-end.result (c.min-end.result - c.max-from.result) refl refl)
    (λ q f called low. let at : floor_number v ≤ q = omega (arith, begins, low) in search (rules, tests))
    (λ q f called. search (rules, tests, arith)))
