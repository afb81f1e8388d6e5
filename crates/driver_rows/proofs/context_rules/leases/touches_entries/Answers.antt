use Rattle.driver_rows.proofs.Laws.{◌≡◌, ◌+◌, ◌<◌, ◌≤◌, ◌∙◌, ap, sym, arith, unwrap_or, slot_entry, Dcbaap, touches_entry, begins_behind, ends_before, found, go_on, none_behind, skip, any_entry}
use Rattle.driver_rows.proofs.context_rules.leases.touches_entries.Goals as goal

pub loop-slot-init : goal.loop-slot-init
loop-slot-init c = grind (arith, unwrap_or, any_entry, skip, ends_before)

pub loop-slot-preserved : goal.loop-slot-preserved
loop-slot-preserved c = λ h k memory f.
    let below : c.loop-slot.slot < 256 = omega (arith, c.end_slot-end.ensures.most, c.loop-slot-test.true) in
    c.loop-slot.invariant h k memory f ∙ go_on _ _ 256 below (sym (c.touches_entry.ensures h k memory f) ∙ c.if-touches_entry.false)

pub returns-then-touches_entry : goal.returns-then-touches_entry
returns-then-touches_entry c = λ h k memory f.
    let below : c.loop-slot.slot < 256 = omega (arith, c.end_slot-end.ensures.most, c.loop-slot-test.true) in
    sym (c.loop-slot.invariant h k memory f ∙ found _ _ 256 below (sym (c.touches_entry.ensures h k memory f) ∙ c.if-touches_entry.true))

pub returns : goal.returns
returns c = λ h k memory f.
    let is : c.unwrap_or-dcbaap.result ≡ unwrap_or (k.register Dcbaap) 0 = c.unwrap_or-dcbaap.ensures ∙ ap (λ v. unwrap_or v 0) (c.value.ensures k f.registers) in
    sym (c.loop-slot.invariant h k memory f
    ∙ none_behind (touches_entry k c.args.from c.args.len) c.loop-slot.slot 256
    (λ s low below.
    let at = c.end_slot-end.ensures.behind s (omega (arith, low, c.loop-slot-test.false)) below in
    let high : c.args.from + c.args.len ≤ slot_entry c.unwrap_or-dcbaap.result s = omega (arith, at, c.from.ensures, c.from-2.ensures) in
    begins_behind k c.args.from c.args.len s c.unwrap_or-dcbaap.result is high))
