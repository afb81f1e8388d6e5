use Rattle.driver_rows.proofs.Laws.{arith, ◌≡◌, Option, Some, true, false, ap, sym, refl, ◌∙◌, ◌||◌, is_none, not, unwrap_or, long_at, slot_entry, Dcbaap, Known, FollowsTrace, device_named, entry_of, is_bad_area, is_soiled, has_bad_entry, is_bad_device, takes_bad_device, entry_above, both_hold, stops, goes_on}
use Rattle.driver_rows.proofs.context_rules.devices.takes_bad_device.Goals.{Joined-is_bad_area, then-is_bad_area, else-is_bad_area}
use Rattle.driver_rows.proofs.context_rules.devices.takes_bad_device.Goals as goal

pub returns-then-is_some : goal.returns-then-is_some
unfolding takes_bad_device
returns-then-is_some g c = λ k f. rw (← c.device.ensures k f.devices, ← c.is_some.ensures, c.if-is_some.true) refl

pub returns-in_default : goal.returns-in_default
unfolding takes_bad_device
returns-in_default g c = λ k f. rw (← c.device.ensures k f.devices, ← c.is_some.ensures, c.if-is_some.false, ← c.value.ensures k f.registers, c.in_default.is) refl

pub returns-in_default-entry_at : goal.returns-in_default-entry_at
unfolding takes_bad_device entry_of
returns-in_default-entry_at g c = grind (arith, Option, unwrap_or, entry_above)

-- what the tests before the last two say, and where the entry lies
before_words : (g : _) (c : Joined-is_bad_area g) (k : Known) → FollowsTrace c.args.header.now k c.args.t.now (g.M.WordMemory.words c.args.memory.now) →
    (is_none (k.device c.args.slot) ≡ true) × (c.in-Some-entry_at.entry ≡ entry_of k c.args.slot) × (c.if-is_bad_area.value ≡ (is_none (k.register Dcbaap) || has_bad_entry c.args.header.now k c.args.slot))
unfolding has_bad_entry entry_of
before_words g c k f =
    let h = c.args.header.now in
    let dcbaap : k.register Dcbaap ≡ Some c.in-Some.dcbaap = sym (c.value.ensures k f.registers) ∙ c.in-Some.is in
    let at : c.in-Some-entry_at.entry ≡ entry_of k c.args.slot = c.in-Some-entry_at.ensures.found ∙ sym (ap (λ o. slot_entry (unwrap_or o 0) c.args.slot) dcbaap) in
    let bad : c.is_bad_area.result ≡ is_bad_area h k (entry_of k c.args.slot) 8 = c.is_bad_area.ensures.rule h k _ c.requires.headed c.requires.found f ∙ ap (λ e. is_bad_area h k e 8) at in
    let entry : c.if-is_bad_area.value ≡ has_bad_entry h k c.args.slot = elim c.if-is_bad_area.branch [
      | then-is_bad_area w ↦ w.value-is ∙ stops _ _ _ bad w.if-is_bad_area.true
      | else-is_bad_area w ↦ w.value-is ∙ goes_on _ _ _ _ bad w.if-is_bad_area.false (w.is_soiled.ensures h k _ f ∙ ap (λ e. is_soiled k e 8) at)
    ] in
    (ap is_none (sym (c.device.ensures k f.devices)) ∙ ap not (sym c.is_some.ensures ∙ c.if-is_some.false), at, goes_on false _ _ _ (sym (ap is_none dcbaap)) refl entry)

pub returns-then-is_soiled : goal.returns-then-is_soiled
unfolding takes_bad_device
returns-then-is_soiled g c = λ k f.
    let is = before_words g (goal.at.returns-then-is_soiled g c).Joined-is_bad_area k f in
    both_hold _ _ _ is.0 (stops _ _ _ is.2 c.if-is_soiled.true)

pub returns-else-is_soiled : goal.returns-else-is_soiled
unfolding takes_bad_device device_named entry_of
returns-else-is_soiled g c = λ k f.
    let is = before_words g (goal.at.returns-else-is_soiled g c).Joined-is_bad_area k f in
    let named : c.long_at.result ≡ device_named k c.args.slot =
    c.long_at.ensures ∙ ap (long_at (g.M.WordMemory.words c.args.memory.now)) is.1 ∙ sym (λ i. long_at (λ a. f.words a i) (entry_of k c.args.slot)) in
    both_hold _ _ _ is.0 (goes_on _ _ _ _ is.2 c.if-is_soiled.false (c.is_bad_device.ensures k _ c.args.slot f is.1 ∙ ap (is_bad_device c.args.header.now k c.args.slot c.args.context) named))
