use Rattle.driver_rows.proofs.Laws.{arith, ◌≡◌, ℕ, ◌%◌, ◌==◌, ap, ◌∙◌, ◌||◌, not, overlap, device_context_bytes, Known, FollowsTrace, entry_of, is_bad_area, is_in_range_lease, is_bad_device, stops, goes_on}
use Rattle.driver_rows.proofs.context_rules.devices.is_bad_device.Goals.{Joined-is_in_range_lease, then-is_no_context, else-is_no_context, then-is_bad_area, else-is_bad_area, then-is_in_range_lease, else-is_in_range_lease}
use Rattle.driver_rows.proofs.context_rules.devices.is_bad_device.Goals as goal

before_last : (c : Joined-is_in_range_lease) (k : Known) (memory : ℕ → ℕ) (slot : ℕ) → FollowsTrace c.args.header.now k c.args.t.now memory → c.args.entry ≡ entry_of k slot →
    c.if-is_in_range_lease.value
    ≡ (c.args.device == 0 || not (c.args.device % 64 == 0) || is_bad_area c.args.header.now k c.args.device (device_context_bytes c.args.header.now.context_size)
    || is_in_range_lease c.args.header.now k c.args.device (device_context_bytes c.args.header.now.context_size) || overlap c.args.device (device_context_bytes c.args.header.now.context_size) (entry_of k slot) 8)
before_last c k memory slot f at =
    let h = c.args.header.now in
    let a = c.args.device in
    let len = device_context_bytes h.context_size in
    let wide = c.device_context_bytes-len.ensures in
    let one : c.if-is_no_context.value ≡ (a == 0 || not (a % 64 == 0) || is_bad_area h k a len) = elim c.if-is_no_context.branch [
      | then-is_no_context w ↦ w.value-is ∙ stops _ _ _ c.is_no_context.ensures w.if-is_no_context.true
      | else-is_no_context w ↦ w.value-is ∙ goes_on _ _ _ _ c.is_no_context.ensures w.if-is_no_context.false (w.is_bad_area.ensures.rule _ k memory c.requires.headed c.requires.found f ∙ ap (is_bad_area h k a) wide)
    ] in
    let two : c.if-is_bad_area.value ≡ (a == 0 || not (a % 64 == 0) || is_bad_area h k a len || is_in_range_lease h k a len) = elim c.if-is_bad_area.branch [
      | then-is_bad_area w ↦ w.value-is ∙ stops _ _ _ one w.if-is_bad_area.true
      | else-is_bad_area w ↦ w.value-is ∙ goes_on _ _ _ _ one w.if-is_bad_area.false (w.is_in_range_lease.ensures k memory f ∙ ap (is_in_range_lease h k a) wide)
    ] in
    grind (arith, then-is_in_range_lease, stops, else-is_in_range_lease, goes_on)

pub returns-then-overlap : goal.returns-then-overlap
unfolding is_bad_device
returns-then-overlap c = λ k memory slot f at. stops _ _ _ (before_last (goal.at.returns-then-overlap c).Joined-is_in_range_lease k memory slot f at) c.if-overlap.true

pub returns-else-overlap : goal.returns-else-overlap
unfolding is_bad_device
returns-else-overlap c = λ k memory slot f at.
    goes_on _ _ _ _ (before_last (goal.at.returns-else-overlap c).Joined-is_in_range_lease k memory slot f at) c.if-overlap.false
    (c.overlap-else-overlap.ensures ∙ ap (λ n. overlap c.args.device n c.args.context c.input_context_bytes.result) c.device_context_bytes-len.ensures ∙ ap (overlap c.args.device (device_context_bytes c.args.header.now.context_size) c.args.context) c.input_context_bytes.ensures)
