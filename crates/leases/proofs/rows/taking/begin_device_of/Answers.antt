use Rattle.leases.proofs.Laws.{◌≡◌, ◌+◌, ◌%◌, ◌^◌, ◌≤◌, ◌∙◌, ℕ, true, refl, ap, sym, subst, arith, Option, Some, is_some, Range, SlotEntry, DeviceContext, device_named, entry_of, taken_device, is_use_free, EntryFits, SlotIsFree, on_both, all_more, same_more, slot_is, still_free, takes_no_more, takes_none, takes_one, entry_aligned, named_at, none_taken}
use Rattle.leases.proofs.rows.taking.begin_device_of.Goals as goal

pub returns-in_default : goal.returns-in_default
returns-in_default g c = λ list k ts follows fits free all.
    none_taken c.args.header.now c.args.number c.args.book.now c.args.ranges.now k ts (taken_device k c.args.command) (takes_none k c.args.command (λ s bsr n is. c.in_default.not-AddressDevice s bsr n is)) all

pub returns-then-is_some : goal.returns-then-is_some
returns-then-is_some g c = λ list k ts follows fits free all.
    none_taken c.args.header.now c.args.number c.args.book.now c.args.ranges.now k ts (taken_device k c.args.command)
    (takes_no_more k c.args.command c.in-AddressDevice.slot _ _ c.in-AddressDevice.is
    (ap is_some (sym (c.device.ensures k follows.devices)) ∙ sym c.is_some.ensures ∙ c.if-is_some.true)) all

pub returns : goal.returns
returns g c =
    on_both c.begin_device.result (λ holds finds. λ list k ts follows fits free all.
    let h = c.args.header.now in
    let s : ℕ = c.in-AddressDevice.slot in
    let n : ℕ = c.args.number in
    let memory : ℕ → ℕ = g.M.WordMemory.words c.args.memory.now in
    let taken : taken_device k c.args.command ≡ Some (s, device_named k s) =
    takes_one k c.args.command s _ _ c.in-AddressDevice.is (ap is_some (sym (c.device.ensures k follows.devices)) ∙ sym c.is_some.ensures ∙ c.if-is_some.false) in
    let low : entry_of k s + 8 ≤ 2 ^ 64 = subst (λ (o : Option (ℕ × ℕ)). EntryFits k o) taken fits in
    let open_ : (is_use_free h ts (SlotEntry s) ≡ true) × (is_use_free h ts (DeviceContext s) ≡ true) = subst (λ (o : Option (ℕ × ℕ)). SlotIsFree h ts o) taken free in
    let at : c.slot_entry-entry.result ≡ entry_of k s = c.slot_entry-entry.ensures k follows.registers low in
    let four : c.slot_entry-entry.result % 4 ≡ 0 = ap (λ (x : ℕ). x % 4) at ∙ entry_aligned k s in
    let eight : c.slot_entry-entry.result + 8 ≤ 2 ^ 64 = omega (arith, at, low) in
    let device : device_named k s ≡ c.long_at-device.result = sym (c.long_at-device.ensures four eight ∙ named_at k s memory c.slot_entry-entry.result follows.words at) in
    same_more h n c.begin_device.new.book c.begin_device.new.self ts _ _
    (slot_is h k (taken_device k c.args.command) s c.slot_entry-entry.result c.long_at-device.result c.device_bytes.result (taken ∙ ap (λ (d : ℕ). Some (s, d)) device) at c.device_bytes.ensures)
    (all_more h n c.begin_device.new.book c.begin_device.new.self ts _ _
    (let held = c.in_ok-begin_entry.ensures.held list h ts (SlotEntry s) all.held in
    record {
      held = holds list h _ (DeviceContext s) held;
      found = finds list h _ held (c.in_ok-begin_entry.ensures.found list h ts all.held all.found open_.0) (still_free h n ts (DeviceContext s) (Range 8 c.slot_entry-entry.result (SlotEntry s)) refl open_.1);
    })))
    c.begin_device.ensures.held c.begin_device.ensures.found
