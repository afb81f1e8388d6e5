-- Behind an event that is read before it, an Address Device that a write gives takes its device context where it may still
use Rattle.safety.proofs.UpperLaws.{[], ◌≡◌, ◌||◌, ℕ, Bool, false, Some, is_none, rules, MayCome, and_cases, and_right, or_parts, or_from, false≢true, Block, Command, AddressDevice, Header, Dcbaap, Write, Read, IsHeader, Known, command_given, device_named, learned, is_in_range_lease, covers, open_ranges, lenient, DriverKeeps, has_bad_entry, is_bad_device, takes_bad_device, Behind, entry_stays, none_fewer, ranges_fewer, event_behind, leased_device}
use Rattle.safety.proofs.Beneath.CommandContext.{area_behind, clean_behind}
use Rattle.safety.proofs.Beneath.CommandBeneath.{device_alike, names_same}

module _ (h : Header) (is : IsHeader h) (k : Known) (d : DriverKeeps h k) (e : Block) (may : lenient h k (Read e) ≡ []) where
  abbrev l : Known
  l = learned h k (Read e)

  b : Behind h k l
  b = event_behind h is k d e may

  range_behind : (from len : ℕ) → is_in_range_lease h k from len ≡ false → is_in_range_lease h l from len ≡ false
  unfolding is_in_range_lease
  range_behind from len free = none_fewer (covers h from len) (open_ranges h k) (open_ranges h l) (ranges_fewer h is k l b) free

  place_behind : (s n x : ℕ) → is_bad_device h k s n x ≡ false → is_bad_device h l s n x ≡ false
  unfolding is_bad_device
  place_behind s n x good = search (rules, l, or_parts, or_from, area_behind, range_behind, entry_stays, b)

  module _ (a w : ℕ) (clean : MayCome h k (Write a w)) (c : Command) (given : command_given h k a w ≡ Some c) where
    new_behind : (s n : ℕ) → (is_none (k.register Dcbaap) || has_bad_entry h k s || is_bad_device h k s n (device_named k s)) ≡ false →
        (is_none (l.register Dcbaap) || has_bad_entry h l s || is_bad_device h l s n (device_named l s)) ≡ false
    unfolding has_bad_entry
    new_behind s n good = search (rules, is_none, l, or_parts, or_from, b, entry_stays, area_behind, clean_behind, names_same, place_behind)

    -- the device context of an Address Device lies behind the event where it may, if it did before
    pub device_behind : (s n : ℕ) (bsr : Bool) → c ≡ AddressDevice s bsr n → takes_bad_device h k s n ≡ false → takes_bad_device h l s n ≡ false
    unfolding takes_bad_device
    device_behind s n bsr same good = search (rules, l, device_alike, and_cases, is_none, false≢true, and_right, new_behind, leased_device)
