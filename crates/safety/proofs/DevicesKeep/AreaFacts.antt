-- Areas and ranges under lease that have no byte in common
use Rattle.safety.proofs.LowerLaws.{inl, inr, lenient, Write, free_or_same, [], ◌≡◌, ◌≢◌, ◌+◌, ◌*◌, ◌/◌, ◌^◌, ◌<◌, ◌≤◌, ◌⊎◌, ◌∷◌, ◌∙◌, ℕ, Bool, false, List, nat_lt, nat_le, Some, arith, refl, sym, lt-ltb, le-ltb, ltb-true, leb-true, rules, list_any, flat_map, cases_lt, and_left, and_right, or_parts, or_from, and_parts, and_cases, false≢true, false_from_ne_true, list_any-append, is_in, overlap, device_context_bytes, input_context_bytes, Command, named_context, table_bytes, event_shape, base_address, Erstba, Header, touches_ring, Known, entry_of, Range, SegmentTable, Use, InputContext, SlotEntry, DeviceContext, covers, lease_start, lease_bytes, range_of_device, device_ranges, open_ranges, open_leases, is_leased, is_bad_area, is_in_range_lease, is_soiled, IsUnfinished, is_the_controllers, none_in_range, fails_in, context_leased, device_listed, device_leased, entry_leased, table_leased, in_right, unchained_is}

-- ---- two ranges of bytes

pub not_overlap : (a m b n : ℕ) → overlap a m b n ≡ false → (b + n ≤ a) ⊎ (a + m ≤ b)
not_overlap a m b n none = search (rules, and_cases, nat_lt, cases_lt, false≢true, lt-ltb)

pub overlap_from : (a m b n : ℕ) → (b + n ≤ a) ⊎ (a + m ≤ b) → overlap a m b n ≡ false
overlap_from a m b n h5 = grind (arith, and_left, nat_lt, le-ltb, and_right)

pub overlap_turned : (a m b n : ℕ) → overlap a m b n ≡ false → overlap b n a m ≡ false
overlap_turned a m b n none = search (rules, not_overlap, overlap_from)

-- a byte of one isn't in the other
pub not_in_other : (a m b n x : ℕ) → overlap a m b n ≡ false → b ≤ x → x < b + n → is_in x a m ≡ false
not_in_other a m b n x none low high = search (rules, false_from_ne_true, and_parts, nat_le, nat_lt, leb-true, ltb-true, not_overlap)

-- a word that has no byte of a range
pub word_elsewhere : (a b n x : ℕ) → overlap a 4 b n ≡ false → b ≤ x → x < b + n → x ≢ a
word_elsewhere a b n x none low high same = search (rules, not_overlap)

none_flat : {X Y : Type 0} (p : Y → Bool) (f : X → List Y) (xs : List X) → ((x : X) → list_any p (f x) ≡ false) → list_any p (flat_map f xs) ≡ false
none_flat p f [] each = refl
none_flat p f (x ∷ xs) each = list_any-append p (f x) (flat_map f xs) ∙ or_from (list_any p (f x)) (list_any p (flat_map f xs)) (each x) (none_flat p f xs each)

pub is_soiled_from : (k : Known) (from len : ℕ) → ((i : ℕ) → i < len / 4 → k.soiled (from + 4 * i) ≡ false) → is_soiled k from len ≡ false
unfolding is_soiled
is_soiled_from k from len each = none_in_range (λ i. k.soiled (from + 4 * i)) 0 (len / 4) (λ i low high. each i (omega arith))

pub clean_same : (k l : Known) (from len : ℕ) → l.soiled ≡ k.soiled → is_soiled l from len ≡ is_soiled k from len
unfolding is_soiled
clean_same k l from len same = rw same refl

module _ (h : Header) where
  -- ---- the area rule

  pub record AreaParts (k : Known) (from len : ℕ) : Type 0 where
    pub ends : nat_lt (2 ^ 64) (from + len) ≡ false
    pub rings : touches_ring h from len ≡ false
    pub devices : list_any (covers h from len) (device_ranges h k) ≡ false

  pub area_parts : (k : Known) (from len : ℕ) → is_bad_area h k from len ≡ false → AreaParts k from len
  unfolding is_bad_area
  area_parts k from len good = search (rules, or_parts, nat_lt, touches_ring, list_any, covers, device_ranges)

  pub area_from : (k : Known) (from len : ℕ) → AreaParts k from len → is_bad_area h k from len ≡ false
  unfolding is_bad_area
  area_from k from len p = search (rules, or_from, p.ends)

  covers_range : (from len n a : ℕ) (u : Use) → covers h from len (Range n a u) ≡ overlap from len a n
  unfolding covers lease_start lease_bytes
  covers_range from len n a u = refl

  pub device_apart : (k : Known) (from len t e : ℕ) → AreaParts k from len → 0 < t → t < 256 → k.device t ≡ Some e → overlap from len e (device_context_bytes h.context_size) ≡ false
  device_apart k from len t e p low high at = grind (arith, covers_range, fails_in, device_listed)

  pub devices_apart : (k : Known) (from len : ℕ) → ((t e : ℕ) → k.device t ≡ Some e → overlap from len e (device_context_bytes h.context_size) ≡ false) →
      list_any (covers h from len) (device_ranges h k) ≡ false
  unfolding device_ranges range_of_device
  devices_apart k from len each = search (rules, none_flat, or_from, covers_range)

  -- ---- ranges under lease

  -- an area that is in no range under lease
  module _ (k : Known) (from len : ℕ) (free : list_any (covers h from len) (open_ranges h k) ≡ false) where
    pub context_free : (p n : ℕ) (c : Command) → IsUnfinished h k p c → named_context c ≡ Some n → overlap from len n (input_context_bytes h.context_size) ≡ false
    context_free p n c u is = sym (covers_range from len (input_context_bytes h.context_size) n (InputContext p)) ∙ fails_in (covers h from len) (open_ranges h k) _ free (context_leased h k p n c u is)

    pub device_free : (t e : ℕ) → 0 < t → t < 256 → k.device t ≡ Some e → overlap from len e (device_context_bytes h.context_size) ≡ false
    device_free t e low high at = sym (covers_range from len (device_context_bytes h.context_size) e (DeviceContext t)) ∙ fails_in (covers h from len) (open_ranges h k) _ free (device_leased h k t e low high at)

    pub entry_free : (t e : ℕ) → 0 < t → t < 256 → k.device t ≡ Some e → overlap from len (entry_of k t) 8 ≡ false
    entry_free t e low high at = sym (covers_range from len 8 (entry_of k t) (SlotEntry t)) ∙ fails_in (covers h from len) (open_ranges h k) _ free (entry_leased h k t e low high at)

    pub table_free : (v : ℕ) → k.register Erstba ≡ Some v → overlap from len (base_address v) (table_bytes (event_shape h)) ≡ false
    table_free v at = sym (covers_range from len (table_bytes (event_shape h)) (base_address v) SegmentTable) ∙ fails_in (covers h from len) (open_ranges h k) _ free (table_leased h k v at)

  pub lease_free : (k : Known) (from len : ℕ) → is_in_range_lease h k from len ≡ false → list_any (covers h from len) (open_ranges h k) ≡ false
  unfolding is_in_range_lease
  lease_free k from len free = free

  -- a word that isn't under lease
  pub word_free : (k : Known) (a : ℕ) → is_leased h k a ≡ false → list_any (covers h a 4) (open_ranges h k) ≡ false
  unfolding is_leased open_leases
  word_free k a free = (or_parts _ _ (sym (list_any-append (covers h a 4) _ (open_ranges h k)) ∙ free)).1

  -- a word that the controller doesn't write alone is in no device context under lease
  pub not_in_device : (k : Known) (a : ℕ) → is_the_controllers h k a ≡ false → (s d : ℕ) → 0 < s → s < 256 → k.device s ≡ Some d → overlap a 4 d (device_context_bytes h.context_size) ≡ false
  unfolding is_the_controllers
  not_in_device k a none s d low high at = grind (arith, covers_range, fails_in, in_right, device_listed)

-- a write that breaks no rule: no range under lease has the word, or it is written as it stands
pub apart_or_same : (h : Header) (k : Known) (a w : ℕ) → lenient h k (Write a w) ≡ [] → (list_any (covers h a 4) (open_ranges h k) ≡ false) ⊎ (k.memory a ≡ w)
apart_or_same h k a w clean =
    elim (free_or_same h k a w clean) [
      | inl free ↦ inl (word_free h k a free)
      | inr (inl same) ↦ inr same
      | inr (inr unchained) ↦ inl (unchained_is h k a w unchained).apart
    ]
