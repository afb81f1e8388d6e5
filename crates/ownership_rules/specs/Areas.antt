-- The area rule: where input contexts, entries, tables and device contexts may lie: xHCI 6.1, 6.2.1, 6.2.5, 6.5
use Rattle.std.specs.Prelude.{ℕ, ◌+◌, ◌*◌, ◌/◌, ◌^◌, ◌||◌, Bool, nat_lt}
use Rattle.std.specs.List.{list_any, range_with_len}
use Rattle.traces.specs.declared.header.Header.{Header}
use Rattle.traces.specs.Header.{touches_ring}
use Rattle.ring_knowledge.specs.Known.{Known}
use Rattle.ownership_rules.specs.OpenLeases.{covers, device_ranges, open_ranges}

-- a word of the area is soiled
unfoldable pub is_soiled : Known → ℕ → ℕ → Bool
is_soiled k from len = list_any (λ i. k.soiled (from + 4 * i)) (range_with_len 0 (len / 4))

module _ (h : Header) where
  -- it ends above 2^64, or touches a declared segment or a leased device context
  unfoldable pub is_bad_area : Known → ℕ → ℕ → Bool
  is_bad_area k from len = nat_lt (2 ^ 64) (from + len) || touches_ring h from len || list_any (covers h from len) (device_ranges h k)

  -- it touches a range under lease
  unfoldable pub is_in_range_lease : Known → ℕ → ℕ → Bool
  is_in_range_lease k from len = list_any (covers h from len) (open_ranges h k)
