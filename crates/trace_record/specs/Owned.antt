-- The leases that are open, by what finds them
use Rattle.std.specs.Prelude.{ℕ, ◌++◌, ◌||◌, Bool}
use Rattle.std.specs.List.{list_any}
use Rattle.segments.specs.ShapeValue.{Shape}
use Rattle.segments.specs.Places.{overlap, address_of, link_address}
use Rattle.segments.specs.RingView.{RingView, leased_positions, leased_crossings}
use Rattle.traces.specs.declared.header.Header.{Header}
use Rattle.traces.specs.declared.register.Register.TheVariants.{Erstba}
use Rattle.traces.specs.Header.{driver_rings}
use Rattle.ring_knowledge.specs.Known.{Known}
use Rattle.ownership_rules.specs.OpenLeases.{context_ranges, covers, device_ranges, entry_ranges, open_on, segment_ranges, table_range}

-- the word lies in a block or a Link of the ring that is under lease
abbrev pub is_owned : Shape → RingView → ℕ → Bool
is_owned shape v a =
    list_any (λ p. overlap a 4 (address_of shape p) 16) (leased_positions shape v)
    || list_any (λ q. overlap a 4 (link_address shape q) 16) (leased_crossings shape v)

-- the leases of the rings' words, those of the event segments among them, have the word at this address
abbrev pub rings_have : Header → Known → ℕ → Bool
rings_have h k a = list_any (λ q. list_any (covers h a 4) (open_on h k q)) (driver_rings h) || list_any (covers h a 4) (segment_ranges h)

-- the lease of the segment table has it
abbrev pub table_has : Header → Known → ℕ → Bool
table_has h k a = list_any (covers h a 4) (table_range h (k.register Erstba))

-- those of the DCBAA's entries have it
abbrev pub entries_have : Header → Known → ℕ → Bool
entries_have h k a = list_any (covers h a 4) (entry_ranges k)

-- those of the segment table, the contexts and the DCBAA's entries have it
abbrev pub others_have : Header → Known → ℕ → Bool
others_have h k a = list_any (covers h a 4) (table_range h (k.register Erstba) ++ context_ranges h k ++ entry_ranges k ++ device_ranges h k)
