-- The ring of a descriptor that is withdrawn: xHCI 4.6.9
use Rattle.std.specs.Prelude.{◌≡◌, ℕ, true, Option, None, Some}
use Rattle.traces.specs.declared.header.Header.{Header}
use Rattle.traces.specs.Header.{ring_with}
use Rattle.ownership_rules.specs.Rings.{is_transfer_ring}

module _ (h : Header) where
  -- the ring, if one is named, is a transfer ring
  abbrev pub NamesTransfer : Option ℕ → Type 0
  NamesTransfer None = Unit {0}
  NamesTransfer (Some r) = is_transfer_ring (ring_with h r) ≡ true
