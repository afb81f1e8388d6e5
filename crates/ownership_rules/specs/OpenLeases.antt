-- Which words are under lease: the controller may read or change them at any moment: xHCI 4.9.2, 4.9.4, 4.6.5, 6.1
use Rattle.std.specs.Prelude.{ℕ, ◌*◌, ◌==◌, ◌&&◌, Bool, false, List, [], ◌∷◌, ◌++◌, map, Option, Some, None}
use Rattle.std.specs.List.{list_any, flat_map, range_with_len}
use Rattle.segments.specs.Places.{overlap, address_of, link_address}
use Rattle.segments.specs.RingView.{leased_positions, leased_crossings}
use Rattle.commands.specs.declared.command.Command.{Command}
use Rattle.commands.specs.Command.{named_context}
use Rattle.contexts.specs.Contexts.{device_context_bytes, input_context_bytes}
use Rattle.event_ring.specs.EventRing.{table_bytes}
use Rattle.traces.specs.declared.header.Header.{Header}
use Rattle.traces.specs.declared.ring.Ring.{Ring}
use Rattle.traces.specs.declared.register.Register.TheVariants.{Erstba}
use Rattle.traces.specs.Header.{driver_rings, event_shape, shape_of}
use Rattle.traces.specs.Register.{base_address}
use Rattle.ring_knowledge.specs.Known.{Known}
use Rattle.ring_knowledge.specs.Rings as rings
use Rattle.ring_knowledge.specs.Writes.{entry_of}

-- what a range of bytes is for: an event segment, the segment table, the input context of the command at a position, the entry
-- of a slot in the DCBAA, or its device context
pub data Use : Type 0 where
  EventSegment : Use
  SegmentTable : Use
  InputContext : (command : ℕ) → Use
  SlotEntry : (slot : ℕ) → Use
  DeviceContext : (slot : ℕ) → Use

-- what is leased: the block of a given position, the Link of a given crossing, or a range of bytes
pub data Leased : Type 0 where
  Block : (ring position : ℕ) → Leased
  Link : (ring crossing : ℕ) → Leased
  Range : (bytes address : ℕ) (for : Use) → Leased

abbrev pub same_use : Use → Use → Bool
same_use a b = number_of a == number_of b && about a == about b where
  number_of : Use → ℕ
  number_of EventSegment = 0
  number_of SegmentTable = 1
  number_of (InputContext p) = 2
  number_of (SlotEntry s) = 3
  number_of (DeviceContext s) = 4

  about : Use → ℕ
  about EventSegment = 0
  about SegmentTable = 0
  about (InputContext p) = p
  about (SlotEntry s) = s
  about (DeviceContext s) = s

abbrev pub same_leased : Leased → Leased → Bool
same_leased (Block r p) (Block s q) = r == s && p == q
same_leased (Link r p) (Link s q) = r == s && p == q
same_leased (Range m a e) (Range n b f) = m == n && a == b && same_use e f
same_leased _ _ = false

-- it is one of these
unfoldable pub is_among : List Leased → Leased → Bool
is_among leases l = list_any (same_leased l) leases

-- the slots of a controller; slot 0 is none
unfoldable pub slots : List ℕ
slots = range_with_len 1 255

unfoldable pub range_of_entry : Known → ℕ → Option ℕ → List Leased
range_of_entry k s None = []
range_of_entry k s (Some d) = Range 8 (entry_of k s) (SlotEntry s) ∷ []

-- the entries of the DCBAA that name a device context under lease
unfoldable pub entry_ranges : Known → List Leased
entry_ranges k = flat_map (λ s. range_of_entry k s (k.device s)) slots

module _ (h : Header) where
  -- the words that a lease covers
  unfoldable pub lease_start : Leased → ℕ
  lease_start (Block r p) = address_of (shape_of h r) p
  lease_start (Link r q) = link_address (shape_of h r) q
  lease_start (Range n a e) = a

  unfoldable pub lease_bytes : Leased → ℕ
  lease_bytes (Block r p) = 16
  lease_bytes (Link r q) = 16
  lease_bytes (Range n a e) = n

  -- a lease has one of len bytes from an address on
  unfoldable pub covers : ℕ → ℕ → Leased → Bool
  covers from len l = overlap from len (lease_start l) (lease_bytes l)

  -- ---- the leases that are open

  unfoldable pub segment_ranges : List Leased
  segment_ranges = map (λ s. Range (16 * s.count) s.base EventSegment) (event_shape h).segments

  -- the segment table, from the write of ERSTBA on
  unfoldable pub table_range : Option ℕ → List Leased
  table_range None = []
  table_range (Some v) = Range (table_bytes (event_shape h)) (base_address v) SegmentTable ∷ []

  unfoldable pub range_of_context : ℕ → Option ℕ → List Leased
  range_of_context p None = []
  range_of_context p (Some c) = Range (input_context_bytes h.context_size) c (InputContext p) ∷ []

  unfoldable pub range_of_command : ℕ → Option Command → List Leased
  range_of_command p None = []
  range_of_command p (Some c) = range_of_context p (named_context c)

  -- the input contexts of unfinished commands
  unfoldable pub context_ranges : Known → List Leased
  context_ranges k = flat_map (λ p. range_of_command p (rings.command_at h k p)) (rings.unfinished_positions h k)

  unfoldable pub range_of_device : ℕ → Option ℕ → List Leased
  range_of_device s None = []
  range_of_device s (Some d) = Range (device_context_bytes h.context_size) d (DeviceContext s) ∷ []

  unfoldable pub device_ranges : Known → List Leased
  device_ranges k = flat_map (λ s. range_of_device s (k.device s)) slots

  unfoldable pub open_ranges : Known → List Leased
  open_ranges k = segment_ranges ++ table_range (k.register Erstba) ++ context_ranges k ++ entry_ranges k ++ device_ranges k

  unfoldable pub open_on : Known → Ring → List Leased
  open_on k r = map (Block r.id) (leased_positions r.shape (k.ring r.id)) ++ map (Link r.id) (leased_crossings r.shape (k.ring r.id))

  -- all leases that are open
  unfoldable pub open_leases : Known → List Leased
  open_leases k = flat_map (open_on k) (driver_rings h) ++ open_ranges k

  -- the word at this address is under lease
  unfoldable pub is_leased : Known → ℕ → Bool
  is_leased k a = list_any (covers a 4) (open_leases k)

  -- the word is the controller's alone to write: of an event segment, or of a device context under lease
  unfoldable pub is_the_controllers : Known → ℕ → Bool
  is_the_controllers k a = list_any (covers a 4) (segment_ranges ++ device_ranges k)
