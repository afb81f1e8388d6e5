-- Where a slot has no device, no range is lent for its entry in the DCBAA, nor for its device context; where a due position isn't given, none
-- for the input context of its command
use Rattle.leases.proofs.UpperLaws.{◌≡◌, ◌+◌, ◌<◌, ◌≤◌, ◌==◌, ℕ, true, false, not, List, Some, None, ap, eqb-true, range_with_len, false≢true, IsShape, place_count, RingView, due_positions, floor_number, Header, Ring, command_id, shape_of, Known, same_due, Leased, Block, Link, Range, EventSegment, SegmentTable, InputContext, SlotEntry, DeviceContext, is_among, open_leases, IsIn, from_filter, is_use_free, shares_use, Lent, AreOpen, rules, none_shares, InOn, block, link, from_range, HoldsOfRanges, each_open, of_range, Erstba, among_is, arith, IsNoTable, no_table}
use Rattle.ring_knowledge.specs.Rings as rings

module _ (h : Header) (k : Known) (P : Leased → Type 0) where
  -- what holds of each kind of lease that is open
  pub record HoldsOfEach : Type 0 where
    pub blocks : (r p : ℕ) → P (Block r p)
    pub links : (r q : ℕ) → P (Link r q)
    pub segments : (n a : ℕ) → P (Range n a EventSegment)
    pub table : (n a : ℕ) → P (Range n a SegmentTable)
    pub contexts : (n a p : ℕ) → IsIn p (rings.unfinished_positions h k) → P (Range n a (InputContext p))
    pub entries : (n a s d : ℕ) → k.device s ≡ Some d → P (Range n a (SlotEntry s))
    pub devices : (n a s d : ℕ) → k.device s ≡ Some d → P (Range n a (DeviceContext s))

  module _ (each : HoldsOfEach) where
    of_ring : (q : Ring) (l : Leased) → InOn q (k.ring q.id) l → P l
    of_ring q _ (block p low high given) = each.blocks q.id p
    of_ring q _ (link c low high crossed) = each.links q.id c

    pub of_open : (l : Leased) → is_among (open_leases h k) l ≡ true → P l
    of_open l e =
        let ranges : HoldsOfRanges h k P = record { segments = each.segments; table = λ n a v some. each.table n a; contexts = each.contexts; entries = each.entries; devices = each.devices } in
        each_open h k P (λ q at. of_ring q) (of_range h k P ranges) l e

-- a slot with a device is another than one without
other_slot : (k : Known) (s t d : ℕ) → k.device s ≡ None → k.device t ≡ Some d → (s == t) ≡ false
other_slot k s t d none some = search (rules, eqb-true)

module _ (h : Header) (k : Known) (ts : List Lent) (still : AreOpen h k ts) (s : ℕ) (none : k.device s ≡ None) where
  pub entry_free : is_use_free h ts (SlotEntry s) ≡ true
  unfolding is_use_free
  entry_free =
      ap not (none_shares (λ l. is_among (open_leases h k) l ≡ true) (shares_use h (SlotEntry s)) 0 ts
      (of_open h k (λ l. shares_use h (SlotEntry s) l ≡ false) (search (rules, other_slot))) still)

  pub device_free : is_use_free h ts (DeviceContext s) ≡ true
  unfolding is_use_free
  device_free =
      ap not (none_shares (λ l. is_among (open_leases h k) l ≡ true) (shares_use h (DeviceContext s)) 0 ts
      (of_open h k (λ l. shares_use h (DeviceContext s) l ≡ false) (search (rules, other_slot))) still)

-- of a due position that isn't given no input context is lent at its place
module _ (h : Header) (k : Known) (ts : List Lent) (still : AreOpen h k ts) (p : ℕ) where
  abbrev commands : RingView
  commands = k.ring (command_id h)

  abbrev count : ℕ
  count = place_count (shape_of h (command_id h))

  module _ (allowed : IsShape (shape_of h (command_id h))) (low : floor_number commands ≤ p) (high : p < floor_number commands + count) (absent : commands.given p ≡ false) where
    pub context_free : is_use_free h ts (InputContext p) ≡ true
    unfolding is_use_free rings.unfinished_positions due_positions
    context_free =
        ap not (none_shares (λ l. is_among (open_leases h k) l ≡ true) (shares_use h (InputContext p)) 0 ts
        (of_open h k (λ l. shares_use h (InputContext p) l ≡ false) (search (rules, from_filter, range_with_len, floor_number, from_range, same_due, eqb-true, false≢true))) still)

-- where it isn't written no table is lent
pub table_free : (h : Header) (k : Known) (ts : List Lent) → AreOpen h k ts → k.register Erstba ≡ None → is_use_free h ts SegmentTable ≡ true
unfolding is_use_free
table_free h k ts still unwritten =
    ap not (none_shares (λ l. is_among (open_leases h k) l ≡ true) (shares_use h SegmentTable) 0 ts (λ l among. shares_none l (no_table h k unwritten l (among_is (open_leases h k) l among))) still)
  where
    shares_none : (l : Leased) → IsNoTable l → shares_use h SegmentTable l ≡ false
    shares_none l none = grind arith
