-- Worked examples of leases of rings that come and go, and of descriptors that are withdrawn
use Rattle.leases.proofs.BaseWords.{◌≡◌, ℕ, List, [], ◌∷◌, nat_lt, refl, put, Xfer, Bytes32, Restores, Withdraws, new_ring, Three, Header, Write, Row, RingRow, FreeRow, Known, nothing, on_ring, as_lease, comes_before, without_end, rules_on_literals, Block, Link, open_leases, Lent, begun_at, ended_where, in_turn, is_unended, passed_on, precedes, with_begun, with_leased, forgotten, with_ring, without_ring, restored_on, ring_moved, ring_restored, open_now, lents, Trb}

abbrev no_rings : Header
no_rings = record { version = Three; context_size = Bytes32; rings = [] }

-- a transfer ring of 4 blocks comes, and its Link is given before any block is declared
abbrev given : List Row
given = (Write 0x3003c 0x1803) ∷ RingRow (record { id = 2; shape = record { kind = Xfer; segments = record { base = 0x30000; count = 4 } ∷ []; offset = 0 } }) ∷ []

link_is_open : open_now no_rings given ≡ Link 2 3 ∷ []
unfolding rules_on_literals with_ring forgotten restored_on ring_restored ring_moved
link_is_open = refl

-- its lease ends with the ring
link_is_over : lents no_rings 3 (FreeRow 2 ∷ given) ≡ record { leased = Link 2 3; from = 4; to = 5 } ∷ []
unfolding rules_on_literals with_ring without_ring forgotten restored_on ring_restored ring_moved lents passed_on with_begun begun_at ended_where is_unended in_turn with_leased precedes as_lease comes_before without_end
link_is_over = refl

-- ---- a descriptor of two blocks is withdrawn at row 9, and its ring restored at row 12

abbrev one_ring : Header
one_ring = record {
  version = Three;
  context_size = Bytes32;
  rings = record { id = 2; shape = record { kind = Xfer; segments = record { base = 0x30000; count = 4 } ∷ []; offset = 0 } } ∷ [];
}

abbrev block : ℕ → ℕ → Trb
block n control = record { w = n ∷ 0 ∷ 0 ∷ control ∷ [] }

abbrev handed_over : Known
handed_over = record nothing { ring = put nothing.ring 2 (record new_ring { queue = block 7 0x410 ∷ block 8 0x420 ∷ []; lengths = 2 ∷ []; given = λ p. nat_lt p 2 }) }

abbrev withdrawn : Known
withdrawn = on_ring one_ring handed_over 2 (Withdraws 0)

abbrev restored : Known
restored = on_ring one_ring withdrawn 2 Restores

abbrev lent : ℕ → ℕ → ℕ → Lent
lent p from to = record { leased = Block 2 p; from = from; to = to }

leases_end : passed_on (open_leases one_ring handed_over) (open_leases one_ring withdrawn) 9 (lent 0 4 without_end ∷ lent 1 5 without_end ∷ []) ≡ lent 0 4 9 ∷ lent 1 5 9 ∷ []
unfolding rules_on_literals passed_on with_begun begun_at ended_where is_unended in_turn with_leased precedes as_lease comes_before without_end
leases_end = refl

second_leases : passed_on (open_leases one_ring withdrawn) (open_leases one_ring restored) 12 (lent 0 4 9 ∷ lent 1 5 9 ∷ []) ≡ lent 0 4 9 ∷ lent 1 5 9 ∷ lent 0 12 without_end ∷ lent 1 12 without_end ∷ []
unfolding rules_on_literals passed_on with_begun begun_at ended_where is_unended in_turn with_leased precedes as_lease comes_before without_end
second_leases = refl
