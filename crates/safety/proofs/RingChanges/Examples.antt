-- Worked examples of rings that come and go, and of descriptors that are withdrawn
use Rattle.safety.proofs.Words.{[], ◌≡◌, ℕ, true, false, List, ◌∷◌, refl, Some, nat_lt, Xfer, Bytes32, Header, Ring, Write, Bell, forgotten, is_bad_free, is_bad_ring, is_bad_segment, is_had, shows_first_lap, with_ring, without_ring, restored_on, ring_moved, ring_restored, has_stopped, is_bad_withdraw, is_left, rests_with, Row, header_now, known_now, known_after, put, put_pair, Block, Data, RingView, EndpointState, Running, Stopped, Known, nothing, Three, rules_on_literals, RingRow, FreeRow, NopRow}

-- Worked examples of rings that come and go

abbrev no_rings : Header
no_rings = record { version = Three; context_size = Bytes32; rings = [] }

-- a transfer ring of 4 blocks
abbrev ring_at : ℕ → ℕ → Ring
ring_at id base = record { id = id; shape = record { kind = Xfer; segments = record { base = base; count = 4 } ∷ []; offset = 0 } }

may_come : is_bad_ring (header_now no_rings []) (known_now no_rings []) (ring_at 2 0x30000) ≡ false
unfolding rules_on_literals is_bad_ring is_bad_segment shows_first_lap
may_come = refl

abbrev one : List Row
one = RingRow (ring_at 2 0x30000) ∷ []

-- over a ring that is there none may come
over_another : is_bad_ring (header_now no_rings one) (known_now no_rings one) (ring_at 3 0x30020) ≡ true
unfolding rules_on_literals is_bad_ring is_bad_segment shows_first_lap with_ring forgotten
over_another = refl

may_go : is_bad_free (header_now no_rings one) (known_now no_rings one) 2 ≡ false
unfolding rules_on_literals is_bad_free is_had with_ring forgotten
may_go = refl

abbrev gone : List Row
gone = FreeRow 2 ∷ one

-- where one was another may come
in_its_place : is_bad_ring (header_now no_rings gone) (known_now no_rings gone) (ring_at 3 0x30020) ≡ false
unfolding rules_on_literals is_bad_ring is_bad_segment shows_first_lap with_ring without_ring forgotten
in_its_place = refl

-- but not where a control word shows the Cycle bit of the first lap
abbrev written : List Row
written = (Write 0x3002c 1) ∷ gone

shows_its_cycle : is_bad_ring (header_now no_rings written) (known_now no_rings written) (ring_at 3 0x30020) ≡ true
unfolding rules_on_literals is_bad_ring is_bad_segment shows_first_lap with_ring without_ring forgotten restored_on ring_restored ring_moved
shows_its_cycle = refl

abbrev block : ℕ → ℕ → Block
block n control = record { w = n ∷ 0 ∷ 0 ∷ control ∷ [] }

-- a transfer ring with three data places and a Link
abbrev one_ring : Header
one_ring = record {
  version = Three;
  context_size = Bytes32;
  rings = record { id = 2; shape = record { kind = Xfer; segments = record { base = 0x30000; count = 4 } ∷ []; offset = 0 } } ∷ [];
}

-- a descriptor of two blocks was declared and given, and the ring is held at its first block
abbrev held_ring : RingView
held_ring = record {
  queue = block 7 0x410 ∷ block 8 0x420 ∷ [];
  lengths = 2 ∷ [];
  given = λ p. nat_lt p 2;
  crossed = λ q. false;
  withdrawn = λ p. false;
  free = λ p. false;
  floor = Data 0;
  held = Some 0;
}

-- endpoint 2 of slot 1 has the ring, and is in this state
abbrev in_state : EndpointState → Known
in_state state = record nothing {
  started = true;
  ring = put nothing.ring 2 held_ring;
  ring_of = put_pair nothing.ring_of 1 2 (Some 2);
  endpoint_state = put_pair nothing.endpoint_state 1 2 state;
}

abbrev behind : Known
behind = known_after one_ring (in_state Stopped) (NopRow 2 0)

may_withdraw : is_bad_withdraw one_ring (in_state Stopped) 2 0 ≡ false
unfolding rules_on_literals is_bad_withdraw has_stopped rests_with
may_withdraw = refl

-- not inside a descriptor, not twice, and not while the endpoint runs
none_inside : is_bad_withdraw one_ring (in_state Stopped) 2 1 ≡ true
unfolding rules_on_literals is_bad_withdraw has_stopped rests_with
none_inside = refl

none_twice : is_bad_withdraw one_ring behind 2 0 ≡ true
unfolding rules_on_literals is_bad_withdraw has_stopped rests_with
none_twice = refl

none_running : is_bad_withdraw one_ring (in_state Running) 2 0 ≡ true
unfolding rules_on_literals is_bad_withdraw has_stopped rests_with
none_running = refl

-- the doorbell of the endpoint asks for the No Ops, which aren't there yet
asked : ring_restored one_ring behind (Bell 1 2) ≡ Some 2
unfolding rules_on_literals ring_restored ring_moved
asked = refl

left : is_left one_ring behind (Some 2) ≡ true
unfolding rules_on_literals is_left
left = refl
