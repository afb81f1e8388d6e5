-- What is lent after a Transfer Event: the leases end of what it tells to be passed on the ring of its endpoint
use Rattle.leases.proofs.MiddleLaws.{◌≡◌, ◌≢◌, ◌+◌, ◌≤◌, ◌==◌, ℕ, Bool, true, false, List, [], map, Some, refl, inl, inr, eqb-true, eq-eqb, cases_Bool, Trb, TransferEvent, kind, is_halting, is_stopping, is_success, is_trb_error, Spot, number, due_positions, floor_number, number-after, command_of, Header, Ring, Read, command_id, driver_rings, shape_of, EndpointState, Error, Known, event_read, learned, RingSpot, code_told, event_at, broken_off, passed, stopped_at, transfer_read, transferred, transferred_at, context_ranges, device_ranges, entry_ranges, open_ranges, range_of_command, range_of_device, segment_ranges, slots, table_range, is_among, IsIn, come_to, ended_where, is_passed, Lent, grown, AreOpen, rules, and_true, IsWithinLap, Moves, only_ended, entries_kept, Narrows, floors, narrows, one_ring_left}
use Rattle.ring_knowledge.specs.Rings as rings

module _ (h : Header) (k : Known) where
  -- one ring goes on to a number; of the others, of registers and device contexts nothing changes
  record GoesOn (k' : Known) (r to : ℕ) : Type 0 where
    others : (q : ℕ) → (q == r) ≡ false → k'.ring q ≡ k.ring q
    given : (k'.ring r).given ≡ (k.ring r).given
    free : (k'.ring r).free ≡ (k.ring r).free
    crossed : (k'.ring r).crossed ≡ (k.ring r).crossed
    floor : floor_number (k'.ring r) ≡ to
    register : k'.register ≡ k.register
    device : k'.device ≡ k.device

  itself : (r : ℕ) → (r == r) ≡ true
  itself r = eq-eqb r r refl

  broken_goes : (s i r : ℕ) (t : Spot) (state : EndpointState) → GoesOn (broken_off h k s i r t state) r (number t + 1)
  unfolding broken_off passed rings.on_ring
  broken_goes s i r t state = search (rules, itself, number-after, shape_of, number)

  stopped_goes : (s i r : ℕ) (t : Spot) → GoesOn (stopped_at h k s i r t) r (number t)
  unfolding stopped_at rings.on_ring
  stopped_goes s i r t = search (rules, itself)

  same_goes : (r : ℕ) → GoesOn k r (floor_number (k.ring r))
  same_goes r = search rules

  marked_goes : (k' : Known) (r to : ℕ) (f : ℕ → ℕ → Bool) → GoesOn k' r to → GoesOn (record k' { must_move = f }) r to
  marked_goes k' r to f g = search rules

  counted_goes : (k' : Known) (r to n : ℕ) → GoesOn k' r to → GoesOn (record k' { reads = n }) r to
  counted_goes k' r to n g = search rules

  transferred_goes : (c s i r : ℕ) (t : Spot) → GoesOn (transferred h k c s i r t) r (come_to c t (floor_number (k.ring r)))
  unfolding transferred come_to passed rings.on_ring
  transferred_goes c s i r t = elim (cases_Bool (is_success c)) [
    | inl so ↦ rw so (search (rules, itself, number-after, shape_of, number))
    | inr not_so ↦ elim (cases_Bool (is_halting c)) [
      | inl so ↦ rw (not_so, so) (search (rules, marked_goes, broken_goes))
      | inr none ↦ elim (cases_Bool (is_trb_error c)) [
        | inl so ↦ rw (not_so, none, so) (broken_goes s i r t Error)
        | inr other ↦ elim (cases_Bool (is_stopping c)) [ inl so ↦ rw (not_so, none, other, so) (stopped_goes s i r t) | inr last ↦ rw (not_so, none, other, last) (same_goes r) ]
      ]
    ]
  ]

  read_goes : (b : Trb) (at : RingSpot) → kind b ≡ TransferEvent → event_at h k b ≡ Some at →
      GoesOn (learned h k (Read b)) at.ring (come_to (code_told h k b) at.spot (floor_number (k.ring at.ring)))
  unfolding learned event_read transfer_read transferred_at
  read_goes b at transfers found = rw transfers (rw found (search (rules, counted_goes, transferred_goes)))

  -- the ranges rest on the command ring, on registers and on device contexts
  pub ranges_rest : (k' : Known) → k'.ring (command_id h) ≡ k.ring (command_id h) → k'.register ≡ k.register → k'.device ≡ k.device → open_ranges h k' ≡ open_ranges h k
  unfolding open_ranges device_ranges context_ranges rings.unfinished_positions rings.command_at
  ranges_rest k' commands registers devices = search (rules, shape_of, command_id, range_of_command, command_of, due_positions, segment_ranges, table_range, context_ranges, entry_ranges, device_ranges, entries_kept, range_of_device, slots)

-- the law
module _ (h : Header) (k : Known) (ts : List Lent) (still : AreOpen h k ts) (b : Trb) (n : ℕ) where
  module _ (at : RingSpot) (transfers : kind b ≡ TransferEvent) (found : event_at h k b ≡ Some at) (apart : at.ring ≢ command_id h)
      (rises : floor_number (k.ring at.ring) ≤ come_to (code_told h k b) at.spot (floor_number (k.ring at.ring)))
      (lap : (q : Ring) → IsIn q (driver_rings h) → IsWithinLap q.shape (k.ring q.id)) where
    abbrev k' : Known
    k' = learned h k (Read b)

    abbrev from : ℕ
    from = floor_number (k.ring at.ring)

    abbrev to : ℕ
    to = come_to (code_told h k b) at.spot from

    goes : GoesOn h k k' at.ring to
    goes = read_goes h k b at transfers found

    narrow : Narrows h k k' []
    unfolding is_among
    narrow = search (rules, Moves, floors, floor_number, IsWithinLap, eqb-true, is_among, ranges_rest, command_id, goes, and_true, open_ranges)

    pub transfer_lent : grown h k (Read b) n ts ≡ map (ended_where (is_passed at.ring from to) n) ts
    transfer_lent = search (rules, only_ended, narrows h k k' [] narrow, one_ring_left (floors k) (floors k') at.ring, goes)
