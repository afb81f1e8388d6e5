-- A ring that goes: the header is one still, and what the record rests on
use Rattle.driver_rows.proofs.MiddleLaws.{rules, Bool, is_being_bound, position, get_or, ring_here, ◌≡◌, ◌≢◌, ◌==◌, ◌<◌, ◌∙◌, ◌&&◌, ◌||◌, ℕ, not, true, false, None, Some, filter, length, slice_get, refl, sym, ap, subst, arith, eq-eqb, eqb-true, ne_eqb, Option, is_some, list_any, range_with_len, remove, and_from, false_from_ne_true, false≢true, slice_get_within, any_of, not_from_false, some_of, Header, Ring, RingKind, IsHeader, is_command_kind, is_event_kind, is_ring, is_transfer_kind, ring_with, Known, HasEndpoint, among_at, numbers_apart, ring_found, is_transfer_ring, DriverKeeps, header_parts, in_range, forgotten, is_bad_free, is_had, stricter, without_ring, all_kept, together_kept, cleared, numbered, or_true, command_id, command_ring, id_or_none, has_runs, IsTransferRing, or_parts, FreeRow, gone, is_in_use, goes_badly, none_has_256, Goes, SameCommands, StartedIsThere, IsRingAt, frees_badly, BadFree, other_commands, Cmd, Evt, Xfer, events_go, kept_others}
use Rattle.safety.proofs.RingChanges.GoneRings as goes

-- ---- whether an endpoint has the ring

one_has : (h : Header) (k : Known) → DriverKeeps h k → (id : ℕ) → HasEndpoint k id → is_had k id ≡ true
unfolding is_had
one_has h k d id e =
    let low = numbered h k d e.slot e.index id e.has in
    any_of (λ s. list_any (λ i. is_ring id (k.ring_of s i)) (range_with_len 1 31)) (range_with_len 1 255) e.slot (in_range 1 255 e.slot (omega (arith, low.0)) (omega (arith, low.1)))
    (any_of (λ i. is_ring id (k.ring_of e.slot i)) (range_with_len 1 31) e.index (in_range 1 31 e.index (omega (arith, low.2)) (omega (arith, low.3))) (ap (is_ring id) e.has ∙ eq-eqb id id refl))

none_has : (k : Known) (id : ℕ) → ((s i : ℕ) → k.ring_of s i ≢ Some id) → is_had k id ≡ false
unfolding is_had
none_has k id none =
    false_from_ne_true _ (λ had.
    let s = some_of (λ s. list_any (λ i. is_ring id (k.ring_of s i)) (range_with_len 1 31)) (range_with_len 1 255) had in
    let i = some_of (λ i. is_ring id (k.ring_of s.0 i)) (range_with_len 1 31) s.2 in
    by s.0 i.0 (k.ring_of s.0 i.0) refl i.2)
  where
    by : (s i : ℕ) (o : Option ℕ) → k.ring_of s i ≡ o → is_ring id o ≡ true → ⊥
    by s i o at is = search (rules, eqb-true)

-- what keeps a transfer ring
pub had_so : (h : Header) (k : Known) → DriverKeeps h k → (id : ℕ) → HasEndpoint k id → true ≡ is_in_use h k id Xfer
unfolding is_in_use
had_so h k d id e = sym (ap (λ b. b || is_being_bound h k id) (one_has h k d id e))

pub bound_so : (h : Header) (k : Known) (id : ℕ) → ((s i : ℕ) → k.ring_of s i ≢ Some id) → is_being_bound h k id ≡ is_in_use h k id Xfer
unfolding is_in_use
bound_so h k id none = sym (ap (λ b. b || is_being_bound h k id) (none_has k id none))

-- ---- the header, the rings, the record

-- the ring with a number has an ID
ring_at : (h : Header) → IsHeader h → (id n : ℕ) (r : Ring) → slice_get h.rings n ≡ Some r → r.id ≡ id → ring_with h id ≡ Some r
ring_at h is id n r at named = ap (λ i. ring_with h i) (sym named) ∙ ring_found h is r (among_at h.rings n r at)

pub another_there : (h : Header) → IsHeader h → (id n : ℕ) (r : Ring) → slice_get h.rings n ≡ Some r → r.id ≡ id → (r.shape.kind ≡ Xfer → ⊥) → is_transfer_ring (ring_with h id) ≡ false
another_there h is id n r at named other = ap is_transfer_ring (ring_at h is id n r at named) ∙ (search rules)

-- by the rule of the trace's version a ring that is there may not go
frees_so : (h : Header) (k : Known) (id : ℕ) (r : Ring) → ring_with h id ≡ Some r →
    frees_badly h k id ≡ ((not (is_transfer_kind r.shape.kind) && not (has_runs h.version)) || is_in_use h k id r.shape.kind)
unfolding stricter is_bad_free goes_badly
frees_so h k id r found = ap (λ o. (not (is_transfer_ring o) && not (has_runs h.version)) || goes_badly h k id o) found

-- nor may one that isn't
pub frees_none : (h : Header) (k : Known) (id : ℕ) → ring_with h id ≡ None → frees_badly h k id ≡ true
unfolding stricter is_bad_free goes_badly
frees_none h k id none = ap (λ o. (not (is_transfer_ring o) && not (has_runs h.version)) || goes_badly h k id o) none ∙ or_true _

-- the ring as it is read of the header, by the number that its ID has
pub ring_numbered : (h : Header) (id n : ℕ) (r : Ring) → position (λ q. q.id == id) h.rings ≡ Some n → r ≡ get_or h.rings n r → IsRingAt h id n
ring_numbered h id n r numbered read =
    let here = ring_here h (λ q. q.id == id) h.rings n r numbered refl read in record { ring = r; at = here.0; named = eqb-true r.id id here.1 }

pub frees_as : (h : Header) (k : Known) (id n : ℕ) (r : Ring) (kind : RingKind) (stays : Bool) → IsHeader h → position (λ q. q.id == id) h.rings ≡ Some n → r ≡ get_or h.rings n r → kind ≡ r.shape.kind →
    stays ≡ ((not (is_transfer_kind kind) && not (has_runs h.version)) || is_in_use h k id kind) → frees_badly h k id ≡ stays
frees_as h k id n r kind stays is numbered read of_kind told =
    let here = ring_here h (λ q. q.id == id) h.rings n r numbered refl read in
    frees_so h k id r (ring_at h is id n r here.0 (eqb-true r.id id here.1))
    ∙ ap (λ (x : RingKind). (not (is_transfer_kind x) && not (has_runs h.version)) || is_in_use h k id x) (sym of_kind) ∙ sym told

-- so it is free for each version
pub frees_fine : (h : Header) (k : Known) (id : ℕ) → frees_badly h k id ≡ false → is_bad_free h k id ≡ false
frees_fine h k id fine = (or_parts (stricter h k (FreeRow id) BadFree) (is_bad_free h k id) fine).1

-- a command ring that was started is there
pub started_there : (h : Header) → IsHeader h → (k : Known) → DriverKeeps h k → StartedIsThere h k
unfolding command_id
started_there h is k d used = by (command_ring h) (d.run.absent used).found
  where
    by : (o : Option Ring) → ring_with h (id_or_none o) ≡ Some (d.run.absent used).ring → is_some o ≡ true
    by None found = absurd (none_has_256 h is (d.run.absent used).ring found)
    by (Some ring) found = refl

module _ (h : Header) (is : IsHeader h) (id n : ℕ) (there : IsRingAt h id n) where
  found_there : ring_with h id ≡ Some there.ring
  found_there = ring_at h is id n there.ring there.at there.named

  low : n < length h.rings
  low = slice_get_within h.rings n there.ring there.at

  other_id : (i : ℕ) (q : Ring) → slice_get h.rings i ≡ Some q → i ≢ n → q.id ≢ id
  other_id i q at other same = (numbers_apart h.rings (header_parts h is).1 i n q there.ring at there.at other).ids (same ∙ sym there.named)

  taken_out : filter (λ q. not (q.id == id)) h.rings ≡ remove h.rings n
  taken_out =
      kept_others (λ q. not (q.id == id)) h.rings n there.ring there.at (ap not (eq-eqb there.ring.id id there.named))
      (λ i q at other. not_from_false (q.id == id) (ne_eqb q.id id (other_id i q at other)))

  pub rest_header : IsHeader (without_ring h id)
  unfolding without_ring
  rest_header = search (rules, header_parts, and_from, all_kept, together_kept)

  pub rest_is : record h { rings = remove h.rings n } ≡ without_ring h id
  unfolding without_ring
  rest_is = ap (λ rs. record h { rings = rs }) (sym taken_out)

  module _ (k : Known) (d : DriverKeeps h k) (good : is_bad_free h k id ≡ false) where
    transfers_go : IsTransferRing h id → SameCommands h k (without_ring h id) (gone h k id)
    unfolding without_ring forgotten
    transfers_go it =
        subst (λ (l : Known). SameCommands h k (without_ring h id) l) (sym (goes.gone_is h is k d id it good))
        (other_commands h (filter (λ q. not (q.id == id)) h.rings) k (cleared id k.ring) d (goes.others h is k d id it good))

    go_by : (kind : RingKind) → there.ring.shape.kind ≡ kind → Goes h k there.ring
    go_by Cmd at other = absurd (false≢true (sym other ∙ ap (λ x. is_command_kind x) at))
    go_by Evt at other = events_go h is k n there.ring there.at (ap (λ x. is_event_kind x) at)
    go_by Xfer at other =
        subst (λ i. SameCommands h k (without_ring h i) (gone h k i)) (sym there.named)
        (transfers_go (record { ring = there.ring; found = found_there; kind = ap (λ x. is_transfer_kind x) at }))

    pub goes_so : Goes h k there.ring
    goes_so = go_by there.ring.shape.kind refl
