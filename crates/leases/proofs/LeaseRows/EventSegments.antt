-- The segments of the event ring, by its place among the rings
use Rattle.leases.proofs.BaseWords.{rules, ◌≡◌, ◌<◌, ℕ, true, false, refl, length, get_or, slice_get_read, Ring, Header, IsHeader, is_event_kind, event_shape, event_ring, among_at, each_among, not_found, event_here}

pub event_count : (h : Header) → IsHeader h → (i : ℕ) (r : Ring) → r ≡ get_or h.rings i r → i < length h.rings → is_event_kind r.shape.kind ≡ true → length r.shape.segments ≡ length (event_shape h).segments
event_count h headed i r item below event = search (rules, length, event_here, among_at, slice_get_read)

pub no_events : (h : Header) → ((i : ℕ) (d : Ring) → i < length h.rings → is_event_kind (get_or h.rings i d).shape.kind ≡ false) → 0 ≡ length (event_shape h).segments
unfolding event_shape event_ring
no_events h none = rw (not_found (λ q. is_event_kind q.shape.kind) h.rings (each_among (λ q. is_event_kind q.shape.kind) h.rings none)) refl
