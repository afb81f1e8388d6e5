-- What a search through the rings of a header has found
use Rattle.trace_record.proofs.MiddleLaws.{rules, arith, ◌≡◌, ℕ, List, Bool, true, false, None, Some, refl, subst, get_or, slice_get, position, slice_get_read, position-Some, position-None, Ring, Header, IsHeader, command_ring, is_command_kind, false_unless, IsAmong, each_among, find_only, not_found, together}

pub ring_here : (h : Header) (p : Ring → Bool) (xs : List Ring) (n : ℕ) (ring : Ring) → position p xs ≡ Some n → xs ≡ h.rings → ring ≡ get_or xs n ring → (slice_get h.rings n ≡ Some ring) × (p ring ≡ true)
ring_here h p xs n ring e same item = search (rules, position-Some, slice_get_read, position-Some p xs n ring e)

pub none_here : (h : Header) (p : Ring → Bool) (xs : List Ring) → position p xs ≡ None → xs ≡ h.rings → (q : Ring) → IsAmong q h.rings → p q ≡ false
none_here h p xs e same = subst (λ (ys : List Ring). (q : Ring) → IsAmong q ys → p q ≡ false) same (each_among p xs (λ i d l. position-None p xs i d e l))

pub command_found : (h : Header) → IsHeader h → (ring : Ring) → IsAmong ring h.rings → is_command_kind ring.shape.kind ≡ true → command_ring h ≡ Some ring
unfolding command_ring
command_found h headed ring among command = grind (arith, find_only, is_command_kind, together, false_unless)

pub no_command_ring : (h : Header) → position (λ r. is_command_kind r.shape.kind) h.rings ≡ None → command_ring h ≡ None
unfolding command_ring
no_command_ring h none = not_found (λ r. is_command_kind r.shape.kind) h.rings (none_here h (λ r. is_command_kind r.shape.kind) h.rings none refl)
