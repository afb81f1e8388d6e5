-- A ring that a command binds is a transfer ring; what is dropped is of the command's slot
use Rattle.safety.proofs.Words.{◌≡◌, ◌∙◌, ℕ, true, false, Option, Some, sym, ap, eqb-true, Any-from_list_any, and_parts, false≢true, Command, StopEndpoint, is_dropped, Header, IsHeader, is_ring, Known, drops, ring_bound, binds_ring, arith}
use Rattle.safety.proofs.HeaderRings.RingIds.{having_transfer}
use Rattle.safety.proofs.CommandsKeep.Concerned.{Concerns}
use Rattle.safety.specs.EndpointsKeep as endpoints

pub ring_is : (r : ℕ) (o : Option ℕ) → is_ring r o ≡ true → o ≡ Some r
ring_is r o h = grind (arith, false≢true, eqb-true)

pub bound_transfer : (h : Header) → IsHeader h → (k : Known) (r : ℕ) (c : Command) → binds_ring h k r c ≡ true → endpoints.IsTransferRing h r
unfolding binds_ring ring_bound
bound_transfer h is k r c bound = grind (arith, Any-from_list_any, having_transfer, ring_is)

-- so it concerns that endpoint
pub drops_concerns : (k : Known) (c : Command) (s i : ℕ) → drops k c s i ≡ true → Concerns k.memory c s i
unfolding drops
drops_concerns k o s i is = grind (arith, false, eqb-true, and_parts, is_dropped, false≢true)

pub stops_drop_none : (k : Known) (c : Command) (s i t j : ℕ) → drops k c s i ≡ true → c ≡ StopEndpoint t j → ⊥
unfolding drops
stops_drop_none k c s i t j is same = false≢true (ap (λ x. drops k x s i) (sym same) ∙ is)
