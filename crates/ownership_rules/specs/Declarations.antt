-- The rules of a declaration (`sub`): xHCI 4.9.2, 4.11.2
use Rattle.std.specs.Prelude.{ℕ, Bool, false, not, List, [], ◌∷◌, length, Option, Some, None}
use Rattle.trb.specs.declared.block.Block.{Block}
use Rattle.trb.specs.Descriptor.{is_bad_descriptor, is_left_out}
use Rattle.segments.specs.Givings.{has_no_room}
use Rattle.traces.specs.declared.header.Header.{Header}
use Rattle.traces.specs.declared.ring.Ring.{Ring}
use Rattle.traces.specs.Header.{ring_with, shape_of, is_driver_kind}
use Rattle.traces.specs.Versions.{profile_of}
use Rattle.ring_knowledge.specs.Known.{Known}
use Rattle.ownership_rules.specs.Refusal.{Test}
use Rattle.ownership_rules.specs.declared.refusal.Refusal.TheVariants.{NotDeclared, RingFull, BadDescriptor, NotInProfile}

unfoldable pub is_driver_ring : Option Ring → Bool
is_driver_ring None = false
is_driver_ring (Some r) = is_driver_kind r.shape.kind

module _ (h : Header) where
  unfoldable pub declaration_tests : Known → ℕ → List Block → List Test
  declaration_tests k r blocks =
      (NotDeclared, not (is_driver_ring (ring_with h r)))
      ∷ (RingFull, has_no_room (shape_of h r) (k.ring r) (length blocks))
      ∷ (BadDescriptor, is_bad_descriptor (profile_of h.version) (shape_of h r).kind blocks)
      ∷ (NotInProfile, is_left_out (profile_of h.version) (shape_of h r).kind blocks) ∷ []
