-- The rules of a declaration on one ring
use Rattle.std.specs.Prelude.{◌≡◌, ◌∷◌, [], None, List, length}
use Rattle.trb.specs.declared.block.Block.{Block}
use Rattle.trb.specs.declared.profile.Profile.{Profile}
use Rattle.trb.specs.declared.ring_kind.RingKind.{RingKind}
use Rattle.trb.specs.Descriptor.{is_bad_descriptor, is_left_out}
use Rattle.segments.specs.ShapeValue.{Shape}
use Rattle.segments.specs.RingView.{RingView, Declares, changed}
use Rattle.segments.specs.Givings.{has_no_room}
use Rattle.ring_knowledge.specs.declared.ring_record.RingRecord.{RingRecord}
use Rattle.ring_knowledge.specs.RingRecords.{FollowsRing}
use Rattle.ownership_rules.specs.Refusal.{Test}
use Rattle.ownership_rules.specs.FirstBroken.{first_broken}
use Rattle.ownership_rules.specs.declared.refusal.Refusal.TheVariants.{RingFull, BadDescriptor, NotInProfile}

-- of the form of a descriptor, by a profile
abbrev pub form_tests : Profile → RingKind → List Block → List Test
form_tests profile kind blocks = (BadDescriptor, is_bad_descriptor profile kind blocks) ∷ (NotInProfile, is_left_out profile kind blocks) ∷ []

-- of a declaration on the ring
abbrev pub room_tests : Profile → Shape → RingView → List Block → List Test
room_tests profile shape v blocks = (RingFull, has_no_room shape v (length blocks)) ∷ form_tests profile shape.kind blocks

-- a declaration breaks no rule of the ring, and the record holds what is known after it
pub record IsDeclared (profile : Profile) (shape : Shape) (v : RingView) (blocks : List Block) (after : RingRecord) : Type 0 where
  pub clean : first_broken (room_tests profile shape v blocks) ≡ None
  pub followed : FollowsRing shape (changed shape v (Declares blocks)) after
