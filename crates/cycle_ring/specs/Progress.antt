-- How far a producer is on its ring, and when blocks may follow
use Rattle.std.specs.Prelude.{◌≡◌, ℕ, ◌+◌, ◌-◌, ◌^◌, ◌&&◌, Bool, true, Some, None, List, length, codes, nat_lt, nat_le}
use Rattle.trb.specs.declared.block.Block.{Block}
use Rattle.trb.specs.Descriptor.{fault_of}
use Rattle.segments.specs.ShapeValue.{Shape}
use Rattle.segments.specs.Places.{place_count}
use Rattle.trb.specs.declared.fault.Fault.{Fault}
use Rattle.trb.specs.declared.fault.Fault.TheVariants.{BadDescriptor as NoDescriptor, NotInProfile as LeftOut}
use Rattle.cycle_ring.specs.declared.fault.EnqueueFault.{EnqueueFault}
use Rattle.cycle_ring.specs.declared.fault.EnqueueFault.TheVariants.{RingFull, BadDescriptor, NotInProfile, Memory}

-- the ring, how many blocks are enqueued on it, and how many of these are retired
pub record Progress : Type 0 where
  pub shape : Shape
  pub enqueued : ℕ
  pub retired : ℕ

-- with n more blocks a data place stays free of blocks that are not retired, and the count stays below 2^64
abbrev pub has_room : Progress → ℕ → Bool
has_room p n = nat_le (p.enqueued + n - p.retired) (place_count p.shape - 1) && nat_lt (p.enqueued + n) (2 ^ 64)

-- there is room for the blocks, and this is what is wrong with them as a descriptor
abbrev pub HasFault : Progress → List Block → Fault → Type 0
HasFault p blocks fault = (has_room p (length blocks) ≡ true) × (fault_of p.shape.kind blocks ≡ Some fault)

-- there is room for the blocks, and they are a descriptor of the ring
abbrev pub IsAllowed : Progress → List Block → Type 0
IsAllowed p blocks = (has_room p (length blocks) ≡ true) × (fault_of p.shape.kind blocks ≡ None)

-- blocks up to this count may be retired: none that are retired already, and none that are not enqueued
abbrev pub is_given_count : Progress → ℕ → Bool
is_given_count p count = nat_le p.retired count && nat_le count p.enqueued

abbrev pub enqueue_fault_number : EnqueueFault → ℕ
enqueue_fault_number RingFull = 15
enqueue_fault_number BadDescriptor = 16
enqueue_fault_number NotInProfile = 23
enqueue_fault_number Memory = 30

-- the name that is printed
abbrev pub enqueue_fault_name : EnqueueFault → List ℕ
enqueue_fault_name RingFull = codes "RingFull"
enqueue_fault_name BadDescriptor = codes "BadDescriptor"
enqueue_fault_name NotInProfile = codes "NotInProfile"
enqueue_fault_name Memory = codes "Memory"

-- what is wrong with the blocks as a descriptor
abbrev pub of_descriptor : Fault → EnqueueFault
of_descriptor NoDescriptor = BadDescriptor
of_descriptor LeftOut = NotInProfile
