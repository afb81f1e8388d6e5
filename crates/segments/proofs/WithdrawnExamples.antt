-- A descriptor of a small ring that is withdrawn, on numbers
use Rattle.segments.proofs.Words.{◌≡◌, ◌∷◌, ℕ, [], refl, true, false, put, Block, Xfer, Shape, shape_of, RingView, Some, Declares, Writes, Withdraws, Restores, changed, new_ring, leased_positions, no_op, is_not_restored, flips_passed, views_on_literals}

-- one segment of four blocks: three data places and a Link
abbrev small : Shape
small = shape_of Xfer ((0x1000, 4) ∷ [])

abbrev normal : ℕ → ℕ → Block
normal n control = record { w = n ∷ 0 ∷ 0 ∷ control ∷ [] }

-- a descriptor of two blocks was declared and given; the ring is held at 0
abbrev given : RingView
given = changed small (changed small (changed small new_ring (Declares (normal 7 0x410 ∷ normal 8 0x420 ∷ []))) (Writes 0x101c 0x421)) (Writes 0x100c 0x411)

abbrev without_it : RingView
without_it = changed small given (Withdraws 0)

-- it becomes two No Ops, each a descriptor of its own
no_ops_there : (without_it.queue ≡ no_op ∷ no_op ∷ []) × (without_it.lengths ≡ 1 ∷ 1 ∷ [])
unfolding views_on_literals
no_ops_there = (refl, refl)

-- inside a descriptor none is withdrawn
none_inside : ((changed small given (Withdraws 1)).queue ≡ given.queue) × ((changed small given (Withdraws 1)).lengths ≡ given.lengths)
unfolding views_on_literals
none_inside = (refl, refl)

-- its blocks are under lease until it is withdrawn, and again once they are restored
leases : (leased_positions small given ≡ 0 ∷ 1 ∷ []) × (leased_positions small without_it ≡ []) × (leased_positions small (changed small without_it Restores) ≡ 0 ∷ 1 ∷ [])
unfolding views_on_literals
leases = (refl, refl, refl)

-- memory with the two blocks as they were given, and with No Ops in their places
abbrev memory : ℕ → ℕ
memory = put (put (put (put (λ a. 0) 0x1000 7) 0x100c 0x411) 0x1010 8) 0x101c 0x421

abbrev restored : ℕ → ℕ
restored = put (put (put (put memory 0x1000 0) 0x100c 0x2001) 0x1010 0) 0x101c 0x2001

restoring : (is_not_restored small without_it memory ≡ true) × (is_not_restored small without_it restored ≡ false) × (is_not_restored small without_it (put restored 0x101c 0x2021) ≡ true)
unfolding views_on_literals
restoring = (refl, refl, refl)

-- of a ring that is held at 1 the controller may have passed position 0: its Cycle bit stays. That of position 1 is the driver's
abbrev held_behind : RingView
held_behind = record without_it { held = Some 1 }

flips : (flips_passed small held_behind 0x100c 0x2000 ≡ true) × (flips_passed small held_behind 0x100c 0x2001 ≡ false) × (flips_passed small held_behind 0x101c 0x2000 ≡ false)
unfolding views_on_literals
flips = (refl, refl, refl)
