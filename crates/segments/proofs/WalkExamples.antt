-- What a controller reads of a small ring, on numbers
use Rattle.segments.proofs.Words.{◌≡◌, ◌∷◌, ℕ, [], map, refl, true, put, Block, Xfer, Data, Link, Shape, shape_of, RingView, Declares, Writes, changed, new_ring, given_count, is_border, looks, walk, data_of, laid_between, standing, views_on_literals}

-- two segments of two blocks: a data place and a Link each
abbrev small : Shape
small = shape_of Xfer ((0x1000, 2) ∷ (0x2000, 2) ∷ [])

abbrev normal : ℕ → Block
normal n = record { w = n ∷ 0 ∷ 0 ∷ 0x400 ∷ [] }

abbrev links_written : (ℕ → ℕ) → ℕ → ℕ
links_written memory = put (put (put (put memory 0x1010 0x2000) 0x2010 0x1000) 0x101c 0x1801) 0x201c 0x1803

-- one block was declared and given, and the Link behind it; the second Link shows cycle 1 too
abbrev memory : ℕ → ℕ
memory = put (put (links_written (λ a. 0)) 0x1000 7) 0x100c 0x401

abbrev view : RingView
view = changed small (changed small (changed small (changed small new_ring (Declares (normal 7 ∷ []))) (Writes 0x101c 0x1801)) (Writes 0x201c 0x1803)) (Writes 0x100c 0x401)

-- the block at position 0 and the Link behind it are read; at position 1 the controller waits
reads : (walk memory (standing small (Data 0)) 9 ≡ record { w = 7 ∷ 0 ∷ 0 ∷ 0x401 ∷ [] } ∷ record { w = 0x2000 ∷ 0 ∷ 0 ∷ 0x1801 ∷ [] } ∷ [])
    × (looks memory (standing small (Data 0)) 9 ≡ map (standing small) (Data 0 ∷ Link 1 ∷ Data 1 ∷ []))
unfolding views_on_literals
reads = (refl, refl)

as_declared : data_of (walk memory (standing small (Data 0)) 2) ≡ laid_between small view 0 1
unfolding views_on_literals
as_declared = refl

border : (given_count small view ≡ 1) × (is_border view.lengths 0 1 ≡ true)
unfolding views_on_literals
border = (refl, refl)

-- a Link that shows the other cycle isn't read
waits_at_link : walk (put memory 0x101c 0x1800) (standing small (Data 0)) 9 ≡ record { w = 7 ∷ 0 ∷ 0 ∷ 0x401 ∷ [] } ∷ []
unfolding views_on_literals
waits_at_link = refl

-- a Link with Toggle Cycle in the middle of the ring lets the controller read on with the other cycle
toggles_early : looks (put memory 0x101c 0x1803) (standing small (Data 0)) 3 ≡ standing small (Data 0) ∷ standing small (Link 1) ∷ record { address = 0x2000; cycle_state = 0 } ∷ []
unfolding views_on_literals
toggles_early = refl
