-- Replays beside rows of rings, by evaluation
use Rattle.controller_model.proofs.Words.{◌≡◌, ◌++◌, ◌∷◌, [], List, Some, option_map, replicate, refl, Cmd, Bytes32, Header, Crcr, Usbcmd, Bell, Reg, Sub, Look, NextRow, Row, FreeRow, NopRow, Two, LooksOutside, model_on_literals, scene_reached, scene_replayed, NoHarm, Harmful}

abbrev pub one_ring : Header
one_ring = record { version = Two; context_size = Bytes32; rings = record { id = 0; shape = record { kind = Cmd; segments = record { base = 65600; count = 3 } ∷ []; offset = 0 } } ∷ [] }

abbrev pub begun : List Row
begun = (Reg Crcr 65601) ∷ (Reg Usbcmd 1) ∷ (Bell 0 0) ∷ []

-- a look at a ring that is there is no harm, and one at a ring that is gone is outside of all that there is
pub looks_at_a_ring : (scene_replayed one_ring begun (replicate 3 NextRow ++ Look 0 ∷ [])).ending ≡ NoHarm
unfolding model_on_literals
looks_at_a_ring = refl

pub looks_at_a_ring_that_is_gone : (scene_replayed one_ring (begun ++ FreeRow 0 ∷ []) (replicate 4 NextRow ++ Look 0 ∷ [])).ending ≡ Harmful 5 LooksOutside
unfolding model_on_literals
looks_at_a_ring_that_is_gone = refl

-- a descriptor that is withdrawn becomes as many as it has blocks
pub withdraws_two_blocks :
    option_map (λ x. x.world.lengths 0)
    (scene_reached one_ring ((Sub 0 (record { w = 0 ∷ 0 ∷ 0 ∷ 9216 ∷ [] } ∷ record { w = 0 ∷ 0 ∷ 0 ∷ 9216 ∷ [] } ∷ [])) ∷ NopRow 0 0 ∷ []) (replicate 2 NextRow))
    ≡ Some (1 ∷ 1 ∷ [])
unfolding model_on_literals
withdraws_two_blocks = refl
