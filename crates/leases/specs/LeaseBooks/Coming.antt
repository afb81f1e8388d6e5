-- How far a Transfer Event tells the controller to have come: xHCI 4.9.2, 4.10.2, 6.4.2.1
use Rattle.std.specs.Prelude.{ℕ, ◌+◌, ◌||◌, if◌then◌else◌}
use Rattle.trb.specs.CompletionCode.{is_halting, is_stopping, is_success, is_trb_error}
use Rattle.segments.specs.declared.spot.Spot.{Spot}
use Rattle.segments.specs.Spots.{number}

-- to which number its controller has come on a ring, on which it stood at another one, by how the code counts and the spot that it
-- names: it has finished the block there, or was stopped before it
unfoldable pub come_to : ℕ → Spot → ℕ → ℕ
come_to c t floor = if is_success c || is_halting c || is_trb_error c then number t + 1 else if is_stopping c then number t else floor
