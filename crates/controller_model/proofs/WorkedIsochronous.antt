-- Replays in which an endpoint is used that may be isochronous, by evaluation
use Rattle.controller_model.proofs.LowerLaws.{ℕ, ◌*◌, ◌++◌, replicate, ◌≡◌, List, [], ◌∷◌, refl, Xfer, Header, Row, Sub, Write, Bell, Step, NextRow, Look, Report, Finish, model_on_literals, scene_ending, NoHarm, NotPossible, addressed_steps, three_rings, Version, Three, Four, Ending}
use Rattle.controller_model.proofs.WorkedReplays.{addressed}

abbrev four_rings : Version → Header
four_rings version = record (three_rings 4) {
  version = version;
  rings = (three_rings 4).rings ++ record { id = 3; shape = record { kind = Xfer; segments = record { base = 524288; count = 4 } ∷ []; offset = 0 } } ∷ [];
}

-- Configure Endpoint adds endpoint 3 with this type, and two Isoch TDs are given to it
abbrev rows : ℕ → List Row
rows ep_type =
    addressed
    (Write 393220 9
    ∷ Write 393348 (ep_type * 8)
    ∷ Write 393352 524289
    ∷ Sub 0 (record { w = 393216 ∷ 0 ∷ 0 ∷ 16789504 ∷ [] } ∷ [])
    ∷ Write 65568 393216
    ∷ Write 65580 16789505
    ∷ Bell 0 0
    ∷ Sub 3 (record { w = 0 ∷ 0 ∷ 0 ∷ 5152 ∷ [] } ∷ [])
    ∷ Write 524300 5153
    ∷ Sub 3 (record { w = 0 ∷ 0 ∷ 0 ∷ 5152 ∷ [] } ∷ [])
    ∷ Write 524316 5153
    ∷ Bell 1 3
    ∷ [])

-- an event with this code for endpoint 3, whose words name this address
abbrev told : ℕ → ℕ → Step
told code address = Report (record { w = address ∷ 0 ∷ code * 16777216 ∷ 17006593 ∷ [] })

-- the first TD is taken, 40 steps behind the first row, and these steps follow
abbrev steps : List Step → List Step
steps behind =
    addressed_steps
    (replicate 8 NextRow
    ++ (Look 0 ∷ Finish (record { w = 65568 ∷ 0 ∷ 16777216 ∷ 16811009 ∷ [] }) ∷ replicate 5 NextRow ++ (Look 3 ∷ behind)))

abbrev ends : Version → ℕ → List Step → Ending
ends version ep_type behind = scene_ending (four_rings version) (rows ep_type) (steps behind)

-- a Transaction Error reports the TD of an isochronous endpoint, which goes on
pub error_passes : ends Four 5 (told 4 524288 ∷ Look 3 ∷ told 1 524304 ∷ []) ≡ NoHarm
unfolding model_on_literals
error_passes = refl

pub error_is_reported_once : ends Four 5 (told 4 524288 ∷ told 4 524288 ∷ []) ≡ NotPossible 43
unfolding model_on_literals
error_is_reported_once = refl

-- Missed Service reports no TD, whatever address its words have
pub service_is_missed : ends Four 1 (told 23 524288 ∷ told 1 524288 ∷ told 14 0 ∷ Look 3 ∷ []) ≡ NoHarm
unfolding model_on_literals
service_is_missed = refl

-- no isochronous endpoint stalls
pub nothing_stalls : ends Four 5 (told 6 524288 ∷ []) ≡ NotPossible 42
unfolding model_on_literals
nothing_stalls = refl

-- a bulk endpoint halts, and an earlier version knows no isochronous one
pub bulk_halts : ends Four 6 (told 4 524288 ∷ Look 3 ∷ []) ≡ NotPossible 43
unfolding model_on_literals
bulk_halts = refl

pub earlier_halts : ends Three 5 (told 4 524288 ∷ Look 3 ∷ []) ≡ NotPossible 43
unfolding model_on_literals
earlier_halts = refl

pub earlier_has_no_service : ends Three 5 (told 23 524288 ∷ []) ≡ NotPossible 42
unfolding model_on_literals
earlier_has_no_service = refl
