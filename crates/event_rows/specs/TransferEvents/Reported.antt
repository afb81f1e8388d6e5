-- What a Transfer Event says of a spot of a ring
use Rattle.std.specs.Prelude.{◌≡◌, ℕ, ◌+◌, ◌<◌, ◌≤◌, ◌||◌, if◌then◌else◌, true, false, List, slice_set}
use Rattle.trb.specs.CompletionCode.{is_halting, is_success, is_trb_error}
use Rattle.segments.specs.declared.spot.Spot.{Spot}
use Rattle.segments.specs.ShapeValue.{Shape}
use Rattle.segments.specs.Spots.{after, number}
use Rattle.segments.specs.RingView.{RingView, Holds, Reaches, changed, declared, floor_number}
use Rattle.segments.specs.Ceiling.{given_count, is_stop_spot, stopped_number}
use Rattle.ring_knowledge.specs.declared.ring_record.RingRecord.{RingRecord}
use Rattle.ring_knowledge.specs.RingRecords.{FollowsRing}

-- a success passes the block, a failure holds the ring behind it, and a stop holds it at the spot
abbrev pub reported : Shape → RingView → ℕ → Spot → RingView
reported shape v c t =
    if is_success c then changed shape v (Reaches (after shape (number t)))
    else if is_halting c || is_trb_error c then changed shape (changed shape v (Reaches (after shape (number t)))) (Holds (number t + 1))
    else changed shape (changed shape v (Holds (stopped_number shape v t))) (Reaches t)

-- a spot of which a controller can have reported this
pub record MayReport (shape : Shape) (v : RingView) (c : ℕ) (t : Spot) : Type 0 where
  pub from : floor_number v ≤ number t
  pub given : (is_success c || (is_halting c || is_trb_error c)) ≡ true → number t < given_count shape v
  pub declared : (is_success c || (is_halting c || is_trb_error c)) ≡ true → number t < declared v
  pub stops : (is_success c || (is_halting c || is_trb_error c)) ≡ false → is_stop_spot shape v t ≡ true

-- one record is a new one, which holds what is known
pub record IsWithRecord (old new : List RingRecord) (n : ℕ) (shape : Shape) (v : RingView) : Type 0 where
  pub known : RingRecord
  pub items : new ≡ slice_set old n known
  pub follows : FollowsRing shape v known
