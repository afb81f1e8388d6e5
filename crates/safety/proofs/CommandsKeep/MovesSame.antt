-- A ring on which nothing more is declared or given may be moved where it could be before
use Rattle.safety.proofs.Words.{◌≡◌, ℕ, length, Some, option_and_then, slice_get, rules, Shape, RingView, declared, floor_number, ceiling, is_border, move_more, ceiling_held, Command, Header, command_id, Known, command_at, IsUnfinished}
use Rattle.safety.proofs.CommandsKeep.CommandsStay.{Standing, MovesAhead}
use Rattle.safety.proofs.Rows.SameDriver.{SameGiven}

module _ (shape : Shape) (v w : RingView) (same : SameGiven v w) where
  -- the floor is where it was
  pub standing_same : floor_number w ≡ floor_number v → Standing shape v w
  standing_same floor = search (rules, move_more, is_border)

  -- the ring is held where it was
  pub ahead_held : (m : ℕ) → v.held ≡ Some m → w.held ≡ Some m → MovesAhead shape v w
  ahead_held m at still p cycle moves = search (rules, move_more, is_border, ceiling, declared, ceiling_held, length)

module _ (h : Header) (k l : Known) where
  -- the same commands are unfinished where the command ring shows the same of them
  pub unfinished_view : let v : RingView = k.ring (command_id h) in let w : RingView = l.ring (command_id h) in
      SameGiven v w → w.floor ≡ v.floor → (p : ℕ) (c : Command) → IsUnfinished h l p c → IsUnfinished h k p c
  unfolding command_at
  unfinished_view same floor p c u = search (rules, option_and_then, slice_get)
