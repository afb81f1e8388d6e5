-- What moves or holds rings alone
use Rattle.trace_record.proofs.MiddleLaws.{arith, ℕ, Bool, Option, Spot, target, Header, shape_of, Known, on_ring, set_to, moved_to, moved, held_at_ceiling, DeviceRecord, FollowsDevices, follows_beside}

module _ (h : Header) (k : Known) (d : DeviceRecord) (f : FollowsDevices k d) where
  pub follows_held : (o : Option ℕ) → FollowsDevices (held_at_ceiling h k o) d
  unfolding held_at_ceiling on_ring
  follows_held o = grind (arith, follows_beside, held_at_ceiling)

  pub follows_set_to : (r : ℕ) (t : Spot) → FollowsDevices (set_to h k r t) d
  unfolding set_to on_ring
  follows_set_to r t = follows_beside k (set_to h k r t) d f

  pub follows_moved : (o : Option ℕ) (p : ℕ) (cycle : Bool) → FollowsDevices (moved h k o p cycle) d
  unfolding moved moved_to
  follows_moved o p cycle = grind (arith, follows_set_to, target, shape_of)
