-- What contracts see of a goal: a ring and a spot on it
use Rattle.ring_knowledge.specs.Rings.{RingSpot}
use Rattle.replayer.specs.declared.lazy_steps.goal.Goal.{Goal}

-- the spot to which the controller has to come
abbrev pub place_of : Goal → RingSpot
place_of goal = record { ring = goal.ring; spot = goal.spot }
