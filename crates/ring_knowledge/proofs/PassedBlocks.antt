-- The spots that events and completions let a record reach
use Rattle.ring_knowledge.proofs.UpperLaws.{◌≡◌, ◌<◌, ℕ, true, refl, Spot, Data, Link, Shape, after, RingView, Holds, changed, given_count, is_way_given, is_reached, are_given, are_ways_given, after_is, RingRecord, FollowsRing, rules, count_is}
use Rattle.ring_knowledge.proofs.StopSpots.{reached_block, reached_link, way_without}

-- the spot behind a block that is given with all before it
pub behind_reached : (shape : Shape) (v : RingView) (r : RingRecord) → FollowsRing shape v r → (p : ℕ) → p < given_count shape v → is_reached shape v (after shape p) ≡ true
behind_reached shape v r known p given = search (rules, count_is, after_is, reached_link, reached_block, way_without)

-- to hold the ring leaves what is reached
pub held_reached : (shape : Shape) (v : RingView) (n : ℕ) (t : Spot) → is_reached shape (changed shape v (Holds n)) t ≡ is_reached shape v t
unfolding is_reached are_given are_ways_given is_way_given
held_reached shape v n (Data q) = refl
held_reached shape v n (Link q) = refl
