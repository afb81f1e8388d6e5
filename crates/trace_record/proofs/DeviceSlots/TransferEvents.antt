-- A Transfer Event is read
use Rattle.trace_record.proofs.MiddleLaws.{rules, ◌≡◌, ℕ, put_pair, Spot, Header, Known, on_ring, passed, broken_off, stopped_at, transferred, Endpoint, DeviceRecord, transferred_endpoint, FollowsDevices, IsWithEndpoint, endpoint_at, follows_beside, follows_still, follows_state, follows_halt, follows_stop_seen}

module _ (h : Header) (k : Known) (s i : ℕ) (old new : DeviceRecord) (f : FollowsDevices k old) (x : Endpoint) (w : IsWithEndpoint old new s i x) (r : ℕ) (t : Spot) where
  pub follows_transferred : (code : ℕ) → x ≡ transferred_endpoint code (endpoint_at old.endpoints.items s i) → FollowsDevices (transferred h k code s i r t) new
  unfolding transferred passed broken_off stopped_at on_ring
  follows_transferred code is = search (rules, follows_beside, passed, follows_still, put_pair, broken_off, follows_halt, follows_state, stopped_at, follows_stop_seen)
