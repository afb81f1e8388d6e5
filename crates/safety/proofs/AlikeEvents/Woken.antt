-- Two knowledges of which one is the other behind a doorbell of a ring that was held: the ring is open, the endpoints that have it run
use Rattle.safety.proofs.LowerLaws.{◌≡◌, ◌≢◌, ℕ, Bool, true, false, rules, false≢true, put_pair, Spot, RingChange, Reaches, Opens, changed, EndpointState, Running, Header, shape_of, Known, on_ring, at_pair}
use Rattle.safety.proofs.RingsKeep.DriverRows.{ring_here, ring_elsewhere}

-- r is the ring, S says which endpoints are woken with it
pub record Woken (h : Header) (r : ℕ) (S : ℕ → ℕ → Bool) (k l : Known) : Type 0 where
  pub own : l.ring r ≡ changed (shape_of h r) (k.ring r) Opens
  pub rings : (q : ℕ) → q ≢ r → l.ring q ≡ k.ring q
  pub awake : (s i : ℕ) → S s i ≡ true → l.endpoint_state s i ≡ Running
  pub state : (s i : ℕ) → S s i ≡ false → l.endpoint_state s i ≡ k.endpoint_state s i
  pub was_bound : l.was_bound ≡ k.was_bound
  pub slot_state : l.slot_state ≡ k.slot_state
  pub ring_of : l.ring_of ≡ k.ring_of
  pub isochronous : l.isochronous ≡ k.isochronous
  pub must_move : l.must_move ≡ k.must_move
  pub stop_seen : l.stop_seen ≡ k.stop_seen
  pub device : l.device ≡ k.device

module _ (h : Header) (r : ℕ) (S : ℕ → ℕ → Bool) where
  -- the pointers are the same
  pub woken_floor : (k l : Known) → Woken h r S k l → (q : ℕ) → (l.ring q).floor ≡ (k.ring q).floor
  woken_floor k l w q = search rules

  pub woken_reach : (k l : Known) → Woken h r S k l → (q : ℕ) (t : Spot) → Woken h r S (on_ring h k q (Reaches t)) (on_ring h l q (Reaches t))
  unfolding on_ring
  woken_reach k l w q t = search (rules, ring_here, ring_elsewhere)

  pub woken_elsewhere : (k l : Known) → Woken h r S k l → (q : ℕ) (c : RingChange) → q ≢ r → Woken h r S (on_ring h k q c) (on_ring h l q c)
  unfolding on_ring
  woken_elsewhere k l w q c other = search (rules, ring_here, ring_elsewhere)

  -- ---- the tables of endpoints

  pub woken_state : (k l : Known) (s i : ℕ) (e : EndpointState) → S s i ≡ false → Woken h r S k l →
      Woken h r S (let x : Known = record k { endpoint_state = put_pair k.endpoint_state s i e } in x) (let x : Known = record l { endpoint_state = put_pair l.endpoint_state s i e } in x)
  woken_state k l s i e apart w = search (rules, at_pair, false≢true)

  pub woken_move : (k l : Known) (s i : ℕ) (must : Bool) → Woken h r S k l →
      Woken h r S (let x : Known = record k { must_move = put_pair k.must_move s i must } in x) (let x : Known = record l { must_move = put_pair l.must_move s i must } in x)
  woken_move k l s i must w = search rules

  pub woken_seen : (k l : Known) (s i : ℕ) (seen : Bool) → Woken h r S k l →
      Woken h r S (let x : Known = record k { stop_seen = put_pair k.stop_seen s i seen } in x) (let x : Known = record l { stop_seen = put_pair l.stop_seen s i seen } in x)
  woken_seen k l s i seen w = search rules
