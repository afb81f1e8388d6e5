-- When the driver may read an event
use Rattle.world_state.proofs.Words.{cond-true, Block, ◌≡◌, ◌+◌, ◌<◌, ◌&&◌, true, Some, None, nat_lt, lt-ltb, Header, same_words, event_read, World, event_at}

module _ (h : Header) (w : World) (e : Block) where
  pub read_made : w.reads < w.posted → same_words (event_at h w w.reads) e ≡ true → event_read h w e ≡ Some (record w { reads = w.reads + 1 })
  unfolding event_read
  read_made some same = cond-true (nat_lt w.reads w.posted && same_words (event_at h w w.reads) e) _ None (λ i. lt-ltb w.reads w.posted some i && same i)
