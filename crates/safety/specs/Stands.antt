-- What the driver did stands in the world, and the events that it hasn't read lie in the event ring
use Rattle.std.specs.Prelude.{◌≡◌, ◌≢◌, ℕ, ◌+◌, ◌<◌, Bool, true, false, List, length, Some, slice_get}
use Rattle.trb.specs.declared.block.Block.{Block}
use Rattle.segments.specs.Places.{touches}
use Rattle.event_ring.specs.EventRing.{AreInOrder}
use Rattle.traces.specs.declared.header.Header.{Header}
use Rattle.traces.specs.declared.register.Register.{Register}
use Rattle.traces.specs.declared.register.Register.TheVariants.{Crcr}
use Rattle.traces.specs.Halts.{is_asked, is_done}
use Rattle.traces.specs.Header.{event_shape, event_size}
use Rattle.world_state.specs.World.{World, event_at}
use Rattle.ring_knowledge.specs.Known.{Known}

module _ (h : Header) where
  abbrev pub touches_events : ℕ → Bool
  touches_events a = touches (event_shape h) a 4

  -- an event changes none of these, so k may be what is known when all posted events are read
  pub record Stands (k : Known) (w : World) : Type 0 where
    pub started : w.started ≡ k.started
    pub stopped : w.stopped ≡ k.stopped
    pub halting : w.halting ≡ is_asked k.halt
    -- a controller that was seen to have halted has; one that has was told to
    pub halted : is_done k.halt ≡ true → w.halted ≡ true
    pub told : w.halted ≡ true → is_asked k.halt ≡ true
    -- (CRCR was read when it was written)
    pub registers : (r : Register) → r ≢ Crcr → w.register r ≡ k.register r
    pub queues : (r : ℕ) → w.queue r ≡ (k.ring r).queue
    pub lengths : (r : ℕ) → w.lengths r ≡ (k.ring r).lengths
    pub dequeue : w.dequeue ≡ k.dequeue
    -- a word that isn't soiled and belongs to no event is as the driver wrote it
    pub quiet : (a : ℕ) → k.soiled a ≡ false → touches_events a ≡ false → w.memory a ≡ k.memory a

  -- the unread events, the oldest first, stand at the event places from the next one to be read on
  pub record EventsStand (w : World) (unread : List Block) : Type 0 where
    pub order : AreInOrder (event_size h) (record { posted = w.posted; reads = w.reads; dequeue = w.dequeue })
    pub count : w.posted ≡ w.reads + length unread
    pub places : (i : ℕ) (e : Block) → slice_get unread i ≡ Some e → event_at h w (w.reads + i) ≡ e
    pub started : 0 < w.posted → w.started ≡ true
    pub ring : 0 < w.posted → 0 < event_size h
