-- What a producer's words mean by the rules of its ring: xHCI 4.9.2, 4.11.5.1
use Rattle.std.specs.Prelude.{◌≡◌, ℕ, ◌+◌, ◌≤◌, ◌&&◌, nat_lt, false, List, [], ◌∷◌, length, fold, All, Some}
use Rattle.guest_memory.specs.Memory.{put}
use Rattle.trb.specs.declared.block.Block.{Block}
use Rattle.segments.specs.ShapeValue.{Shape}
use Rattle.segments.specs.Places.{is_crossing}
use Rattle.segments.specs.declared.spot.Spot.{Spot}
use Rattle.segments.specs.Spots.{number}
use Rattle.segments.specs.RingView.{RingView, Declares, Writes, Reaches, changed, declared, floor_number, new_ring, crossings_given}
use Rattle.segments.specs.Givings.{interrupts}
use Rattle.segments.specs.RingKeeps.{RingKeeps, IsRestored, MayDeclare, MayWrite, MayReach}
use Rattle.cycle_ring.specs.Progress.{Progress}
use Rattle.cycle_ring.specs.Played.{played}

-- what is enqueued, and nothing else, is declared and given, with the Links on the way; nothing of it is free; and the controller has
-- surely passed all that is retired
pub record IsEnqueuedSo (p : Progress) (v : RingView) : Type 0 where
  pub declared : declared v ≡ p.enqueued
  pub given : (n : ℕ) → v.given n ≡ nat_lt n p.enqueued
  pub crossed : (q : ℕ) → v.crossed q ≡ (is_crossing p.shape q && nat_lt q p.enqueued)
  pub restored : IsRestored v
  pub passed : p.retired ≤ floor_number v

-- what is known of the ring after these writes, the first one first
abbrev pub viewed : Shape → RingView → List (ℕ × ℕ) → RingView
viewed shape v writes = fold (λ u write. changed shape u (Writes write.0 write.1)) v writes

-- each of these writes keeps the rules, with memory and with what is known of the ring at its moment
abbrev pub AllMayWrite : Shape → (ℕ → ℕ) → RingView → List (ℕ × ℕ) → Type 0
AllMayWrite shape memory v [] = Unit {0}
AllMayWrite shape memory v (write ∷ rest) =
    MayWrite shape memory v write.0 write.1 × AllMayWrite shape (put memory write.0 write.1) (changed shape v (Writes write.0 write.1)) rest

-- no Link that one of them gives interrupts on completion
abbrev pub AllWithoutInterrupt : Shape → (ℕ → ℕ) → RingView → List (ℕ × ℕ) → Type 0
AllWithoutInterrupt shape memory v [] = Unit {0}
AllWithoutInterrupt shape memory v (write ∷ rest) =
    All (λ q. interrupts shape memory write.0 write.1 q ≡ false) (crossings_given shape v write.0 write.1)
    × AllWithoutInterrupt shape (put memory write.0 write.1) (changed shape v (Writes write.0 write.1)) rest

-- where the ring is as the producer has it, these blocks may be declared next
abbrev pub MayBeDeclared : Progress → List Block → Type 0
MayBeDeclared p blocks = (v : RingView) → IsEnqueuedSo p v → MayDeclare p.shape v blocks

-- once the blocks are declared each of the writes keeps the rules, and behind them the ring is as the producer has it then
pub record KeepsTheRing (p : Progress) (blocks : List Block) (writes : List (ℕ × ℕ)) (memory : ℕ → ℕ) (v : RingView) : Type 0 where
  pub may_write : AllMayWrite p.shape memory (changed p.shape v (Declares blocks)) writes
  pub without_interrupt : AllWithoutInterrupt p.shape memory (changed p.shape v (Declares blocks)) writes
  pub keeps : RingKeeps p.shape (played memory writes) (viewed p.shape (changed p.shape v (Declares blocks)) writes)
  pub enqueued : IsEnqueuedSo (record p { enqueued = p.enqueued + length blocks }) (viewed p.shape (changed p.shape v (Declares blocks)) writes)

-- where the ring is as the producer has it and its rules are kept, these writes keep them
abbrev pub KeepTheRing : Progress → List Block → List (ℕ × ℕ) → Type 0
KeepTheRing p blocks writes = (memory : ℕ → ℕ) (v : RingView) → RingKeeps p.shape memory v → IsEnqueuedSo p v → KeepsTheRing p blocks writes memory v

-- before anything happens the ring is as the producer has it, and with blank memory its rules are kept, since it hasn't grown then
pub record BeginsWithTheRing (p : Progress) : Type 0 where
  pub enqueued : IsEnqueuedSo p new_ring
  pub keeps : p.shape.offset ≡ 0 → (memory : ℕ → ℕ) → ((a : ℕ) → memory a ≡ 0) → RingKeeps p.shape memory new_ring

-- the controller's pointer is known to have come to this spot, with the first count blocks behind it: all before the spot is given, the
-- pointer doesn't go back, and a ring that is held is held no lower
pub record MayPass (shape : Shape) (v : RingView) (count : ℕ) (t : Spot) : Type 0 where
  pub reach : MayReach shape v t
  pub past : count ≤ number t
  pub within : (m : ℕ) → v.held ≡ Some m → number t ≤ m

-- what stands once the first count blocks are retired
pub record FollowsPassed (old : Progress) (count : ℕ) (new : Progress) : Type 0 where
  -- where the ring is as the producer had it, and its controller has surely passed them, it is as the producer has it now
  pub stands : (v : RingView) → IsEnqueuedSo old v → count ≤ floor_number v → IsEnqueuedSo new v
  -- where an event tells that the controller has passed them, that is so behind the event, and the rules of the ring stay kept
  pub reached : (memory : ℕ → ℕ) (v : RingView) (t : Spot) → RingKeeps old.shape memory v → IsEnqueuedSo old v → MayPass old.shape v count t
      → RingKeeps new.shape memory (changed old.shape v (Reaches t)) × IsEnqueuedSo new (changed old.shape v (Reaches t))
