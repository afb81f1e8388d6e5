-- The record and the memory hold what is known behind a write
use Rattle.driver_rows.proofs.Words.{rules, ◌≡◌, ℕ, List, Option, sym, subst, ◌&&◌, not, ◌==◌, Result, put, device_context_bytes, input_context_bytes, EventState, Header, Write, RingRecord, RegisterRecord, FollowsRing, FollowsRegisters, Known, unfinished, learned, with_device, with_word, written, FollowsRings, DeviceRecord, FollowsDevices, FollowsUnfinished, after_word, SoiledWords, HoldsAreas, HoldsSoiled, SameRegisters, write_leaves, taken, written_memory, written_ring, TraceRecord, FollowsTrace, FollowsEvents, HoldsBound, inputs_of, device_contexts}
use Rattle.std.specs.Result.{OnOk}

-- what three clauses of one call say together
pub from_three : {T E P Q R S : Type 0} (r : Result T E) → OnOk r P → OnOk r Q → OnOk r R → (P → Q → R → S) → OnOk r S
from_three r e f g j = search rules

module _ (h : Header) (k l : Known) (same : SameRegisters k l) where
  pub registers_still : (r : RegisterRecord) → FollowsRegisters k r → FollowsRegisters l r
  registers_still r f = search rules

  pub events_still : (o : Option EventState) → FollowsEvents h k o → FollowsEvents h l o
  events_still o e = search rules

module _ (h : Header) (k : Known) (a w : ℕ) where
  abbrev l : Known
  l = learned h k (Write a w)

  view_same : (q : ℕ) → (with_word h k a w).ring q ≡ l.ring q
  unfolding with_word
  view_same q = sym (written_ring h k a w q)

  rings_still : (records : List RingRecord) → FollowsRings h (with_word h k a w) records → FollowsRings h l records
  rings_still records f = record { as_many = f.as_many; each = λ i ring r there is driver. subst (λ v. FollowsRing ring.shape v r) (view_same ring.id) (f.each i ring r there is driver) }

  module _ (got : Option (ℕ × ℕ)) (is_taken : got ≡ taken h k a w) where
    pub devices_then : (before after : DeviceRecord) → ((h : Header) (k : Known) → FollowsDevices k before → FollowsDevices (with_device h k got) after) →
        FollowsDevices k before → FollowsDevices l after
    unfolding learned written
    devices_then before after takes f = subst (λ o. FollowsDevices (with_device h (with_word h k a w) o) after) is_taken (takes h (with_word h k a w) (after_word h k before f a w))

    pub soiled_then : (cleared after : SoiledWords) → (HoldsSoiled ((with_word h k a w).soiled) cleared → HoldsSoiled ((with_device h (with_word h k a w) got).soiled) after) →
        HoldsSoiled (λ x. k.soiled x && not (x == a)) cleared → HoldsSoiled l.soiled after
    unfolding learned written with_word
    soiled_then cleared after soils holds = subst (λ o. HoldsSoiled ((with_device h (with_word h k a w) o).soiled) after) is_taken (soils holds)

  pub followed : (t : TraceRecord) (memory : ℕ → ℕ) → FollowsTrace h k t memory → (after : TraceRecord) (now : ℕ → ℕ) →
      ((b : ℕ) → now b ≡ put memory a w b) →
      FollowsRings h (with_word h k a w) after.rings.items →
      after.registers ≡ t.registers → after.events ≡ t.events →
      FollowsDevices l after.devices → FollowsUnfinished (unfinished h l) after.commands → HoldsBound h l after.bound →
      HoldsAreas (input_context_bytes h.context_size) (inputs_of (unfinished h l)) after.inputs →
      HoldsAreas (device_context_bytes h.context_size) (device_contexts l) after.contexts →
      HoldsSoiled l.soiled after.soiled → FollowsTrace h l after now
  followed t memory f after now words rings registers events devices commands bound inputs contexts soiled = search (rules, written_memory, rings_still, registers_still, write_leaves, events_still)
