-- What commands say of the rings of endpoints: xHCI 4.6.5, 4.6.6, 6.2.3
use Rattle.std.specs.Prelude.{◌≡◌, ℕ, ◌+◌, ◌%◌, ◌^◌, ◌<◌, ◌≤◌, ◌==◌, ◌&&◌, if◌then◌else◌, false, Option, Some, None, nat_le}
use Rattle.contexts.specs.declared.size.ContextSize.{ContextSize}
use Rattle.contexts.specs.Contexts.{context_cycle, context_pointer, has_flag, input_add_flag, input_context_bytes}
use Rattle.commands.specs.declared.command.Command.{Command}
use Rattle.commands.specs.declared.command.Command.TheVariants.{AddressDevice, ConfigureEndpoint}
use Rattle.commands.specs.States.{is_off}
use Rattle.traces.specs.declared.header.Header.{Header}
use Rattle.ring_knowledge.specs.Known.{Known}
use Rattle.trace_record.specs.DeviceSlots.Devices.{FollowsDevices}
use Rattle.trace_record.specs.declared.device_record.kept.DeviceRecord.{DeviceRecord}
use Rattle.driver_rows.specs.declared.bindings.context.Bound.{Bound}
use Rattle.driver_rows.specs.declared.bindings.context.Dequeue.{Dequeue}

-- what the context of index i in the input context at address a says of the endpoint's ring
abbrev pub dequeue_in : ContextSize → (ℕ → ℕ) → ℕ → ℕ → Dequeue
dequeue_in size memory a i = record { pointer = context_pointer size memory a i; cycle = context_cycle size memory a i }

-- what the command says of the ring of the endpoint of index i, where it adds it
abbrev pub dequeue_at : Header → Known → Command → ℕ → Option Dequeue
dequeue_at h k (AddressDevice s bsr c) i = if i == 1 && is_off (k.endpoint_state s 1) then Some (dequeue_in h.context_size k.memory c 1) else None
dequeue_at h k (ConfigureEndpoint s false c) i = if nat_le 2 i && input_add_flag k.memory c i then Some (dequeue_in h.context_size k.memory c i) else None
dequeue_at h k _ i = None

-- the command binds the endpoints whose indices have a flag, and no others, to what the input context says, which lies on words and
-- ends within the address space
pub record HasBound (h : Header) (k : Known) (c : Command) (b : Bound) : Type 0 where
  pub said : (i : ℕ) → i < 32 → dequeue_at h k c i ≡ (if has_flag b.flags i then Some (dequeue_in h.context_size k.memory b.context i) else None)
  pub aligned : b.context % 4 ≡ 0
  pub inside : b.context + input_context_bytes h.context_size ≤ 2 ^ 64

-- the record and the memory hold what is known of slots, endpoints and contexts
pub record HoldsContexts (k : Known) (devices : DeviceRecord) (memory : ℕ → ℕ) : Type 0 where
  pub followed : FollowsDevices k devices
  pub words : (a : ℕ) → k.memory a ≡ memory a
