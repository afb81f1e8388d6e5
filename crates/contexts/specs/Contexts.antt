-- Contexts as words of memory: xHCI 6.1 (DCBAA), 6.2.1, 6.2.3, 6.2.5
use Rattle.std.specs.Prelude.{ℕ, ◌+◌, ◌*◌, ◌/◌, ◌%◌, ◌^◌, ◌==◌, ◌&&◌, Bool, List, nat_le, nat_lt, filter}
use Rattle.std.specs.List.{range_with_len}
use Rattle.guest_memory.specs.Memory.{long_at}
use Rattle.contexts.specs.declared.size.ContextSize.{ContextSize}
use Rattle.contexts.specs.declared.size.ContextSize.TheVariants.{Bytes32, Bytes64}

abbrev pub bytes_of : ContextSize → ℕ
bytes_of Bytes32 = 32
bytes_of Bytes64 = 64

-- a device context: the slot's and those of 31 endpoints
abbrev pub device_context_bytes : ContextSize → ℕ
device_context_bytes size = 32 * bytes_of size

-- an input context has an input control context before these
abbrev pub input_context_bytes : ContextSize → ℕ
input_context_bytes size = 33 * bytes_of size

-- the entry of a slot in the Device Context Base Address Array: the address of its device context
abbrev pub slot_entry : ℕ → ℕ → ℕ
slot_entry dcbaap s = dcbaap / 64 * 64 + 8 * s

abbrev pub device_context : (ℕ → ℕ) → ℕ → ℕ → ℕ
device_context memory dcbaap s = long_at memory (slot_entry dcbaap s)

-- bit i of a word
abbrev pub has_flag : ℕ → ℕ → Bool
has_flag word i = word / 2 ^ i % 2 == 1

-- Drop Context flag i of the input context at address a: bit i of word 0
abbrev pub input_drop_flag : (ℕ → ℕ) → ℕ → ℕ → Bool
input_drop_flag memory a i = has_flag (memory a) i

-- Add Context flag i: bit i of word 1
abbrev pub input_add_flag : (ℕ → ℕ) → ℕ → ℕ → Bool
input_add_flag memory a i = has_flag (memory (a + 4)) i

-- the endpoints above the default control endpoint that an input context drops, and those that it adds, in order
abbrev pub is_dropped : (ℕ → ℕ) → ℕ → ℕ → Bool
is_dropped memory a i = nat_le 2 i && input_drop_flag memory a i

unfoldable pub added_endpoints : (ℕ → ℕ) → ℕ → List ℕ
added_endpoints memory a = filter (input_add_flag memory a) (range_with_len 2 30)

-- the endpoint context of index i (its DCI) in the input context at address a
abbrev pub input_endpoint : ContextSize → ℕ → ℕ → ℕ
input_endpoint size a i = a + (i + 1) * bytes_of size

-- MaxPStreams, word 0 bits 14:10 of the endpoint context at e
abbrev pub endpoint_streams : (ℕ → ℕ) → ℕ → ℕ
endpoint_streams memory e = memory e / 2 ^ 10 % 2 ^ 5

-- EP Type, word 1 bits 5:3
abbrev pub endpoint_type : (ℕ → ℕ) → ℕ → ℕ
endpoint_type memory e = memory (e + 4) / 2 ^ 3 % 2 ^ 3

-- Dequeue Cycle State (DCS), word 2 bit 0
abbrev pub endpoint_cycle : (ℕ → ℕ) → ℕ → Bool
endpoint_cycle memory e = has_flag (memory (e + 8)) 0

-- TR Dequeue Pointer, word 2 bits 31:4 and word 3
abbrev pub endpoint_pointer : (ℕ → ℕ) → ℕ → ℕ
endpoint_pointer memory e = long_at memory (e + 8) / 16 * 16

-- EP Type 1 and 5 are isochronous
abbrev pub is_isochronous : ℕ → Bool
is_isochronous t = t % 4 == 1

-- what the context of index i in the input context at address a says of the endpoint's ring
abbrev pub context_pointer : ContextSize → (ℕ → ℕ) → ℕ → ℕ → ℕ
context_pointer size memory a i = endpoint_pointer memory (input_endpoint size a i)

abbrev pub context_cycle : ContextSize → (ℕ → ℕ) → ℕ → ℕ → Bool
context_cycle size memory a i = endpoint_cycle memory (input_endpoint size a i)

-- it says that the endpoint is isochronous; a context has 31 endpoints, of which the first is the default control endpoint
abbrev pub has_isochronous : ContextSize → (ℕ → ℕ) → ℕ → ℕ → Bool
has_isochronous size memory a i = nat_lt i 32 && (nat_le 2 i && is_isochronous (endpoint_type memory (input_endpoint size a i)))
