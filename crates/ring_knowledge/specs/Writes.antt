-- What a write of memory adds to what is known
use Rattle.std.specs.Prelude.{ℕ, ◌==◌, ◌&&◌, ◌||◌, not, Option, Some, None, option_and_then, slice_get}
use Rattle.guest_memory.specs.Memory.{put}
use Rattle.segments.specs.Places.{is_in}
use Rattle.segments.specs.RingView.{Writes, changed, positions_given}
use Rattle.commands.specs.declared.command.Command.{Command}
use Rattle.commands.specs.declared.command.Command.TheVariants.{AddressDevice}
use Rattle.contexts.specs.Contexts.{slot_entry, device_context, device_context_bytes}
use Rattle.traces.specs.declared.header.Header.{Header}
use Rattle.traces.specs.declared.register.Register.TheVariants.{Dcbaap}
use Rattle.traces.specs.Header.{shape_of, command_id}
use Rattle.traces.specs.Register.{register_or_zero}
use Rattle.ring_knowledge.specs.Known.{Known}
use Rattle.ring_knowledge.specs.Rings as rings

-- the entry of a slot in the array that DCBAAP names, and the device context that it names
unfoldable pub entry_of : Known → ℕ → ℕ
entry_of k s = slot_entry (register_or_zero k.register Dcbaap) s

unfoldable pub device_named : Known → ℕ → ℕ
device_named k s = device_context k.memory (register_or_zero k.register Dcbaap) s

unfoldable pub no_device : Option ℕ → ℕ → ℕ → Option (ℕ × ℕ)
no_device None s d = Some (s, d)
no_device (Some e) s d = None

-- an Address Device for a slot without a device context under lease takes one: the slot, and the context's address
unfoldable pub taken_device : Known → Command → Option (ℕ × ℕ)
taken_device k (AddressDevice s bsr c) = no_device (k.device s) s (device_named k s)
taken_device k _ = None

module _ (h : Header) where
  -- the command that the write gives, if it gives one
  unfoldable pub command_given : Known → ℕ → ℕ → Option Command
  command_given k a w =
      option_and_then (rings.command_at h k) (slice_get (positions_given (shape_of h (command_id h)) (k.ring (command_id h)) a w) 0)

  -- a device context comes under lease: from now on the controller may change its words
  unfoldable pub with_device : Known → Option (ℕ × ℕ) → Known
  with_device k None = k
  with_device k (Some e) = record k {
    device = put k.device e.0 (Some e.1);
    soiled = λ x. is_in x e.1 (device_context_bytes h.context_size) || k.soiled x;
  }

  -- the word is written, and what the write gives is given
  unfoldable pub with_word : Known → ℕ → ℕ → Known
  with_word k a word = record k {
    memory = put k.memory a word;
    ring = λ r. changed (shape_of h r) (k.ring r) (Writes a word);
    soiled = λ x. k.soiled x && not (x == a);
  }

  unfoldable pub written : Known → ℕ → ℕ → Known
  written k a word = with_device (with_word k a word) (option_and_then (taken_device k) (command_given k a word))
