-- The rules of a command that is given: xHCI 4.5.3, 4.6, 6.2.5
use Rattle.std.specs.Prelude.{ℕ, ◌%◌, ◌==◌, ◌&&◌, ◌||◌, Bool, false, not, nat_lt, Option, Some, None, is_none}
use Rattle.std.specs.List.{list_any}
use Rattle.segments.specs.Places.{overlap}
use Rattle.commands.specs.declared.command.Command.{Command}
use Rattle.commands.specs.declared.command.Command.TheVariants.{AddressDevice, ConfigureEndpoint}
use Rattle.commands.specs.Command.{named_slot, named_endpoint, named_context, name_one_slot, exclude_by_slot}
use Rattle.commands.specs.SideBySide.{exclude}
use Rattle.commands.specs.States.{is_disabled, is_off}
use Rattle.contexts.specs.Contexts.{added_endpoints, input_add_flag, input_drop_flag, input_endpoint, endpoint_type, endpoint_streams, is_isochronous, device_context_bytes, input_context_bytes}
use Rattle.traces.specs.declared.header.Header.{Header}
use Rattle.traces.specs.declared.register.Register.TheVariants.{Dcbaap}
use Rattle.ring_knowledge.specs.Known.{Known}
use Rattle.ring_knowledge.specs.Rings.{unfinished}
use Rattle.ring_knowledge.specs.Writes.{entry_of, device_named}
use Rattle.ownership_rules.specs.Areas.{is_bad_area, is_in_range_lease, is_soiled}

unfoldable pub names_disabled_slot : Known → Option ℕ → Bool
names_disabled_slot k None = false
names_disabled_slot k (Some s) = is_disabled (k.slot_state s)

unfoldable pub names_disabled_endpoint : Known → Option (ℕ × ℕ) → Bool
names_disabled_endpoint k None = false
names_disabled_endpoint k (Some e) = e.1 == 0 || is_off (k.endpoint_state e.0 e.1)

module _ (h : Header) where
  unfoldable pub type_in : Known → ℕ → ℕ → ℕ
  type_in k c i = endpoint_type k.memory (input_endpoint h.context_size c i)

  unfoldable pub streams_in : Known → ℕ → ℕ → ℕ
  streams_in k c i = endpoint_streams k.memory (input_endpoint h.context_size c i)

  -- the input context breaks the area rule or has a soiled word
  unfoldable pub has_bad_context : Known → Option ℕ → Bool
  has_bad_context k None = false
  has_bad_context k (Some c) = is_bad_area h k c (input_context_bytes h.context_size) || is_soiled k c (input_context_bytes h.context_size)

  -- the DCBAA entry of a slot breaks the area rule or is soiled
  unfoldable pub has_bad_entry : Known → ℕ → Bool
  has_bad_entry k s = is_bad_area h k (entry_of k s) 8 || is_soiled k (entry_of k s) 8

  -- a new device context lies where none may lie; c is the command's input context
  unfoldable pub is_bad_device : Known → ℕ → ℕ → ℕ → Bool
  is_bad_device k s c d =
      d == 0 || not (d % 64 == 0) || is_bad_area h k d (device_context_bytes h.context_size)
      || is_in_range_lease h k d (device_context_bytes h.context_size)
      || overlap d (device_context_bytes h.context_size) (entry_of k s) 8
      || overlap d (device_context_bytes h.context_size) c (input_context_bytes h.context_size)

  -- a slot without a device context under lease gets one
  unfoldable pub takes_bad_device : Known → ℕ → ℕ → Bool
  takes_bad_device k s c = is_none (k.device s) && (is_none (k.register Dcbaap) || has_bad_entry k s || is_bad_device k s c (device_named k s))

  -- Configure Endpoint adds an endpoint without a type, or one that is enabled and not dropped
  unfoldable pub is_bad_added : Known → ℕ → ℕ → ℕ → Bool
  is_bad_added k s c i = type_in k c i == 0 || not (is_off (k.endpoint_state s i) || input_drop_flag k.memory c i)

  unfoldable pub has_bad_content : Known → Command → Bool
  has_bad_content k (AddressDevice s bsr c) =
      not (input_add_flag k.memory c 0 && input_add_flag k.memory c 1) || type_in k c 1 == 0 || takes_bad_device k s c
  has_bad_content k (ConfigureEndpoint s false c) = list_any (is_bad_added k s c) (added_endpoints k.memory c)
  has_bad_content k _ = false

  unfoldable pub is_bad_command : Known → Command → Bool
  is_bad_command k c =
      names_disabled_slot k (named_slot c) || names_disabled_endpoint k (named_endpoint c) || has_bad_context k (named_context c) || has_bad_content k c

  -- an unfinished command of its slot excludes it
  unfoldable pub is_busy : Known → Command → Bool
  is_busy k c = list_any (exclude k.memory c) (unfinished h k)

  -- its slot has an unfinished command, and not one of another endpoint beside one of an endpoint
  unfoldable pub is_busy_by_slot : Known → Command → Bool
  is_busy_by_slot k c = list_any (exclude_by_slot c) (unfinished h k)

  -- its slot has an unfinished command
  unfoldable pub shares_slot : Known → Command → Bool
  shares_slot k c = list_any (name_one_slot c) (unfinished h k)

  -- of an endpoint that is added, by its index in the input context, this holds
  abbrev pub some_added : Known → Command → (ℕ → ℕ → Bool) → Bool
  some_added k (AddressDevice s bsr c) test = test c 1
  some_added k (ConfigureEndpoint s false c) test = list_any (test c) (added_endpoints k.memory c)
  some_added k _ test = false

  -- an endpoint that is added has streams
  unfoldable pub adds_streams : Known → Command → Bool
  adds_streams k command = some_added k command (λ c i. nat_lt 0 (streams_in k c i))

  -- an endpoint that is added is isochronous
  unfoldable pub adds_isochronous : Known → Command → Bool
  adds_isochronous k command = some_added k command (λ c i. is_isochronous (type_in k c i))
