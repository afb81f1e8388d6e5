-- What a command that is given adds to what is held
use Rattle.std.specs.Prelude.{◌≡◌, ℕ, ◌+◌, ◌%◌, ◌^◌, ◌≤◌, Bool, false, List, ◌∷◌, ◌++◌, Option, None, Some, option_map}
use Rattle.std.specs.List.{list_any}
use Rattle.contexts.specs.declared.size.ContextSize.{ContextSize}
use Rattle.contexts.specs.Contexts.{device_context_bytes}
use Rattle.commands.specs.declared.command.Command.{Command}
use Rattle.commands.specs.declared.command.Command.TheVariants.{AddressDevice}
use Rattle.commands.specs.SideBySide.{exclude}
use Rattle.trace_record.specs.DeviceSlots.Indices.{NamesEndpoint}
use Rattle.traces.specs.declared.header.Header.{Header}
use Rattle.ring_knowledge.specs.Known.{Known}
use Rattle.ring_knowledge.specs.Writes.{entry_of}
use Rattle.ownership_rules.specs.Moves.{binds_ring}

-- the new list is the old one with x at some place
pub record IsInserted {X : Type 0} (x : X) (old new : List X) : Type 0 where
  pub front : List X
  pub back : List X
  pub was : old ≡ front ++ back
  pub is : new ≡ front ++ x ∷ back

-- or the same list, where there is no such element
abbrev pub IsWith : {X : Type 0} → Option X → List X → List X → Type 0
IsWith None old new = new ≡ old
IsWith (Some x) old new = IsInserted x old new

-- the command, if there is one, binds ring r
abbrev pub binds_ring_if : Header → Known → ℕ → Option Command → Bool
binds_ring_if h k r None = false
binds_ring_if h k r (Some c) = binds_ring h k r c

-- none of these commands excludes it by the words of some memory, and the endpoint that it names, if it names one, is one that a slot has
abbrev pub MayBeGiven : Option Command → List Command → Type 0
MayBeGiven None commands = Unit {0}
MayBeGiven (Some c) commands = NamesEndpoint c × ((memory : ℕ → ℕ) × (list_any (exclude memory c) commands ≡ false))

-- where a command takes a device context, the slot's entry in the DCBAA ends within the address space
abbrev pub EntryFits : Known → Option Command → Type 0
EntryFits k (Some (AddressDevice s bsr c)) = k.device s ≡ None → entry_of k s + 8 ≤ 2 ^ 64
EntryFits k _ = Unit {0}

-- the address of the device context that is taken
abbrev pub address_taken : Option (ℕ × ℕ) → Option ℕ
address_taken taken = option_map (λ e. e.1) taken

-- it lies on words, and ends within the address space
abbrev pub LiesOnWords : ContextSize → Option (ℕ × ℕ) → Type 0
LiesOnWords size None = Unit {0}
LiesOnWords size (Some e) = (e.1 % 4 ≡ 0) × (e.1 + device_context_bytes size ≤ 2 ^ 64)
