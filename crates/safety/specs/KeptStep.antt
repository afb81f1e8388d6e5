-- Parts of what a driver keeps, and one row more of a clean history for such a part
use Rattle.std.specs.Prelude.{◌≡◌, ℕ, false, [], Some}
use Rattle.commands.specs.declared.command.Command.{Command}
use Rattle.traces.specs.declared.header.Header.{Header}
use Rattle.traces.specs.declared.row.Row.{Row}
use Rattle.traces.specs.AllowedHeaders.{IsHeader}
use Rattle.ring_knowledge.specs.Known.{Known}
use Rattle.ring_knowledge.specs.Learned.{learned}
use Rattle.ownership_rules.specs.LenientRules.{lenient}
use Rattle.safety.specs.Restoring.{MayCome}
use Rattle.safety.specs.Keeps.{DeviceKeeps, IsUnfinished, CommandKeeps, DriverKeeps}

module _ (h : Header) where
  -- of each device context under lease, and of each unfinished command
  abbrev pub DevicesKeep : Known → Type 0
  DevicesKeep k = (s d : ℕ) → k.device s ≡ Some d → DeviceKeeps h k s d

  abbrev pub CommandsKeep : Known → Type 0
  CommandsKeep k = (p : ℕ) (c : Command) → IsUnfinished h k p c → CommandKeeps h k p c

  -- behind any row that breaks no rule, so long as the controller isn't stopped
  abbrev pub KeptByRows : (Known → Type 0) → Type 0
  KeptByRows Part =
      IsHeader h → (k : Known) (row : Row) → DriverKeeps h k → lenient h k row ≡ [] → (learned h k row).stopped ≡ false → Part (learned h k row)

  -- and restores what it has to
  abbrev pub KeptByRestoring : (Known → Type 0) → Type 0
  KeptByRestoring Part =
      IsHeader h → (k : Known) (row : Row) → DriverKeeps h k → MayCome h k row → (learned h k row).stopped ≡ false → Part (learned h k row)
