-- What a write is that breaks no rule
use Rattle.std.specs.Prelude.{◌≡◌, ℕ, [], Option}
use Rattle.commands.specs.declared.command.Command.{Command}
use Rattle.traces.specs.declared.header.Header.{Header}
use Rattle.traces.specs.declared.row.Row.TheVariants.{Write}
use Rattle.ring_knowledge.specs.Known.{Known}
use Rattle.ring_knowledge.specs.Writes.{command_given}
use Rattle.ownership_rules.specs.Rules.{broken}

-- the write breaks no rule, and gives this command
pub record IsAllowed (h : Header) (k : Known) (a w : ℕ) (given : Option Command) : Type 0 where
  pub clean : broken h k (Write a w) ≡ []
  pub command : command_given h k a w ≡ given
