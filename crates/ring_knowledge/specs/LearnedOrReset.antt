-- What is known behind a row that says something of the controller, or resets it
use Rattle.std.specs.Prelude.{if◌then◌else◌}
use Rattle.traces.specs.declared.header.Header.{Header}
use Rattle.traces.specs.declared.row.Row.{Row}
use Rattle.traces.specs.declared.row.Row.TheVariants.{Reg}
use Rattle.ring_knowledge.specs.Known.{Known}
use Rattle.ring_knowledge.specs.Learned.{learned}
use Rattle.ring_knowledge.specs.Resets.{reset, resets}

-- what is known behind a row by which no ring comes or goes and no descriptor is withdrawn, where the ring that it starts or moves is restored
abbrev pub learned_or_reset : Header → Known → Row → Known
learned_or_reset h k (Reg r v) = if resets k r v then reset h k else learned h k (Reg r v)
learned_or_reset h k row = learned h k row
