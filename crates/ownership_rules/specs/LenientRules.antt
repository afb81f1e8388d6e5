-- The rules of a row that every version has
use Rattle.std.specs.Prelude.{if◌then◌else◌, List, [], ◌∷◌}
use Rattle.traces.specs.declared.header.Header.{Header}
use Rattle.traces.specs.declared.row.Row.{Row}
use Rattle.ring_knowledge.specs.Known.{Known}
use Rattle.ownership_rules.specs.Refusal.{broken_of}
use Rattle.ownership_rules.specs.declared.refusal.Refusal.{Refusal}
use Rattle.ownership_rules.specs.declared.refusal.Refusal.TheVariants.{AfterStop}
use Rattle.ownership_rules.specs.Rules.{lenient_tests}

module _ (h : Header) where
  -- the lenient rules that a row breaks, whatever the version
  unfoldable pub lenient : Known → Row → List Refusal
  lenient k row = if k.stopped then AfterStop ∷ [] else broken_of (lenient_tests h k row)
