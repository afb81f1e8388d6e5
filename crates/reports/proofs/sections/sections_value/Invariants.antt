use Rattle.reports.proofs.Words.{◌≡◌, map, take, view, section_data}
use Rattle.reports.proofs.sections.sections_value.Given as goal

abbrev pub invariant-loop-section : goal.invariant-loop-section
invariant-loop-section l = map view l.items.items ≡ map section_data (take l.section-index l.sections)
